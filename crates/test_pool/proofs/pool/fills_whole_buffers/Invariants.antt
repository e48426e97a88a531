use Rattle.test_pool.proofs.pool.fills_whole_buffers.Given as goal

abbrev pub ghosts-fill_both : goal.ghosts-fill_both
ghosts-fill_both g a = record { table = a.blank.table; sizes = a.blank.sizes }
