use Rattle.test_pool.proofs.values.fills_one_buffer.Given as goal

abbrev pub ghosts-fill_large : goal.ghosts-fill_large
ghosts-fill_large g a = record { table = a.blank.table; sizes = a.blank.sizes }
