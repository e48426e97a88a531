use Rattle.test_pool.proofs.pool.reads_what_was_written.Given as goal

abbrev pub ghosts-write_and_read : goal.ghosts-write_and_read
ghosts-write_and_read g a = record { table = a.blank.table; sizes = a.blank.sizes }
