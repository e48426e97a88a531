use Rattle.test_pool.proofs.pool.two_threads_pin_one_buffer.Given as goal

abbrev pub ghosts-pin_by_two : goal.ghosts-pin_by_two
ghosts-pin_by_two g a = record { table = a.blank.table; sizes = a.blank.sizes }
