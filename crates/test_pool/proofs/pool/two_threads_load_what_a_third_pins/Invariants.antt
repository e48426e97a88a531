use Rattle.test_pool.proofs.pool.two_threads_load_what_a_third_pins.Given as goal

abbrev pub ghosts-load_by_three : goal.ghosts-load_by_three
ghosts-load_by_three g a = record { table = a.blank.table; sizes = a.blank.sizes }
