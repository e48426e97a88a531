use Rattle.test_pool.proofs.values.values_go_to_the_seat_that_keeps_them.Given as goal

abbrev pub ghosts-keep_and_release : goal.ghosts-keep_and_release
ghosts-keep_and_release g a = record { table = a.blank.table; sizes = a.blank.sizes }
