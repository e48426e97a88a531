use Rattle.test_pool.proofs.pool.seats_go_into_a_list.Given as goal

abbrev pub ghosts-list_seats : goal.ghosts-list_seats
ghosts-list_seats g a = record { table = a.blank.table; sizes = a.blank.sizes }
