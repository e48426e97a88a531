use Rattle.test_pool.proofs.values.handed.Given as goal

abbrev pub ghosts-hand_to_copier : goal.ghosts-hand_to_copier
ghosts-hand_to_copier a = record { table = a.blank.table; sizes = a.blank.sizes }
