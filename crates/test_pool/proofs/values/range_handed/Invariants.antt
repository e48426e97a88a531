use Rattle.test_pool.proofs.values.range_handed.Given as goal

abbrev pub ghosts-hand_range_to_copier : goal.ghosts-hand_range_to_copier
ghosts-hand_range_to_copier a = record { table = a.blank.table; sizes = a.blank.sizes }
