use Rattle.test_pool.proofs.values.write_and_append.Given as goal

abbrev pub ghosts-keep : goal.ghosts-keep
ghosts-keep a = record { table = a.blank.table; sizes = a.blank.sizes }
