use Rattle.test_store.proofs.shard_maps.run_named.Given as goal

abbrev pub ghosts-run_all : goal.ghosts-run_all
ghosts-run_all a = record { table = a.blank.table; sizes = a.blank.sizes }
