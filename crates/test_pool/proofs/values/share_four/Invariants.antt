use Rattle.test_pool.proofs.values.share_four.Given as goal

abbrev pub ghosts-share : goal.ghosts-share
ghosts-share a = record { table = a.blank.table; sizes = a.blank.sizes }
