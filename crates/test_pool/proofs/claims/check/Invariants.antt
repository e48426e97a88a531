use Rattle.test_pool.proofs.claims.check.Given as goal

abbrev pub ghosts-claim_each : goal.ghosts-claim_each
ghosts-claim_each g a = record { table = a.blank.table; sizes = a.blank.sizes }
