use Rattle.test_replies.proofs.staging.refused.Given as goal

abbrev pub ghosts-open_beside : goal.ghosts-open_beside
ghosts-open_beside a = record { table = a.blank.table; sizes = a.blank.sizes }
