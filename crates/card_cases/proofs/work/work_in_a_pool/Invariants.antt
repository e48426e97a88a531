use Rattle.card_cases.proofs.work.work_in_a_pool.Given as goal

abbrev pub ghosts-work_named : goal.ghosts-work_named
ghosts-work_named a = record { table = a.blank.table; sizes = a.blank.sizes }
