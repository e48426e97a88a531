use Rattle.test_replies.proofs.threads.work.Given as goal

abbrev pub ghosts-work_named : goal.ghosts-work_named
ghosts-work_named g a = record { table = a.blank.table; sizes = a.blank.sizes }
