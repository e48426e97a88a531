use Rattle.test_replies.proofs.replies.see.Given as goal

abbrev pub ghosts-see_named : goal.ghosts-see_named
ghosts-see_named a = record { table = a.blank.table; sizes = a.blank.sizes }
