use Rattle.test_pool.proofs.books.run.Given as goal

abbrev pub ghosts-run_named : goal.ghosts-run_named
ghosts-run_named g a = record { table = a.blank.table; sizes = a.blank.sizes }
