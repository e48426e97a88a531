use Rattle.test_pool.proofs.pool.two_threads_win_sixteen_buffers.Given as goal

abbrev pub ghosts-claim_halves : goal.ghosts-claim_halves
ghosts-claim_halves g a = record { table = a.blank.table; sizes = a.blank.sizes }
