use Rattle.test_store.proofs.stores.run.Given as goal

abbrev pub ghosts-run_named-N-BookName : goal.ghosts-run_named-N-BookName
ghosts-run_named-N-BookName g a = record { table = a.book.table; sizes = a.book.sizes }

abbrev pub ghosts-run_named-P-PoolName : goal.ghosts-run_named-P-PoolName
ghosts-run_named-P-PoolName g a = record { table = a.pool.table; sizes = a.pool.sizes }
