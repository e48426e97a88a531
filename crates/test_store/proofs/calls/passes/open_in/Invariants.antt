use Rattle.test_store.proofs.calls.passes.open_in.Given as goal

abbrev pub ghosts-open_named-N-BookName : goal.ghosts-open_named-N-BookName
ghosts-open_named-N-BookName a = record { table = a.book.table; sizes = a.book.sizes }

abbrev pub ghosts-open_named-P-PoolName : goal.ghosts-open_named-P-PoolName
ghosts-open_named-P-PoolName a = record { table = a.pool.table; sizes = a.pool.sizes }
