use Rattle.test_store.proofs.calls.looks.see_in.Given as goal

abbrev pub ghosts-see_named-N-BookName : goal.ghosts-see_named-N-BookName
ghosts-see_named-N-BookName g a = record { table = a.book.table; sizes = a.book.sizes }

abbrev pub ghosts-see_named-P-PoolName : goal.ghosts-see_named-P-PoolName
ghosts-see_named-P-PoolName g a = record { table = a.pool.table; sizes = a.pool.sizes }
