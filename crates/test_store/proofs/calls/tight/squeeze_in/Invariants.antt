use Rattle.test_store.proofs.calls.tight.squeeze_in.Given as goal

abbrev pub ghosts-squeeze-N-BookName : goal.ghosts-squeeze-N-BookName
ghosts-squeeze-N-BookName g a = record { table = a.book.table; sizes = a.book.sizes }

abbrev pub ghosts-squeeze-P-PoolName : goal.ghosts-squeeze-P-PoolName
ghosts-squeeze-P-PoolName g a = record { table = a.pool.table; sizes = a.pool.sizes }
