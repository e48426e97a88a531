use Rattle.test_sessions.proofs.alone.served.Given as goal

abbrev pub ghosts-serve_named-N-BookName : goal.ghosts-serve_named-N-BookName
ghosts-serve_named-N-BookName g a = record { table = a.book.table; sizes = a.book.sizes }

abbrev pub ghosts-serve_named-P-PoolName : goal.ghosts-serve_named-P-PoolName
ghosts-serve_named-P-PoolName g a = record { table = a.pool.table; sizes = a.pool.sizes }
