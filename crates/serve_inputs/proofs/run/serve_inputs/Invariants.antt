use Rattle.serve_inputs.proofs.run.serve_inputs.Given as goal

abbrev pub ghosts-serve_named-N-BookName : goal.ghosts-serve_named-N-BookName
ghosts-serve_named-N-BookName g a = record { table = a.blanks.book.table; sizes = a.blanks.book.sizes }

abbrev pub ghosts-serve_named-P-PoolName : goal.ghosts-serve_named-P-PoolName
ghosts-serve_named-P-PoolName g a = record { table = a.blanks.pool.table; sizes = a.blanks.pool.sizes }
