use Rattle.drive_inputs.proofs.run.drive_inputs.Given as goal

abbrev pub ghosts-drive_named-N-BookName : goal.ghosts-drive_named-N-BookName
ghosts-drive_named-N-BookName g a = record { table = a.blanks.book.table; sizes = a.blanks.book.sizes }

abbrev pub ghosts-drive_named-P-PoolName : goal.ghosts-drive_named-P-PoolName
ghosts-drive_named-P-PoolName g a = record { table = a.blanks.pool.table; sizes = a.blanks.pool.sizes }
