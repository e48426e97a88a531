use Rattle.test_replies.proofs.acting.tell.Given as goal

abbrev pub ghosts-tell_named-N-BookName : goal.ghosts-tell_named-N-BookName
ghosts-tell_named-N-BookName g a = record { table = a.book.table; sizes = a.book.sizes }

abbrev pub ghosts-tell_named-P-PoolName : goal.ghosts-tell_named-P-PoolName
ghosts-tell_named-P-PoolName g a = record { table = a.pool.table; sizes = a.pool.sizes }
