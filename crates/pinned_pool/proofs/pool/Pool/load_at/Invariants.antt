use Rattle.pinned_pool.proofs.pool.Pool.load_at.Given as goal

abbrev pub ghosts-load_from : goal.ghosts-load_from
ghosts-load_from g a = record { buffer = a.buffer; index = a.index }
