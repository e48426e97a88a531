use Rattle.std.proofs.Common.{◌*◌, take}
use Rattle.pinned_pool.specs.Bytes.{PutsBytes}
use Rattle.pinned_pool.proofs.pool.Pool.put_line.Given as goal

abbrev pub invariant-loop-k : goal.invariant-loop-k
invariant-loop-k g l = PutsBytes l.buffer l.index (take (8 * l.k) l.bytes) l.fn.seat l.seat

abbrev pub ghosts-put_at : goal.ghosts-put_at
ghosts-put_at g a = record { buffer = a.buffer; index = a.index }
