use Rattle.std.proofs.Common.{◌*◌, take}
use Rattle.pinned_pool.specs.Bytes.{PutsBytes}
use Rattle.pinned_pool.proofs.pool.Pool.put_lines.Given as goal

abbrev pub invariant-loop-k : goal.invariant-loop-k
invariant-loop-k g l = PutsBytes l.hold.buffer l.index (take (64 * l.k) l.bytes) l.fn.seat l.seat
