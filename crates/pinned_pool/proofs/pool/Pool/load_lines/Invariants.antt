use Rattle.std.proofs.Common.{◌≡◌, ◌*◌, take, drop}
use Rattle.pinned_pool.specs.Bytes.{bytes_of_words}
use Rattle.pinned_pool.specs.Moves.{front_of}
use Rattle.pinned_pool.proofs.pool.Pool.load_lines.Given as goal

abbrev pub invariant-loop-k : goal.invariant-loop-k
invariant-loop-k g l = record {
  seat : l.seat ≡ l.fn.seat;
  bytes : take (64 * l.k) l.room
      ≡ take (64 * l.k) (drop (8 * l.index) (bytes_of_words (front_of l.buffer l.fn.seat.holds)));
}
