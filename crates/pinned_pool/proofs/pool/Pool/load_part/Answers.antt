use Rattle.std.proofs.Common.{◌≡◌, ◌+◌, ◌-◌, length, take, drop, get_or, ap, sym, ◌∙◌, arith}
use Rattle.std.specs.Int.{w64, to_le_bytes}
use Rattle.pinned_pool.specs.Moves.{front_of}
use Rattle.pinned_pool.proofs.WordRuns.{part-bytes}
use Rattle.pinned_pool.proofs.pool.Pool.load_part.Goals as goal

pub returns-clause-bytes : goal.returns-clause-bytes
returns-clause-bytes g c =
    let front = front_of c.args.buffer c.args.seat.now.holds in
    let n = length c.args.room.now in
    let size : c.args.from + n - c.args.from ≡ n = omega arith in
    let word : c.to_le_bytes-word.result ≡ to_le_bytes w64 (get_or front c.args.index 0) = c.to_le_bytes-word.ensures
    ∙ ap (to_le_bytes w64) c.load_at.ensures.1 in
    c.copy_from_slice.ensures.after ∙ (λ i. take (size i) (drop c.args.from (word i)))
    ∙ sym (part-bytes front c.args.index c.args.from n c.requires.inside c.requires.part)
