use Rattle.std.proofs.Common.{◌≡◌, ℕ, ◌+◌, ◌-◌, ◌*◌, ◌<◌, ◌≤◌, take, drop, length, ap, sym, subst, ◌∙◌, arith}
use Rattle.std.proofs.lemmas.List.{length-take, length-drop}
use Rattle.view_sums.specs.Total.{total}
use Rattle.pin_core.specs.Buffers.{buffer_words}
use Rattle.pin_core.specs.Holding.{sole_at}
use Rattle.pinned_pool.specs.Moves.{front_of}
use Rattle.pinned_pool.specs.Bytes.{PutsBytes}
use Rattle.pinned_pool.proofs.WordRuns.{puts-sole, puts-front, next_line_put}
use Rattle.pinned_pool.proofs.pool.Pool.put_lines.Goals as goal

pub put_line-requires-clause-exclusive : goal.put_line-requires-clause-exclusive
put_line-requires-clause-exclusive g c =
    subst (λ (b : ℕ). 0 < total (sole_at b) c.loop-k.seat.holds) (sym c.buffer-buffer.ensures.buffer)
    (puts-sole c.args.hold.now.buffer c.args.index (take (64 * c.loop-k.k) c.args.bytes.now) c.args.seat.now
    c.loop-k.seat c.loop-k.invariant c.requires.exclusive)

pub put_line-requires-clause-index : goal.put_line-requires-clause-index
put_line-requires-clause-index g c =
    let z = g.N.PoolName.sizes in
    let k = c.loop-k.k in
    let bytes = c.args.bytes.now in
    let line = take (64 * k + 64 - 64 * k) (drop (64 * k) bytes) in
    let done = take (64 * k) bytes in
    let long = puts-front c.args.hold.now.buffer c.args.index done c.args.seat.now c.loop-k.seat c.loop-k.invariant
    c.requires.exclusive c.requires.index.0 in
    let here : length line ≡ 64 = omega (
      arith,
      length-take (64 * k + 64 - 64 * k) (drop (64 * k) bytes),
      length-drop (64 * k) bytes,
      c.loop-k-test.true,
    ) in
    subst (λ (b : ℕ). (c.args.index + 8 * k ≤ length (front_of b c.loop-k.seat.holds))
    × (8 * (c.args.index + 8 * k) + length line ≤ 8 * buffer_words z b)) (sym c.buffer-buffer.ensures.buffer) (
      omega (arith, long, length-take (64 * k) bytes, c.loop-k-test.true),
      omega (arith, c.requires.index.1, here, c.loop-k-test.true),
    )

pub loop-k-preserved : goal.loop-k-preserved
loop-k-preserved g c =
    let k = c.loop-k.k in
    let bytes = c.args.bytes.now in
    let line = take (64 * k + 64 - 64 * k) (drop (64 * k) bytes) in
    let n : 64 * k + 64 - 64 * k ≡ 64 = omega arith in
    next_line_put c.args.hold.now.buffer c.args.index k bytes line c.args.seat.now c.loop-k.seat c.put_line.new.seat
    (omega (arith, c.loop-k-test.true)) c.loop-k.invariant (ap (λ m. take m (drop (64 * k) bytes)) n)
    (subst (λ (b : ℕ). PutsBytes b (c.args.index + 8 * k) line c.loop-k.seat c.put_line.new.seat)
    c.buffer-buffer.ensures.buffer c.put_line.ensures)
