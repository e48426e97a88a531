use Rattle.std.proofs.Common.{◌≡◌, ℕ, ◌+◌, ◌-◌, ◌*◌, ◌<◌, ◌≤◌, take, drop, length, ap, sym, subst, ◌∙◌, arith}
use Rattle.std.proofs.lemmas.List.{length-take}
use Rattle.view_sums.specs.Total.{total}
use Rattle.pin_core.specs.Buffers.{buffer_words}
use Rattle.pin_core.specs.Holding.{sole_at}
use Rattle.pinned_pool.specs.Moves.{put, front_of}
use Rattle.pinned_pool.proofs.WordRuns.{puts-sole, puts-front, next_word}
use Rattle.pinned_pool.proofs.pool.Pool.put_words.Goals as goal

pub put_at-requires-clause-exclusive : goal.put_at-requires-clause-exclusive
put_at-requires-clause-exclusive g c =
    subst (λ (b : ℕ). 0 < total (sole_at b) c.loop-k.seat.holds) (sym c.buffer-buffer.ensures.buffer)
    (puts-sole c.args.hold.now.buffer c.args.index (take (8 * c.loop-k.k) c.args.bytes.now) c.args.seat.now
    c.loop-k.seat c.loop-k.invariant c.requires.exclusive)

pub put_at-requires-clause-index : goal.put_at-requires-clause-index
put_at-requires-clause-index g c =
    let z = g.N.PoolName.sizes in
    let done = take (8 * c.loop-k.k) c.args.bytes.now in
    let long = puts-front c.args.hold.now.buffer c.args.index done c.args.seat.now c.loop-k.seat c.loop-k.invariant
    c.requires.exclusive c.requires.index.0 in
    subst (λ (b : ℕ). (c.args.index + c.loop-k.k ≤ length (front_of b c.loop-k.seat.holds))
    × (c.args.index + c.loop-k.k < buffer_words z b)) (sym c.buffer-buffer.ensures.buffer)
    (omega (arith, long, length-take (8 * c.loop-k.k) c.args.bytes.now), omega (arith, c.requires.index.1))

pub loop-k-preserved : goal.loop-k-preserved
loop-k-preserved g c =
    let b = c.args.hold.now.buffer in
    let step = c.put_at.ensures
    ∙ ap (λ (n : ℕ). put n (c.args.index + c.loop-k.k) c.whole_word-word.result c.loop-k.seat)
    c.buffer-buffer.ensures.buffer in
    let n : 8 * c.loop-k.k + 8 - 8 * c.loop-k.k ≡ 8 = omega arith in
    next_word b c.args.index c.loop-k.k c.whole_word-word.result c.args.bytes.now c.args.seat.now c.loop-k.seat
    c.put_at.new.seat (omega arith) c.loop-k.invariant
    (c.whole_word-word.ensures ∙ ap (λ m. take m (drop (8 * c.loop-k.k) c.args.bytes.now)) n) step
