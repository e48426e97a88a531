use Rattle.std.proofs.Common.{◌≡◌, ◌+◌, ◌-◌, ◌*◌, take, drop, ap, ◌∙◌, arith}
use Rattle.std.proofs.lemmas.List.{length-take, take_all}
use Rattle.pinned_pool.proofs.WordRuns.{room-most, puts-sole, puts-front, puts_same, next_word}
use Rattle.pinned_pool.proofs.pool.Pool.put_line.Goals as goal

pub overflow_add-index : goal.overflow_add-index
overflow_add-index g c =
    omega (arith, room-most g.N.PoolName.sizes c.args.buffer, c.requires.index.1, c.requires.line, c.loop-k-test.true)

pub put_at-requires-clause-exclusive : goal.put_at-requires-clause-exclusive
put_at-requires-clause-exclusive g c = puts-sole c.args.buffer c.args.index (take (8 * c.loop-k.k) c.args.bytes.now)
    c.args.seat.now c.loop-k.seat c.loop-k.invariant c.requires.exclusive

pub put_at-requires-clause-index : goal.put_at-requires-clause-index
put_at-requires-clause-index g c =
    let done = take (8 * c.loop-k.k) c.args.bytes.now in
    let long = puts-front c.args.buffer c.args.index done c.args.seat.now c.loop-k.seat c.loop-k.invariant
    c.requires.exclusive c.requires.index.0 in (
      omega (arith, long, length-take (8 * c.loop-k.k) c.args.bytes.now, c.requires.line, c.loop-k-test.true),
      omega (arith, c.requires.index.1, c.requires.line, c.loop-k-test.true),
    )

pub loop-k-preserved : goal.loop-k-preserved
loop-k-preserved g c =
    let n : 8 * c.loop-k.k + 8 - 8 * c.loop-k.k ≡ 8 = omega arith in
    next_word c.args.buffer c.args.index c.loop-k.k c.whole_word-word.result c.args.bytes.now c.args.seat.now
    c.loop-k.seat c.put_at.new.seat (omega (arith, c.requires.line, c.loop-k-test.true)) c.loop-k.invariant
    (c.whole_word-word.ensures ∙ ap (λ m. take m (drop (8 * c.loop-k.k) c.args.bytes.now)) n) c.put_at.ensures

pub returns : goal.returns
returns g c = puts_same c.args.buffer c.args.index (take (8 * c.loop-k.k) c.args.bytes.now) c.args.bytes.now
    c.args.seat.now c.loop-k.seat
    (take_all (8 * c.loop-k.k) c.args.bytes.now (omega (arith, c.requires.line, c.loop-k-test.false)))
    c.loop-k.invariant
