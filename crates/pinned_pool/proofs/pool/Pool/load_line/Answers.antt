use Rattle.std.proofs.Common.{ℕ, ◌+◌, List, get_or, ap, ◌∙◌, arith}
use Rattle.std.specs.Int.{w64, to_le_bytes}
use Rattle.pinned_pool.specs.Moves.{front_of}
use Rattle.pinned_pool.specs.declared.view.View.{View}
use Rattle.pinned_pool.proofs.Within.{front-short}
use Rattle.pinned_pool.proofs.WordRuns.{room-most, next_read}
use Rattle.pinned_pool.proofs.pool.Pool.load_line.Goals as goal

pub overflow_add-index : goal.overflow_add-index
overflow_add-index g c =
    omega (
      arith,
      front-short g.N.PoolName.sizes c.args.seat.now c.is_seat.ensures c.args.buffer c.requires.held,
      room-most g.N.PoolName.sizes c.args.buffer,
      c.requires.inside,
      c.requires.line,
      c.loop-k-test.true,
    )

pub loop-k-preserved : goal.loop-k-preserved
loop-k-preserved g c =
    let front : View → List ℕ = λ v. front_of c.args.buffer v.holds in
    let k = c.loop-k.k in
    let word = c.load_from-word.ensures.1 ∙ ap (λ v. get_or (front v) (c.args.index + k) 0) c.loop-k.invariant.seat in
    record {
      seat = c.load_from-word.ensures.0 ∙ c.loop-k.invariant.seat;
      bytes = next_read c.loop-k.room (front c.args.seat.now) _ c.args.index k _ c.loop-k.invariant.bytes
          (omega (arith, c.requires.inside, c.requires.line, c.loop-k-test.true))
          (omega (arith, c.loop-k.auto.room, c.requires.line, c.loop-k-test.true))
          (c.copy_from_slice.ensures.after ∙ c.to_le_bytes.ensures ∙ ap (to_le_bytes w64) word);
    }
