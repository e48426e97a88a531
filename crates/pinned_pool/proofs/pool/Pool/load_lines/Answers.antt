use Rattle.std.proofs.Common.{◌≡◌, ℕ, ◌+◌, ◌-◌, ◌*◌, List, length, take, drop, sym, ap, subst, ◌∙◌, ◌<◌, arith}
use Rattle.std.proofs.lemmas.List.{length-take, length-drop}
use Rattle.view_sums.specs.Total.{total}
use Rattle.pin_core.specs.Holding.{at}
use Rattle.pinned_pool.specs.Bytes.{bytes_of_words}
use Rattle.pinned_pool.specs.Moves.{front_of}
use Rattle.pinned_pool.specs.declared.view.View.{View}
use Rattle.pinned_pool.proofs.Within.{held-near, front-short}
use Rattle.pinned_pool.proofs.WordRuns.{room-most, next_line}
use Rattle.pinned_pool.proofs.pool.Pool.load_lines.Goals as goal

pub first_word-first-requires : goal.first_word-first-requires
first_word-first-requires g c = held-near g.N.PoolName.sizes c.args.seat.now c.is_seat.ensures c.args.buffer
    c.requires.held

pub overflow_mul-k : goal.overflow_mul-k
overflow_mul-k g c =
    omega (
      arith,
      front-short g.N.PoolName.sizes c.args.seat.now c.is_seat.ensures c.args.buffer c.requires.held,
      room-most g.N.PoolName.sizes c.args.buffer,
      c.requires.inside,
      c.loop-k-test.true,
    )

pub overflow_add-index : goal.overflow_add-index
overflow_add-index g c =
    omega (
      arith,
      front-short g.N.PoolName.sizes c.args.seat.now c.is_seat.ensures c.args.buffer c.requires.held,
      room-most g.N.PoolName.sizes c.args.buffer,
      c.requires.inside,
      c.loop-k-test.true,
    )

pub load_line-requires-clause-first : goal.load_line-requires-clause-first
load_line-requires-clause-first g c = (
  held-near g.N.PoolName.sizes c.args.seat.now c.is_seat.ensures c.args.buffer c.requires.held,
  c.first_word-first.ensures,
)

pub load_line-requires-clause-held : goal.load_line-requires-clause-held
load_line-requires-clause-held g c = subst (λ (v : View). 0 < total (at c.args.buffer) v.holds)
    (sym c.loop-k.invariant.seat) c.requires.held

pub load_line-requires-clause-inside : goal.load_line-requires-clause-inside
load_line-requires-clause-inside g c =
    let k = c.loop-k.k in
    let room = c.loop-k.room in
    omega (
      arith,
      length-take (64 * k + 64 - 64 * k) (drop (64 * k) room),
      length-drop
          (64 * k) room,
      c.loop-k.auto.room,
      c.loop-k-test.true,
      c.requires.inside,
      ap
          (λ (v : View). length (front_of c.args.buffer v.holds)) c.loop-k.invariant.seat,
    )

pub loop-k-preserved : goal.loop-k-preserved
loop-k-preserved g c =
    let k = c.loop-k.k in
    let room = c.loop-k.room in
    let n = length (take (64 * k + 64 - 64 * k) (drop (64 * k) room)) in
    let bytes : View → List ℕ = λ v. bytes_of_words (front_of c.args.buffer v.holds) in
    let size : n ≡ 64 = omega (
      arith,
      length-take (64 * k + 64 - 64 * k) (drop (64 * k) room),
      length-drop (64 * k) room,
      c.loop-k.auto.room,
      c.loop-k-test.true,
    ) in
    let read = c.load_line.ensures.bytes ∙ ap (λ v. take n (drop (8 * (c.args.index + 8 * k)) (bytes v)))
    c.loop-k.invariant.seat in
    record {
      seat = c.load_line.ensures.seat ∙ c.loop-k.invariant.seat;
      bytes = next_line room (bytes c.args.seat.now) c.load_line.new.room c.args.index k n _ c.loop-k.invariant.bytes
          (omega (arith, c.loop-k.auto.room, c.loop-k-test.true)) (c.load_line.auto.room ∙ size) read size;
    }
