use Rattle.std.proofs.Common.{sym, ◌∙◌}
use mathlib.Core.Logic.{dite}
use mathlib.Core.Option.{none}
use native.Mathlib.Decide.{ℕ_discrete}
use Rattle.pinned_pool.proofs.Names.{near}
use Rattle.pinned_pool.proofs.Steps.{looks_at}
use Rattle.pinned_pool.proofs.Within.{next_seat, seat_lost}
use Rattle.pinned_pool.proofs.pool.Pool.seems_free.Goals as goal

pub load-found-requires : goal.load-found-requires
load-found-requires g c = let named = c.args.self.now.named in let b = near _ _ _ _ named c.args.buffer c.requires in (
  c.seat.invariant.named ∙ sym named.table_is,
  b.1,
  looks_at _ _ _ _ c.args.buffer none b.0
      c.seat.invariant.kept.live,
)

pub invariant_of-seat : goal.invariant_of-seat
invariant_of-seat g c =
    let e = c.load-found.ensures in
    let was = c.seat.invariant in
    let z = g.N.PoolName.sizes in
    let me = c.seat.inside.seat.me in
    dite (ℕ_discrete c.load-found.result 0)
    (λ free. next_seat _ _ _ _ me _ _ was e.0 (e.2.0 free) was.kept)
    (λ held. next_seat _ _ _ _ me _ _ was e.0 (e.2.1 held)
    (seat_lost z me.0 was.kept c.args.buffer c.load-found.result))
