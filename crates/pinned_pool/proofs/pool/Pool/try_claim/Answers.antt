use Rattle.std.proofs.Common.{sym, ◌∙◌}
use mathlib.Core.Logic.{dite}
use mathlib.Core.Option.{none}
use native.Mathlib.Decide.{ℕ_discrete}
use Rattle.pinned_pool.proofs.Names.{near}
use Rattle.pinned_pool.proofs.Steps.{claims}
use Rattle.pinned_pool.proofs.Within.{next_seat, seat_won, seat_lost}
use Rattle.pinned_pool.proofs.pool.Pool.try_claim.Goals as goal

pub compare_exchange-found-requires : goal.compare_exchange-found-requires
compare_exchange-found-requires g c = let named = c.args.self.now.named in let b =
    near _ _ _ _ named c.args.buffer c.requires in
    (c.seat.invariant.named ∙ sym named.table_is, b.1, claims _ _ _ _ c.args.buffer none b.0 c.seat.invariant.kept.live)

pub invariant_of-seat : goal.invariant_of-seat
invariant_of-seat g c =
    let e = c.compare_exchange-found.ensures in
    let was = c.seat.invariant in
    let z = g.N.PoolName.sizes in
    let me = c.seat.inside.seat.me in
    dite (ℕ_discrete c.compare_exchange-found.result 0)
    (λ free. let t = e.2.0 free in next_seat _ _ _ _ me _ _ was e.0 t.0
    (seat_won z me.0 was.kept c.args.buffer c.requires t.1))
    (λ held. next_seat _ _ _ _ me _ _ was e.0 (e.2.1 held)
    (seat_lost z me.0 was.kept c.args.buffer c.compare_exchange-found.result))
