use Rattle.std.proofs.Common.{sym, ◌∙◌, subst}
use Rattle.std.specs.Prelude.{⊤}
use mathlib.Core.Option.{none}
use Rattle.atomic_table.specs.Table.{Me}
use Rattle.pinned_pool.specs.Views.{IsLoose, OneFront}
use Rattle.pinned_pool.specs.declared.view.View.{View}
use Rattle.pinned_pool.proofs.Names.{some_word}
use Rattle.pinned_pool.proofs.Steps.{joins_seat, learns}
use Rattle.pinned_pool.proofs.Within.{next_seat, seat_joined}
use Rattle.pinned_pool.proofs.pool.Pool.glue.Goals as goal

pub join_seat-requires : goal.join_seat-requires
join_seat-requires g c = let named = c.args.self.now.named in (
  c.into.invariant.named ∙ sym named.table_is,
  c.from.invariant.named
      ∙ sym named.table_is,
  c.from.invariant.no_slot,
  some_word _ _ _ _ named,
  joins_seat _ 0 _ c.into.inside.seat.me
      _ _ c.into.invariant.kept.live,
)

pub load-requires : goal.load-requires
load-requires g c = let named = c.args.self.now.named in (
  c.join_seat.ensures.0 ∙ c.into.invariant.named ∙ sym named.table_is,
  some_word _ _ _ _ named,
  learns _ _ _
      c.join_seat.new.seat.me 0 none,
)

pub invariant_of-into : goal.invariant_of-into
invariant_of-into g c =
    let joins = c.join_seat.ensures in
    let loads = c.load.ensures in
    let was = c.into.invariant in
    let mine = c.into.inside.seat.me in
    let other = c.from.inside.seat.me in
    let loose = subst (λ (m : Me ⊤ View). IsLoose m.0) joins.2 loads.2.1 in
    let fronts = subst (λ (m : Me ⊤ View). OneFront m.0) joins.2 loads.2.2 in
    next_seat _ _ _ _ mine _ _ was (loads.0 ∙ joins.0) (loads.2.0 ∙ joins.2)
    (seat_joined g.N.PoolName.sizes mine.0 was.kept other.0 c.from.invariant.kept loose fronts)
