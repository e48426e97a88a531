use Rattle.std.proofs.Common.{sym, ap, ◌∙◌, subst}
use Rattle.std.specs.Prelude.{⊤}
use Rattle.atomic_table.specs.Table.{Me}
use Rattle.pinned_pool.specs.Blanks.{BlankPool}
use Rattle.pinned_pool.specs.Named.{IsSeat}
use Rattle.pinned_pool.specs.declared.view.View.{View}
use Rattle.pinned_pool.proofs.Within.{seat_opened}
use Rattle.pinned_pool.proofs.blank.PoolBlank.name.Goals as goal

pub invariant_of-seat : goal.invariant_of-seat
invariant_of-seat g c = let was = c.self.invariant in record {
  named = was.seated.0 ∙ ap (λ (b : BlankPool). b.table) c.self.view_is ∙ sym c.requires.0;
  no_slot = ap (λ (m : Me ⊤ View). m.1) was.seated.1;
  kept = subst (λ (m : Me ⊤ View). IsSeat g.N.PoolName.sizes m.0) (sym was.seated.1)
      (seat_opened g.N.PoolName.sizes c.self.inside.table.shared.key.credits was.rich);
}
