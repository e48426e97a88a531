use Rattle.std.proofs.Common.{sym, ◌∙◌, ap, subst}
use Rattle.std.specs.Prelude.{⊤}
use Rattle.atomic_table.specs.declared.shared.Seat.{Seat}
use Rattle.pin_core.specs.declared.sizes.Sizes.{Sizes}
use Rattle.pinned_pool.specs.Named.{ClaimsAreNearby}
use Rattle.pinned_pool.specs.Views.{IsLoose}
use Rattle.pinned_pool.specs.Ends.{LooksClaimed, AllEnded}
use Rattle.pinned_pool.specs.declared.view.View.{View}
use Rattle.pinned_pool.proofs.Closing.{ends, Ended, end_same}
use Rattle.pinned_pool.proofs.pool.Pool.close.Goals as goal

pub returns-clause-end : goal.returns-clause-end
returns-clause-end g c = let named = c.args.self.named in let sized = c.args.self.sized in
    let t = ends _ _ _ _ _
    (ap (λ (v : View). v.credits) c.seat.view_is ∙ c.requires ∙ ap (λ (z : Sizes). z.credits) (sym named.sizes_are))
    c.close_with-closed.ensures.values.2 in
    end_same g.N.PoolName.sizes c.args.self.table.shared.key _ c.args.seat _ c.args.self.small c.args.self.large _ _
    named.sizes_are (subst (Ended c.args.self.table.shared.key _) c.seat.view_is t)
    (ap (λ (m : Seat ⊤ View). m.me.0) c.of-last.ensures ∙ c.seat.view_is) sized.0 sized.1
    c.count_held.ensures c.count_held-2.ensures

pub returns-clause-loose : goal.returns-clause-loose
returns-clause-loose g c = let named = c.args.self.named in
    let t = ends _ _ _ _ _
    (ap (λ (v : View). v.credits) c.seat.view_is ∙ c.requires ∙ ap (λ (z : Sizes). z.credits) (sym named.sizes_are))
    c.close_with-closed.ensures.values.2 in
    subst IsLoose c.seat.view_is t.loose

pub returns-clause-looks : goal.returns-clause-looks
returns-clause-looks g c = let named = c.args.self.named in
    let t = ends _ _ _ _ _
    (ap (λ (v : View). v.credits) c.seat.view_is ∙ c.requires ∙ ap (λ (z : Sizes). z.credits) (sym named.sizes_are))
    c.close_with-closed.ensures.values.2 in
    subst LooksClaimed c.seat.view_is t.looks

pub returns-clause-lasts : goal.returns-clause-lasts
returns-clause-lasts g c = let named = c.args.self.named in
    let t = ends _ _ _ _ _
    (ap (λ (v : View). v.credits) c.seat.view_is ∙ c.requires ∙ ap (λ (z : Sizes). z.credits) (sym named.sizes_are))
    c.close_with-closed.ensures.values.2 in
    subst AllEnded c.seat.view_is t.lasts

pub returns-clause-claimed : goal.returns-clause-claimed
returns-clause-claimed g c = subst (ClaimsAreNearby g.N.PoolName.sizes) c.seat.view_is c.seat.invariant.kept.claimed
