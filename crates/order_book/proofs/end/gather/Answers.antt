use Rattle.std.proofs.Common.{◌≡◌, [], List, sym, ◌∙◌, ap, refl, subst}
use Rattle.view_sums.specs.Total.{Each}
use Rattle.order_book.specs.Plays.{joined_pages}
use Rattle.order_book.specs.Named.{view_in, IsLive, all_before}
use Rattle.order_book.specs.declared.place.Place.{Place}
use Rattle.order_book.proofs.Owned.{view_of}
use Rattle.order_book.proofs.Steps.{joins_seat}
use Rattle.order_book.proofs.Gathered.{all_but_last, last_before}
use Rattle.order_book.proofs.end.gather.Goals as goal

pub join_seat-requires : goal.join_seat-requires
join_seat-requires c =
    let inv = c.loop-place.invariant in
    let P : Place → Type 0 = IsLive c.args.table.now.shared.table_id in
    let live = all_but_last P _ _ (subst (Each P) c.in-Some.ensures.some inv.3) in
    (c.into_seat-next.ensures.0 ∙ live.1.named, inv.0, inv.2, c.requires.table, joins_seat _ _ _ _ _)

pub loop-place-preserved : goal.loop-place-preserved
loop-place-preserved c =
    let inv = c.loop-place.invariant in
    let P : Place → Type 0 = IsLive c.args.table.now.shared.table_id in
    let live = all_but_last P _ _ (subst (Each P) c.in-Some.ensures.some inv.3) in
    let own : c.into_seat-next.result.me.0 ≡ view_in c.in-Some.place.badge.views =
    view_of _ _ _ _ refl c.into_seat-next.ensures.2 live.1.one in
    let now = ap (λ m. m.0) c.join_seat.ensures.2 ∙ ap (λ v. joined_pages v c.loop-place.all.me.0) own in (
      c.join_seat.ensures.0 ∙ c.into_seat-next.ensures.0 ∙ live.1.named,
      ap (all_before c.pop.new.self.items) now
          ∙ sym (last_before c.pop.new.self.items c.in-Some.place c.loop-place.all.me.0)
          ∙ ap (λ l. all_before l c.loop-place.all.me.0) (sym c.in-Some.ensures.some) ∙ inv.1,
      ap (λ m. m.1) c.join_seat.ensures.2 ∙ c.into_seat-next.ensures.3,
      live.0,
    )

pub returns-clause-pages : goal.returns-clause-pages
returns-clause-pages c =
    let inv = c.loop-place.invariant in
    let none : c.loop-place.places.items ≡ [] = c.in_default.ensures.none.0 refl in
    let pages = ap (λ (l : List Place). all_before l c.loop-place.all.me.0) (sym none) ∙ inv.1 in
    λ i. (pages i, inv.2 i)
