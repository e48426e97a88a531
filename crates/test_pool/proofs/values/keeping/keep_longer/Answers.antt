use Rattle.std.proofs.Common.{◌≡◌, List, ◌∷◌, ap, sym, ◌∙◌, subst}
use Rattle.pin_core.specs.Holding.{Holding}
use Rattle.pinned_pool.specs.Moves.{without_keys}
use Rattle.pinned_pool.specs.declared.view.View.{View}
use Rattle.frag_value.specs.Exactly.{HasExactly}
use Rattle.frag_value.specs.Values.{Frags, HasValue, IsValue, keys_of}
use Rattle.frag_value.proofs.Carried.{back_again, back_longer}
use Rattle.frag_value.proofs.Exact.{exactly_first, exactly_gained, exactly_lost}
use Rattle.frag_value.proofs.Released.{has_holds}
use Rattle.frag_value.proofs.Staying.{stays_moved}
use Rattle.test_pool.proofs.values.keeping.keep_longer.Goals as goal

still_value : (v w : Frags) (hs now : List Holding) → w ≡ v → now ≡ hs → HasValue hs v → HasValue now w
still_value v w hs now same_value same_holds has = subst (λ l. HasValue l w) (sym same_holds)
    (subst (HasValue hs) (sym same_value) has)

pub append-requires : goal.append-requires
append-requires g c =
    (stays_moved _ _ _ _ _ c.is_seat.ensures c.is_seat-2.ensures (exactly_first _ _ _ _ c.requires.exactly.1)
    c.fetch.ensures.into).has

pub lend-requires-clause-held : goal.lend-requires-clause-held
lend-requires-clause-held g c = has_holds c.in-Ok.value c.append.new.seat.holds c.in-Ok.ensures.appended.has

pub lend-requires-in-Err-clause-held : goal.lend-requires-in-Err-clause-held
lend-requires-in-Err-clause-held g c =
    let was = stays_moved _ _ _ _ _ c.is_seat.ensures c.is_seat-2.ensures (exactly_first _ _ _ _ c.requires.exactly.1)
    c.fetch.ensures.into in
    has_holds c.in-Err.value c.append.new.seat.holds
    (still_value _ _ _ _ c.in-Err.ensures.refused.0 c.in-Err.ensures.refused.1 was.has)

pub returns-in-Ok-clause-longer : goal.returns-in-Ok-clause-longer
returns-in-Ok-clause-longer g c = λ values x.
    exactly_gained _ _ values _ _ _ c.is_seat-in-Ok.ensures c.is_seat-in-Ok-2.ensures c.is_value-in-Ok.ensures
    c.in-Ok.ensures.appended.has (exactly_lost _ _ values _ _ c.is_seat.ensures x c.fetch.ensures.from)
    c.lend.ensures.into

pub returns-in-Ok-clause-payer : goal.returns-in-Ok-clause-payer
returns-in-Ok-clause-payer g c =
    let back = back_again g.N.PoolName.sizes c.args.value c.args.owner.now c.args.payer.now c.fetch.new.into
    c.is_seat-2.ensures (exactly_first _ _ _ _ c.requires.exactly.1) c.fetch.ensures.into in (
      ap (λ (v : View). v.holds) c.lend.ensures.from ∙ back_longer _ _ _ _ _ _ _ c.is_value.ensures c.requires.some.0
          back c.in-Ok.ensures.appended,
      ap (λ (v : View). v.credits) c.lend.ensures.from ∙ c.in-Ok.ensures.claims.keeps.credits
          ∙ ap (λ (v : View). v.credits) c.fetch.ensures.into,
    )

pub returns-in-Err-clause-refused : goal.returns-in-Err-clause-refused
returns-in-Err-clause-refused g c = λ values x.
    let same = c.in-Err.ensures.refused.0 in
    let was = stays_moved _ _ _ _ _ c.is_seat.ensures c.is_seat-2.ensures (exactly_first _ _ _ _ x) c.fetch.ensures.into
    in
    let has : HasValue c.append.new.seat.holds c.in-Err.value = still_value _ _ _ _ same c.in-Err.ensures.refused.1
    was.has in
    let back = exactly_gained _ _ values _ _ _ c.is_seat-in-Err.ensures c.is_seat-in-Err-2.ensures
    (subst (IsValue g.N.PoolName.sizes) (sym same) c.is_value.ensures) has
    (exactly_lost _ _ values _ _ c.is_seat.ensures x c.fetch.ensures.from) c.lend-in-Err.ensures.into in
    (same, subst (λ v. HasExactly g.N.PoolName.sizes c.lend-in-Err.new.into.holds (v ∷ values)) same back)

pub returns-in-Err-clause-payer : goal.returns-in-Err-clause-payer
returns-in-Err-clause-payer g c =
    let back = back_again g.N.PoolName.sizes c.args.value c.args.owner.now c.args.payer.now c.fetch.new.into
    c.is_seat-2.ensures (exactly_first _ _ _ _ c.requires.exactly.1) c.fetch.ensures.into in (
      ap (λ (v : View). v.holds) c.lend-in-Err.ensures.from
          ∙ (λ i. without_keys (keys_of (c.in-Err.ensures.refused.0 i)) (c.in-Err.ensures.refused.1 i)) ∙ back,
      ap (λ (v : View). v.credits) c.lend-in-Err.ensures.from ∙ c.in-Err.ensures.claims.keeps.credits
          ∙ ap (λ (v : View). v.credits) c.fetch.ensures.into,
    )
