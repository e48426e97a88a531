use Rattle.std.proofs.Common.{◌≡◌, [], sym, ap, subst}
use Rattle.pin_core.specs.declared.sizes.Sizes.{Sizes}
use Rattle.pinned_pool.specs.declared.view.View.{View}
use Rattle.frag_value.specs.Exactly.{HasExactly}
use Rattle.frag_value.proofs.Exact.{exactly_none, exactly_first}
use Rattle.test_pool.proofs.values.keep_and_release.Goals as goal

-- a seat that was split off without holds
new_seat : (z : Sizes) (new : View) → new.holds ≡ [] → HasExactly z new.holds []
new_seat z new none = subst (λ hs. HasExactly z hs []) (sym none) (exactly_none z)

pub keep_other-requires-clause-exactly : goal.keep_other-requires-clause-exactly
keep_other-requires-clause-exactly g c = (
  [],
  c.in-Ok.ensures.one_more []
      (new_seat g.N.PoolName.sizes c.split-owner.result (ap (λ (v : View). v.holds) c.split-owner.ensures.new)),
)

pub keep_longer-requires-clause-exactly : goal.keep_longer-requires-clause-exactly
keep_longer-requires-clause-exactly g c = (
  [],
  c.in-Ok-keep_other.ensures.other []
      (c.in-Ok.ensures.one_more []
      (new_seat g.N.PoolName.sizes c.split-owner.result (ap (λ (v : View). v.holds) c.split-owner.ensures.new))),
)

pub release-requires : goal.release-requires
release-requires g c =
    exactly_first _ _ _ _
    (c.in-Ok-keep_longer.ensures.longer []
    (c.in-Ok-keep_other.ensures.other []
    (c.in-Ok.ensures.one_more []
    (new_seat g.N.PoolName.sizes c.split-owner.result (ap (λ (v : View). v.holds) c.split-owner.ensures.new)))))
