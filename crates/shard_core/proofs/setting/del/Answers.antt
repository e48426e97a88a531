use Rattle.std.proofs.Common.{◌≡◌, None, Some, sym, ap, ◌∙◌, subst}
use Rattle.std.specs.FinMap as finite
use Rattle.shard_core.specs.Kept.{frags_of, value_at, AreHeld}
use Rattle.shard_core.proofs.Entries.{updated}
use Rattle.shard_core.proofs.Changed.{cut-swap}
use Rattle.shard_core.proofs.Holds.{has_found, cut_held, cut_agrees, gone_held, gone_agrees}
use Rattle.shard_core.proofs.setting.del.Goals as goal

pub release-requires : goal.release-requires
release-requires g c = has_found g.P.PoolName.sizes _ _ _ c.requires.kept.held c.args.key.now
    c.into_value.result (sym c.in-Some.ensures.value ∙ ap Some (sym c.into_value.ensures))

pub returns-in-Some-clause-kept : goal.returns-in-Some-clause-kept
returns-in-Some-clause-kept g c =
    let z = g.P.PoolName.sizes in
    let es = c.args.kept.now.values.entries in
    let now = c.swap_remove.new.self.entries in
    let hs = c.args.kept.now.own.holds in
    let key = c.args.key.now in
    let old = c.into_value.result in
    let there : value_at key es ≡ Some old = sym c.in-Some.ensures.value ∙ ap Some (sym c.into_value.ensures) in
    let gone = cut-swap es now key old there c.in-Some.ensures.entries
    (updated key c.args.kept.now.values c.swap_remove.new.self None c.in-Some.ensures.updates) in
    let cut : AreHeld z now old hs = subst (λ o. AreHeld z now (frags_of o) hs) there
    (cut_held z es now key hs gone c.requires.kept.held) in
    let r = c.release.ensures in
    record {
      poor = record {
        credits = r.credits ∙ c.requires.kept.poor.credits;
        claims = r.claims ∙ c.requires.kept.poor.claims;
        looks = r.looks ∙ c.requires.kept.poor.looks;
      };
      held = gone_held z now hs c.release.new.seat.holds old c.is_seat.ensures.fronts.0
          c.is_seat.ensures.fronts.1 r.holds cut;
    }

pub returns-in-Some-clause-agrees : goal.returns-in-Some-clause-agrees
returns-in-Some-clause-agrees g c = λ s p a.
    let z = g.P.PoolName.sizes in
    let es = c.args.kept.now.values.entries in
    let now = c.swap_remove.new.self.entries in
    let hs = c.args.kept.now.own.holds in
    let key = c.args.key.now in
    let old = c.into_value.result in
    let there : value_at key es ≡ Some old = sym c.in-Some.ensures.value ∙ ap Some (sym c.into_value.ensures) in
    let changed = updated key c.args.kept.now.values c.swap_remove.new.self None c.in-Some.ensures.updates in
    let gone = cut-swap es now key old there c.in-Some.ensures.entries changed in
    let cut : AreHeld z now old hs = subst (λ o. AreHeld z now (frags_of o) hs) there
    (cut_held z es now key hs gone c.requires.kept.held) in
    gone_agrees z now hs c.release.new.seat.holds old c.is_seat.ensures.fronts.0 c.is_seat.ensures.fronts.1
    c.release.ensures.holds cut (finite.remove s key) (finite.remove p key)
    (cut_agrees z es now key hs changed s p a)

pub returns-in-None-clause-agrees : goal.returns-in-None-clause-agrees
returns-in-None-clause-agrees g c = λ s p a.
    cut_agrees g.P.PoolName.sizes c.args.kept.now.values.entries c.swap_remove.new.self.entries c.args.key.now
    c.args.kept.now.own.holds
    (updated c.args.key.now c.args.kept.now.values c.swap_remove.new.self None c.in-None.ensures.updates) s p a
