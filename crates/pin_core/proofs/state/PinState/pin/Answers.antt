use Rattle.std.proofs.Common.{◌≡◌, ◌<◌, List, [], ◌∷◌, ◌++◌, false, set, get_or, sym, refl, ap, subst, ◌∙◌, arith}
use Rattle.std.proofs.lemmas.Bool.{lt-ltb, le-ltb}
use Rattle.pin_core.specs.PinStep.{pin}
use Rattle.pin_core.specs.Answers.{credits_of}
use Rattle.pin_core.specs.State.{pins_shown, IsPoolState}
use Rattle.pin_core.specs.declared.state.Hold.{Hold}
use Rattle.pin_core.specs.declared.event.Change.TheVariants as change
use Rattle.pin_core.specs.declared.event.PinEvent.TheVariants.{Pin}
use Rattle.pin_core.specs.declared.refused.Refused.TheVariants.{NotHeld, NoCredit}
use Rattle.pin_core.proofs.Answering.{done, refuses, no_memory, unless-passed, unless-failed, held_first-none}
use Rattle.pin_core.proofs.Answering.{held_first-some, failed_push, made_push}
use Rattle.pin_core.proofs.RawSteps.{is_held, step_kept, none_found, some_found, one_found, copy_for, pin_step}
use Rattle.pin_core.proofs.RawSteps.{pin_short}
use Rattle.pin_core.proofs.state.PinState.pin.Goals as goal
use Rattle.pin_core.proofs.Found.{get_or-append_left}

pub returns-in_default : goal.returns-in_default
returns-in_default c =
    refuses c.self.view_is (Pin c.args.buffer c.args.from c.args.to) c.self.invariant.sound NotHeld
    (held_first-none _ _ (none_found c.self.invariant c.args.from c.args.buffer c.in_default.is c.find_hold.ensures
    c.deref.ensures.value))

pub returns-then-of-eq0 : goal.returns-then-of-eq0
returns-then-of-eq0 c =
    let i = c.self.inside in
    let kept = c.self.invariant in
    let some = some_found kept c.args.from c.args.buffer c.in-Some.is c.find_hold.ensures c.deref.ensures.value in
    refuses c.self.view_is (Pin c.args.buffer c.args.from c.args.to) kept.sound NoCredit
    (held_first-some _ _ _ some.1
    ∙ unless-failed _ _ _
    (le-ltb 0 (credits_of c.args.to i.credits) (omega (arith, c.of.ensures, c.if-of-eq0.true))))

pub returns-then-is_err : goal.returns-then-is_err
returns-then-is_err c =
    let i = c.self.inside in
    let kept = c.self.invariant in
    let held = is_held c.self.inside c.self.view_is c.args.buffer c.requires c.args.from c.in-Some.is
    c.find_hold.ensures c.deref.ensures.value c.index.ensures in
    let some_credit : 0 < credits_of c.args.to i.credits = omega (arith, c.of.ensures, c.if-of-eq0.false) in
    let passes = held_first-some _ _ _ (one_found kept held) ∙ unless-passed _ _ _ (lt-ltb 0 _ some_credit) in
    let same : c.push.new.self.items ≡ i.holds.items = failed_push c.push.result _ _ _ c.if-is_err.ensures.value
    c.push.ensures.items in
    no_memory c.self.view_is (Pin c.args.buffer c.args.from c.args.to) kept.sound passes
    (ap (λ holds. pins_shown i.sizes holds i.words.items i.credits) same)

pub invariant_of-self-2 : goal.invariant_of-self-2
invariant_of-self-2 c =
    let i = c.self.inside in
    let kept = c.self.invariant in
    let held = is_held c.self.inside c.self.view_is c.args.buffer c.requires c.args.from c.in-Some.is
    c.find_hold.ensures c.deref.ensures.value c.index.ensures in
    let step = pin_step kept held c.args.to c.take.new.self c.take.ensures in
    let pushed : c.push.new.self.items ≡ (i.holds.items ++ copy_for kept held c.args.to ∷ []) =
    made_push c.push.result _ _ _ c.if-is_err.ensures.value c.push.ensures.items in
    let same : c.index_mut.result.now ≡ c.index.result.now =
    c.index_mut.ensures.value ∙ ap (λ (holds : List Hold). get_or holds c.in-Some.k c.index_mut.result.now) pushed
    ∙ get_or-append_left i.holds.items _ c.in-Some.k c.index_mut.result.now held.there.near
    ∙ held.there.here c.index_mut.result.now in
    subst (λ (holds : List Hold). IsPoolState i.sizes holds i.words.items c.take.new.self)
    (λ j. set (sym pushed j) c.in-Some.k (record (sym same j) { exclusive = false }))
    (step_kept kept _ i.words.items c.take.new.self (pin c.args.buffer c.args.from c.args.to) held.near step
    (pin_short kept held c.args.to))

pub returns : goal.returns
returns c =
    let i = c.self.inside in
    let kept = c.self.invariant in
    let held = is_held c.self.inside c.self.view_is c.args.buffer c.requires c.args.from c.in-Some.is
    c.find_hold.ensures c.deref.ensures.value c.index.ensures in
    let step = pin_step kept held c.args.to c.take.new.self c.take.ensures in
    let some_credit : 0 < credits_of c.args.to i.credits = omega (arith, c.of.ensures, c.if-of-eq0.false) in
    let passes = held_first-some _ _ _ (one_found kept held) ∙ unless-passed _ _ _ (lt-ltb 0 _ some_credit) in
    let pushed : c.push.new.self.items ≡ (i.holds.items ++ copy_for kept held c.args.to ∷ []) =
    made_push c.push.result _ _ _ c.if-is_err.ensures.value c.push.ensures.items in
    let same : c.index_mut.result.now ≡ c.index.result.now =
    c.index_mut.ensures.value ∙ ap (λ (holds : List Hold). get_or holds c.in-Some.k c.index_mut.result.now) pushed
    ∙ get_or-append_left i.holds.items _ c.in-Some.k c.index_mut.result.now held.there.near
    ∙ held.there.here c.index_mut.result.now in
    done c.self.view_is (Pin c.args.buffer c.args.from c.args.to) kept.sound change.Pinned held.near passes step refl
    (λ j. pins_shown i.sizes (set (pushed j) c.in-Some.k (record (same j) { exclusive = false })) i.words.items
    c.take.new.self)
