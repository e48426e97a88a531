use Rattle.std.proofs.Common.{refl}
use Rattle.std.specs.Prelude.{None}
use Rattle.pin_core.specs.PinStep.{move}
use Rattle.pin_core.specs.declared.event.Change.TheVariants as change
use Rattle.pin_core.specs.declared.event.PinEvent.TheVariants.{Move}
use Rattle.pin_core.specs.declared.refused.Refused.TheVariants.{NotHeld}
use Rattle.pin_core.proofs.Answering.{done, refuses, held_first-none, held_first-some}
use Rattle.pin_core.proofs.RawSteps.{is_key_held, step_kept, none_found_key, key_found, move_step, move_short}
use Rattle.pin_core.proofs.state.PinState.rename.Goals as goal

pub returns-in_default : goal.returns-in_default
returns-in_default c =
    refuses c.self.view_is (Move c.args.buffer c.args.pinned c.args.from c.args.to) c.self.invariant.sound NotHeld
    (held_first-none _ _ (none_found_key c.self.invariant c.args.from c.args.buffer c.args.pinned c.in_default.is
    c.find_key.ensures c.deref.ensures.value))

pub invariant_of-self : goal.invariant_of-self
invariant_of-self c =
    let i = c.self.inside in
    let kept = c.self.invariant in
    let held = is_key_held c.self.inside c.self.view_is c.args.buffer c.requires c.args.from c.args.pinned c.in-Some.is
    c.find_key.ensures c.deref.ensures.value c.index_mut.ensures.value in
    step_kept kept _ i.words.items i.credits
    (move (record { buffer = c.args.buffer; pinned = c.args.pinned }) c.args.from c.args.to) held.near
    (move_step kept held c.args.to) (move_short kept held c.args.to)

pub returns : goal.returns
returns c =
    let kept = c.self.invariant in
    let held = is_key_held c.self.inside c.self.view_is c.args.buffer c.requires c.args.from c.args.pinned c.in-Some.is
    c.find_key.ensures c.deref.ensures.value c.index_mut.ensures.value in
    let passes = held_first-some _ (λ _. None) _ (key_found kept held) in
    done c.self.view_is (Move c.args.buffer c.args.pinned c.args.from c.args.to) kept.sound change.Moved held.near
    passes (move_step kept held c.args.to) refl refl
