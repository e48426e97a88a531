use Rattle.std.proofs.Common.{◌≡◌, ℕ, List, ◌∷◌, Bool, true, false, cond, eqb, sym, refl, ap, subst, ◌∙◌}
use Rattle.std.specs.Prelude.{None}
use Rattle.pin_core.specs.Pins.{count_at}
use Rattle.view_sums.specs.Total.{SameItems}
use Rattle.pin_core.specs.PinStep.{unpin}
use Rattle.pin_core.specs.State.{SizedPins, pins_shown, pins_in, IsPoolState}
use Rattle.pin_core.specs.declared.state.Hold.{Hold}
use Rattle.pin_core.specs.declared.event.Change.TheVariants as change
use Rattle.pin_core.specs.declared.event.PinEvent.TheVariants.{Unpin}
use Rattle.pin_core.specs.declared.refused.Refused.TheVariants.{NotHeld}
use Rattle.pin_core.proofs.Answering.{done, refuses, no_memory, held_first-none, held_first-some, on_ok, on_err}
use Rattle.pin_core.proofs.RawSteps.{is_key_held, step_kept, none_found_key, some_key_found, key_found, unpin_step}
use Rattle.pin_core.proofs.RawSteps.{unpin_short}
use Rattle.pin_core.proofs.state.PinState.unpin.Goals as goal
use Rattle.pin_core.proofs.AccountSums.{paid_back}
use mir.Val.{bool_byte}

as_number : (t : Bool) → bool_byte t ≡ cond t 1 0
as_number true = refl
as_number false = refl

pub returns-in_default : goal.returns-in_default
returns-in_default c =
    refuses c.self.view_is (Unpin c.args.buffer c.args.holder c.args.pinned) c.self.invariant.sound NotHeld
    (held_first-none _ _ (none_found_key c.self.invariant c.args.holder c.args.buffer c.args.pinned c.in_default.is
    c.find_key.ensures c.deref.ensures.value))

pub returns-then-is_err : goal.returns-then-is_err
returns-then-is_err c =
    let i = c.self.inside in
    let kept = c.self.invariant in
    let some = some_key_found kept c.args.holder c.args.buffer c.args.pinned c.in-Some.is c.find_key.ensures
    c.deref.ensures.value in
    let same : c.add.new.self ≡ i.credits = on_err c.add.result c.if-is_err.ensures.value c.add.ensures.err in
    no_memory c.self.view_is (Unpin c.args.buffer c.args.holder c.args.pinned) kept.sound
    (held_first-some _ (λ _. None) _ some.1) (ap (pins_shown i.sizes i.holds.items i.words.items) same)

pub invariant_of-self-2 : goal.invariant_of-self-2
invariant_of-self-2 c =
    let i = c.self.inside in
    let kept = c.self.invariant in
    let held = is_key_held c.self.inside c.self.view_is c.args.buffer c.requires c.args.holder c.args.pinned
    c.in-Some.is c.find_key.ensures c.deref.ensures.value c.remove.ensures.value in
    let pays : SameItems c.add.new.self (cond c.args.pinned (c.args.holder ∷ i.credits) i.credits) =
    paid_back c.args.pinned c.from.result c.args.holder i.credits c.add.new.self
    (c.from.ensures ∙ as_number c.args.pinned) (on_ok c.add.result c.if-is_err.ensures.value c.add.ensures.ok) in
    let step = unpin_step kept held c.add.new.self pays in
    subst (λ (holds : List Hold). IsPoolState i.sizes holds i.words.items c.add.new.self) (sym c.remove.ensures.items)
    (step_kept kept _ i.words.items c.add.new.self
    (unpin (record { buffer = c.args.buffer; pinned = c.args.pinned }) c.args.holder) held.near step
    (unpin_short kept held))

pub returns : goal.returns
returns c =
    let i = c.self.inside in
    let kept = c.self.invariant in
    let held = is_key_held c.self.inside c.self.view_is c.args.buffer c.requires c.args.holder c.args.pinned
    c.in-Some.is c.find_key.ensures c.deref.ensures.value c.remove.ensures.value in
    let pays : SameItems c.add.new.self (cond c.args.pinned (c.args.holder ∷ i.credits) i.credits) =
    paid_back c.args.pinned c.from.result c.args.holder i.credits c.add.new.self
    (c.from.ensures ∙ as_number c.args.pinned) (on_ok c.add.result c.if-is_err.ensures.value c.add.ensures.ok) in
    let passes = held_first-some _ (λ _. None) _ (key_found kept held) in
    let last : eqb c.holders_of-last.result 1
    ≡ eqb (count_at c.args.buffer (pins_in i.sizes i.holds.items i.words.items i.credits).holds) 1 =
    ap (λ (n : ℕ). eqb n 1)
    (c.holders_of-last.ensures ∙ ap (λ (s : SizedPins). count_at c.args.buffer s.pins.holds) (sym c.self.view_is))
    in
    done c.self.view_is (Unpin c.args.buffer c.args.holder c.args.pinned) kept.sound
    (change.Unpinned (eqb c.holders_of-last.result 1)) held.near passes (unpin_step kept held c.add.new.self pays)
    (ap change.Unpinned last)
    (ap (λ (holds : List Hold). pins_shown i.sizes holds i.words.items c.add.new.self) c.remove.ensures.items)
