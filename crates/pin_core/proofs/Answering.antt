-- The three kinds of answers: a step was made, a test refused it, or memory was wanting.
use Rattle.std.proofs.Common.{◌≡◌, List, Bool, true, false, sym, refl, ap, subst}
use Rattle.std.specs.Prelude.{Option, None, Some, Result, Ok, Err, MatchOption, IsOkUnless, OnOk, OnErr, is_ok, is_err}
use Rattle.std.specs.Prelude.{if◌then◌else◌}
use Rattle.pin_core.specs.Holding.{Holding}
use Rattle.pin_core.specs.Pins.{Owned, Pins}
use Rattle.pin_core.specs.PinStep.{IsNear, PinStep}
use Rattle.pin_core.specs.Sound.{IsSound}
use Rattle.pin_core.proofs.Steps.{step_sound}
use Rattle.pin_core.specs.Answers.{event_of, refusal_of, change_of, unless, held_first}
use Rattle.pin_core.specs.State.{SizedPins, IsAnswer}
use Rattle.pin_core.specs.declared.holder.Holder.{Holder}
use Rattle.pin_core.specs.declared.event.PinEvent.{PinEvent}
use Rattle.pin_core.specs.declared.event.Change.{Change}
use Rattle.pin_core.specs.declared.refused.Refused.{Refused}
use Rattle.pin_core.specs.declared.refused.Refused.TheVariants.{Memory, NotHeld}

abbrev Refuses : Result Change Refused → Option Refused → Type 0
Refuses result first = MatchOption first (IsOkUnless result Memory) (λ r. result ≡ Err r)

module _ {old now : SizedPins} (is : old ≡ now) (event : PinEvent) (sound : IsSound old.sizes old.pins) where
  -- the new state has the same sizes
  pub done : (change : Change) {new : Pins Holder} {after : SizedPins} → IsNear old.sizes (event_of event)
      → refusal_of old.sizes old.pins event ≡ None → PinStep old.sizes old.pins (event_of event) new
      → change ≡ change_of old.pins event → after ≡ record { sizes = old.sizes; pins = new }
      → IsAnswer now event (Ok change) after
  done change {new = new} {after = after} near passes step tells same = subst (λ s. IsAnswer s event (Ok change) after)
      is (subst (IsAnswer old event (Ok change)) (sym same) (record {
        refused = subst (Refuses (Ok change)) (sym passes) tt;
        stepped = step;
        tells = tells;
        unchanged = tt;
        sizes = refl;
        was_sound = sound;
        sound = step_sound old.sizes old.pins new (event_of event) near step sound;
      }))

  pub refuses : (r : Refused) → refusal_of old.sizes old.pins event ≡ Some r → IsAnswer now event (Err r) now
  refuses r refused = subst (λ s. IsAnswer s event (Err r) s) is
      (record {
        refused = subst (Refuses (Err r)) (sym refused) refl;
        stepped = tt;
        tells = tt;
        unchanged = refl;
        sizes = refl;
        was_sound = sound;
        sound = sound;
      })

  pub no_memory : {after : SizedPins} → refusal_of old.sizes old.pins event ≡ None → after ≡ old
      → IsAnswer now event (Err Memory) after
  no_memory {after} passes same = subst (λ s. IsAnswer s event (Err Memory) after) is
      (subst (IsAnswer old event (Err Memory)) (sym same)
      (record {
        refused = subst (Refuses (Err Memory)) (sym passes) refl;
        stepped = tt;
        tells = tt;
        unchanged = refl;
        sizes = refl;
        was_sound = sound;
        sound = sound;
      }))

-- a test that passes, and one that fails
pub unless-passed : (t : Bool) (r : Refused) (later : Option Refused) → t ≡ true → unless t r later ≡ later
unless-passed t r later e = ap (λ b. unless b r later) e

pub unless-failed : (t : Bool) (r : Refused) (later : Option Refused) → t ≡ false → unless t r later ≡ Some r
unless-failed t r later e = ap (λ b. unless b r later) e

pub held_first-none : (o : Option (Owned Holder)) (tests : Holding → Option Refused) → o ≡ None → held_first o tests
    ≡ Some NotHeld
held_first-none o tests e = ap (λ x. held_first x tests) e

pub held_first-some : (o : Option (Owned Holder)) (tests : Holding → Option Refused) (x : Owned Holder) → o ≡ Some x
    → held_first o tests ≡ tests x.hold
held_first-some o tests x e = ap (λ y. held_first y tests) e

-- what a call ensures on the one outcome, where it was tested for that
pub on_ok : {A B P : Type 0} (r : Result A B) → false ≡ is_err r → OnOk r P → P
on_ok (Ok x) was ensured = ensured
on_ok (Err e) was ensured = absurd (cc)

pub on_err : {A B P : Type 0} (r : Result A B) → true ≡ is_err r → OnErr r P → P
on_err (Ok x) was ensured = absurd (cc)
on_err (Err e) was ensured = ensured

-- the items after a push
pub made_push : {X A B : Type 0} (r : Result A B) (after pushed before : List X) → false ≡ is_err r
    → after ≡ (if is_ok r then pushed else before) → after ≡ pushed
made_push (Ok x) after pushed before was e = e
made_push (Err x) after pushed before was e = absurd (cc)

pub failed_push : {X A B : Type 0} (r : Result A B) (after pushed before : List X) → true ≡ is_err r
    → after ≡ (if is_ok r then pushed else before) → after ≡ before
failed_push (Ok x) after pushed before was e = absurd (cc)
failed_push (Err x) after pushed before was e = e
