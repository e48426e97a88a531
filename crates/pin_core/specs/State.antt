-- What contracts see of the program's state, and what it answers.
use Rattle.std.specs.Prelude.{◌≡◌, ℕ, ◌≤◌, List, map, MatchOption, Result, IfOk, OnErr, IsOkUnless, Err}
use Rattle.view_sums.specs.Total.{Each}
use Rattle.pin_core.specs.Buffers.{buffer_words, IsWithin}
use Rattle.pin_core.specs.Pins.{Pins}
use Rattle.pin_core.specs.PinStep.{PinStep}
use Rattle.pin_core.specs.Sound.{IsSound, opened_pins}
use Rattle.pin_core.specs.Answers.{event_of, refusal_of, change_of}
use Rattle.pin_core.specs.Raw.{owned_in}
use Rattle.pin_core.specs.declared.sizes.Sizes.{Sizes}
use Rattle.pin_core.specs.declared.holder.Holder.{Holder}
use Rattle.pin_core.specs.declared.state.Hold.{Hold}
use Rattle.pin_core.specs.declared.event.PinEvent.{PinEvent}
use Rattle.pin_core.specs.declared.event.Change.{Change}
use Rattle.pin_core.specs.declared.refused.Refused.{Refused}
use Rattle.pin_core.specs.declared.refused.Refused.TheVariants.{Memory}

pub record SizedPins : Type 0 where
  pub sizes : Sizes
  pub pins : Pins Holder

abbrev pub opened_by : Sizes → Holder → SizedPins
opened_by z p = record { sizes = z; pins = opened_pins z p }

abbrev pub pins_in : Sizes → List Hold → List ℕ → List Holder → Pins Holder
pins_in z holds words credits = record { holds = map (owned_in z words) holds; words = words; credits = credits }

abbrev pub pins_shown : Sizes → List Hold → List ℕ → List Holder → SizedPins
pins_shown z holds words credits = record { sizes = z; pins = pins_in z holds words credits }

pub record IsPoolState (z : Sizes) (holds : List Hold) (words : List ℕ) (credits : List Holder) : Type 0 where
  pub within : IsWithin z
  pub sound : IsSound z (pins_in z holds words credits)
  pub short : Each (λ (h : Hold). h.length ≤ buffer_words z h.buffer) holds

-- how an event is answered
pub record IsAnswer (old : SizedPins) (event : PinEvent) (result : Result Change Refused) (new : SizedPins) : Type 0
  where
    pub refused : MatchOption (refusal_of old.sizes old.pins event) (IsOkUnless result Memory) (λ r. result ≡ Err r)
    pub stepped : IfOk result (λ _. PinStep old.sizes old.pins (event_of event) new.pins)
    pub tells : IfOk result (λ change. change ≡ change_of old.pins event)
    pub unchanged : OnErr result (new ≡ old)
    pub sizes : new.sizes ≡ old.sizes
    pub was_sound : IsSound old.sizes old.pins
    pub sound : IsSound new.sizes new.pins
