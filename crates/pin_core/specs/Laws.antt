-- What is true of every list of events, for any kind of holder.
use Rattle.std.specs.Prelude.{List}
use Rattle.view_sums.specs.Total.{Each}
use Rattle.pin_core.specs.Pins.{Pins}
use Rattle.pin_core.specs.PinStep.{Event, IsNear, PinSteps}
use Rattle.pin_core.specs.Sound.{IsSound, opened_pins}
use Rattle.pin_core.specs.declared.sizes.Sizes.{Sizes}

-- what any events make of a pool that was just opened is sound
abbrev pub EventsKeepSound : Type 0 → Type 0
EventsKeepSound H = (z : Sizes) (opener : H) (events : List (Event H)) (end : Pins H) → Each (IsNear z) events
    → PinSteps z (opened_pins z opener) events end → IsSound z end
