-- How many buffers of a class a call may claim, and how many pieces of its answers stay in the pool's buffers.
use Rattle.std.specs.Prelude.{ℕ, ◌-◌, ◌+◌, ◌%◌, List, [], ◌∷◌, nat_le, if◌then◌else◌, length, take, drop, Option, Some}
use Rattle.std.specs.Prelude.{None}
use Rattle.view_sums.specs.Total.{total}
use Rattle.pin_core.specs.declared.class.Class.{Class}
use Rattle.flake_model.specs.Fragments.{fragment_limit, fragments_of}
use Rattle.flake_model.specs.Store.{Operation}
use Rattle.flake_model.specs.Store.{Answer, value}
use Rattle.shard_core.specs.Demand.{part_row}
use Rattle.shard_core.specs.Pieces.{is_over}
use Rattle.shard_core.specs.Outcomes.{PartOutcome, Outcomes}

abbrev pub parts_row : Class → List Operation → ℕ
parts_row class operations = total (part_row class) operations

-- bytes from a place of a value on, cut where the value's fragments end; none of the pieces is empty
abbrev pub pieces_from : ℕ → List ℕ → List (List ℕ)
pieces_from first [] = []
pieces_from first (byte ∷ bytes) =
    take (fragment_limit - first % fragment_limit) (byte ∷ bytes)
    ∷ fragments_of (drop (fragment_limit - first % fragment_limit) (byte ∷ bytes))

-- how many of them have at least the threshold's bytes, so that they stay in the pool's buffers
abbrev pub stay_in : ℕ → List (List ℕ) → ℕ
stay_in threshold pieces = total (λ (piece : List ℕ). if nat_le threshold (length piece) then 1 else 0) pieces

abbrev pub value_stays : ℕ → Answer → ℕ → ℕ
value_stays threshold (value bytes) first = stay_in threshold (pieces_from first bytes)
value_stays threshold answer first = 0

-- how many holds an operation's answer pins, where it begins at this place of the value; a SET that stores hands the
-- holds of the value that it asked for over, and pins none
abbrev pub pins_by : ℕ → Operation → Answer → ℕ → ℕ
pins_by threshold operation answer first =
    if is_over operation then 0 else value_stays threshold answer first

abbrev pub part_pins : ℕ → Operation → Option PartOutcome → ℕ
part_pins threshold operation None = 0
part_pins threshold operation (Some done) = pins_by threshold operation done.answer done.first

-- those of a call's parts together
abbrev pub call_pins : ℕ → List Operation → Outcomes → ℕ
call_pins threshold operations [] = 0
call_pins threshold [] (outcome ∷ outcomes) = 0
call_pins threshold (operation ∷ operations) (outcome ∷ outcomes) =
    part_pins threshold operation outcome + call_pins threshold operations outcomes
