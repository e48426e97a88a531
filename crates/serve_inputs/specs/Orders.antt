-- The dump that the first session is asked for.
use Rattle.std.specs.Prelude.{◌≡◌, List, [], ◌∷◌, Option, None, Some}
use Rattle.view_sums.specs.Total.{Each}
use Rattle.session_serve.specs.declared.dump.DumpPlan.{DumpPlan}
use Rattle.serve_inputs.specs.declared.orders.Order.{Order}

-- what a session is asked for, and the wire for it
abbrev pub DumpRequest : Type 0 → Type 0 → Type 0
DumpRequest P W = Option (DumpPlan P) × Option W

abbrev pub IsUnasked : {P W : Type 0} → DumpRequest P W → Type 0
IsUnasked asking = asking.0 ≡ None

-- the first session is asked for what was ordered, and the others for nothing
abbrev pub IsFirstAsked : {P W : Type 0} → Option (Order P W) → List (DumpRequest P W) → Type 0
IsFirstAsked None sessions = Each IsUnasked sessions
IsFirstAsked (Some order) [] = ⊥
IsFirstAsked (Some order) (first ∷ others) = (first ≡ (Some order.plan, Some order.wire)) × Each IsUnasked others

-- the first of these, if there is one
abbrev pub first_or_none : {X : Type 0} → List (Option X) → Option X
first_or_none [] = None
first_or_none (first ∷ others) = first
