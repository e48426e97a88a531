-- The parts of a call, and the calls of a session, one after another.
use Rattle.std.proofs.Common.{◌≡◌, ℕ, ◌+◌, ◌<◌, zero, suc, List, [], ◌∷◌, ◌++◌, Some, length, map, take, slice_get}
use Rattle.std.proofs.Common.{arith, refl, ap, sym, ◌∙◌, append_assoc, append-nil}
use Rattle.std.proofs.lemmas.List.{map-append}
use Rattle.flake_model.specs.Store.{Operation}
use Rattle.flake_model.specs.Command.{Command, parts}
use Rattle.flake_model.specs.Journal.{Step, call_steps, session_steps}
use Rattle.replay_check.specs.declared.place.Place.{Place}
use Rattle.replay_check.specs.Places.{step_place}

-- a part's step
abbrev pub step_of_part : ℕ → ℕ → ℕ → Operation → Step
step_of_part session call part operation = (record { session = session; call = call; part = part }, operation)

more_parts : (session call from : ℕ) (operations : List Operation) (j : ℕ) (operation : Operation)
    → slice_get operations j ≡ Some operation
    → call_steps session call from (take (suc j) operations) ≡ call_steps session call from (take j operations)
    ++ step_of_part session call (from + j) operation ∷ []
more_parts session call from [] j operation is = absurd (cc (is))
more_parts session call from (first ∷ operations) zero operation is =
    let same : first ≡ operation = cc in
    let here : from ≡ from + 0 = omega arith in
    λ i. step_of_part session call (here i) (same i) ∷ []
more_parts session call from (first ∷ operations) (suc j) operation is =
    let next : from + 1 + j ≡ from + suc j = omega arith in
    ap (λ steps. step_of_part session call from first ∷ steps)
    (more_parts session call (from + 1) operations j operation is
    ∙ ap (λ n. call_steps session call (from + 1) (take j operations) ++ step_of_part session call n operation ∷ [])
    next)

pub parts_more : (session call : ℕ) (operations : List Operation) (j : ℕ) (operation : Operation)
    → slice_get operations j ≡ Some operation
    → call_steps session call 0 (take (j + 1) operations) ≡ call_steps session call 0 (take j operations)
    ++ step_of_part session call j operation ∷ []
parts_more session call operations j operation is =
    let one : j + 1 ≡ suc j = omega arith in
    let none : 0 + j ≡ j = omega arith in
    ap (λ n. call_steps session call 0 (take n operations)) one ∙ more_parts session call 0 operations j operation is
    ∙ ap (λ n. call_steps session call 0 (take j operations) ++ step_of_part session call n operation ∷ []) none

-- the places with one part more
pub places_more : (shards session call : ℕ) (operations : List Operation) (j : ℕ) (operation : Operation)
    (before : List Place) → slice_get operations j ≡ Some operation
    → (before ++ map (step_place shards) (call_steps session call 0 (take j operations)))
    ++ step_place shards (step_of_part session call j operation) ∷ []
    ≡ before ++ map (step_place shards) (call_steps session call 0 (take (j + 1) operations))
places_more shards session call operations j operation before is =
    let first = call_steps session call 0 (take j operations) in
    append_assoc before (map (step_place shards) first) (step_place shards (step_of_part session call j operation) ∷ [])
    ∙ ap (λ places. before ++ places)
    (sym (map-append (step_place shards) first (step_of_part session call j operation ∷ []))
    ∙ ap (map (step_place shards)) (sym (parts_more session call operations j operation is)))

more_calls : (session from : ℕ) (commands : List Command) (k : ℕ) (command : Command) → slice_get commands k
    ≡ Some command
    → session_steps session from (take (suc k) commands) ≡ session_steps session from (take k commands)
    ++ call_steps session (from + k) 0 (parts command)
more_calls session from [] k command is = absurd (cc (is))
more_calls session from (first ∷ commands) zero command is =
    let same : first ≡ command = cc in
    let here : from ≡ from + 0 = omega arith in
    append-nil (call_steps session from 0 (parts first)) ∙ (λ i. call_steps session (here i) 0 (parts (same i)))
more_calls session from (first ∷ commands) (suc k) command is =
    let next : from + 1 + k ≡ from + suc k = omega arith in
    let here = call_steps session from 0 (parts first) in
    let rest = session_steps session (from + 1) (take k commands) in
    ap (λ steps. here ++ steps)
    (more_calls session (from + 1) commands k command is ∙ ap (λ n. rest ++ call_steps session n 0 (parts command))
    next)
    ∙ sym (append_assoc here rest (call_steps session (from + suc k) 0 (parts command)))

pub calls_more : (session : ℕ) (commands : List Command) (k : ℕ) (command : Command) → slice_get commands k
    ≡ Some command
    → session_steps session 0 (take (k + 1) commands) ≡ session_steps session 0 (take k commands)
    ++ call_steps session k 0 (parts command)
calls_more session commands k command is =
    let one : k + 1 ≡ suc k = omega arith in
    let none : 0 + k ≡ k = omega arith in
    ap (λ n. session_steps session 0 (take n commands)) one ∙ more_calls session 0 commands k command is
    ∙ ap (λ n. session_steps session 0 (take k commands) ++ call_steps session n 0 (parts command)) none

-- the places with one call more
pub places_of_calls : (shards session : ℕ) (commands : List Command) (k : ℕ) (command : Command) → slice_get commands k
    ≡ Some command
    → map (step_place shards) (session_steps session 0 (take k commands)) ++ map (step_place shards)
    (call_steps session k 0 (parts command)) ≡ map (step_place shards) (session_steps session 0 (take (k + 1) commands))
places_of_calls shards session commands k command is =
    sym (map-append (step_place shards) (session_steps session 0 (take k commands))
    (call_steps session k 0 (parts command))) ∙ ap (map (step_place shards))
    (sym (calls_more session commands k command is))
