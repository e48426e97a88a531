-- All requests are ones that sessions make.
use Rattle.std.proofs.Common.{◌≡◌, ℕ, zero, suc, ◌+◌, ◌-◌, ◌*◌, ◌%◌, ◌<◌, ◌≤◌, nat_lt, nat_eq, Bool, true, false, cond}
use Rattle.std.proofs.Common.{refl, arith}
use Rattle.std.proofs.lemmas.Bool.Decides.{nat_tests}
use Rattle.std.specs.List.{AllByRecursion}
use Rattle.request_gen.specs.Draws.{drawn, next_state}
use Rattle.request_gen.specs.Requests.{Made, IsRequest, made, picked, of_operation, own_set, shared_set, requests_from}
use Rattle.request_gen.specs.declared.request.Key.TheVariants.{Shared, Own}
use Rattle.request_gen.specs.declared.request.DrawnRequest.{DrawnRequest}
use Rattle.request_gen.specs.declared.request.DrawnRequest.TheVariants.{Get, GetFour, Set, Append, Del}

either : (b : Bool) (x y : Made) → IsRequest x.request → IsRequest y.request → IsRequest (cond b x y).request
either true x y hx hy = hx
either false x y hx hy = hy

set_allowed : (n : ℕ) → n < 16 → IsRequest (shared_set n)
set_allowed n below = (below, omega arith)

own_allowed : (n state : ℕ) → n < 16 → IsRequest (own_set n state).request
own_allowed n state below = (below, omega arith)

operation_allowed : (op n state : ℕ) → n < 16 → IsRequest (of_operation op n state).request
operation_allowed op n state below =
    let plain : DrawnRequest → Made = λ request. record { request = request; state = state } in
    let from_5 : Made = cond (nat_eq op 5) (plain (Append n)) (plain (Del n)) in
    let from_4 : Made = cond (nat_eq op 4) (own_set n state) from_5 in
    let from_3 : Made = cond (nat_eq op 3) (plain (shared_set n)) from_4 in
    let from_2 : Made = cond (nat_eq op 2) (plain (GetFour n)) from_3 in
    let from_1 : Made = cond (nat_eq op 1) (plain (Get (Own n))) from_2 in
    either (nat_eq op 0) (plain (Get (Shared n))) from_1 below
    (either (nat_eq op 1) (plain (Get (Own n))) from_2 below
    (either (nat_eq op 2) (plain (GetFour n)) from_3 below
    (either (nat_eq op 3) (plain (shared_set n)) from_4 (set_allowed n below)
    (either (nat_eq op 4) (own_set n state) from_5 (own_allowed n state below)
    (either (nat_eq op 5) (plain (Append n)) (plain (Del n)) below below)))))

picked_allowed : (state : ℕ) → IsRequest (picked state).request
picked_allowed state =
    operation_allowed (drawn (next_state state) % 7) (drawn (next_state (next_state state)) % 16)
    (next_state (next_state state)) (omega arith)

-- what is made behind the first 16
abbrev later : ℕ → ℕ → Made
later r state = cond (nat_lt r 32) (record { request = Set (Own (r - 16)) (50 + 600 * (r - 16)); state = state })
    (picked state)

later_allowed : (r state : ℕ) → 16 ≤ r → IsRequest (later r state).request
later_allowed r state from =
    elim (nat_lt r 32) as
    (λ b. nat_lt r 32 ≡ b
    → IsRequest (cond b (record { request = Set (Own (r - 16)) (50 + 600 * (r - 16)); state = state })
    (picked state)).request) [
      | true ↦ (λ is. (let below : r < 32 = grind (arith, nat_tests) in (omega arith, omega arith)))
      | false ↦ (λ is. picked_allowed state)
    ] refl

pub made_allowed : (r state : ℕ) → IsRequest (made r state).request
made_allowed r state =
    elim (nat_lt r 16) as
    (λ b. nat_lt r 16 ≡ b
    → IsRequest (cond b (record { request = shared_set r; state = state }) (later r state)).request) [
      | true ↦ (λ is. set_allowed r (grind (arith, nat_tests)))
      | false ↦ (λ is. later_allowed r state (grind (arith, nat_tests)))
    ] refl

pub all_allowed : (count r state : ℕ) → AllByRecursion IsRequest (requests_from count r state)
all_allowed zero r state = tt
all_allowed (suc more) r state = (made_allowed r state, all_allowed more (r + 1) (made r state).state)
