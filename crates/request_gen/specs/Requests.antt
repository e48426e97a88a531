-- What a session asks for, request by request.
use Rattle.std.specs.Prelude.{ℕ, zero, suc, ◌+◌, ◌-◌, ◌*◌, ◌%◌, ◌<◌, ◌≤◌, List, [], ◌∷◌}
use Rattle.std.specs.Prelude.{◌==◌, nat_lt, if◌then◌else◌}
use Rattle.request_gen.specs.Draws.{drawn, first_state, next_state}
use Rattle.request_gen.specs.declared.request.Key.{Key}
use Rattle.request_gen.specs.declared.request.Key.TheVariants.{Shared, Own}
use Rattle.request_gen.specs.declared.request.DrawnRequest.{DrawnRequest}
use Rattle.request_gen.specs.declared.request.DrawnRequest.TheVariants.{Get, GetFour, Set, Append, Del}

-- a request, and the state that it leaves
pub record Made : Type 0 where
  pub request : DrawnRequest
  pub state : ℕ

-- the values of a shared key all have one length
abbrev pub shared_set : ℕ → DrawnRequest
shared_set n = Set (Shared n) (100 + 593 * n)

-- an own key is set to so many bytes as one more draw says
abbrev pub own_set : ℕ → ℕ → Made
own_set n state = record { request = Set (Own n) (drawn (next_state state) % 9001); state = next_state state }

-- the request of an operation on a key, in the state behind the draws of both
abbrev pub of_operation : ℕ → ℕ → ℕ → Made
of_operation op n state =
    if op == 0 then plain (Get (Shared n)) else
    if op == 1 then plain (Get (Own n)) else
    if op == 2 then plain (GetFour n) else
    if op == 3 then plain (shared_set n) else
    if op == 4 then own_set n state else
    if op == 5 then plain (Append n) else plain (Del n) where
      plain : DrawnRequest → Made
      plain request = record { request = request; state = state }

-- two draws pick the operation and the key
abbrev pub picked : ℕ → Made
picked state = of_operation (drawn (next_state state) % 7) (drawn (next_state (next_state state)) % 16)
    (next_state (next_state state))

-- request r of a session: the first 32 set each key, shared and own, and the others are picked
abbrev pub made : ℕ → ℕ → Made
made r state =
    if nat_lt r 16 then record { request = shared_set r; state = state } else
    if nat_lt r 32 then record { request = Set (Own (r - 16)) (50 + 600 * (r - 16)); state = state } else
    picked state

-- so many requests, from request r on
abbrev pub requests_from : ℕ → ℕ → ℕ → List DrawnRequest
requests_from zero r state = []
requests_from (suc more) r state = (made r state).request ∷ requests_from more (r + 1) (made r state).state

-- the first requests of a session
abbrev pub generated_requests : ℕ → ℕ → ℕ → List DrawnRequest
generated_requests number session count = requests_from count 0 (first_state number session)

-- requests that sessions make
abbrev pub IsKey : Key → Type 0
IsKey (Shared n) = n < 16
IsKey (Own n) = n < 16

abbrev pub IsRequest : DrawnRequest → Type 0
IsRequest (Get key) = IsKey key
IsRequest (GetFour n) = n < 16
IsRequest (Set key len) = IsKey key × (len ≤ 9050)
IsRequest (Append n) = n < 16
IsRequest (Del n) = n < 16
