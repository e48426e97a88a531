-- What requests may claim, added up.
use Rattle.std.proofs.Common.{◌≡◌, ◌∙◌, ap, refl, ℕ, suc, ◌+◌, ◌-◌, ◌<◌, List, [], ◌∷◌, map, arith}
use Rattle.std.specs.List.{AllByRecursion, range_with_len}
use Rattle.std.proofs.lemmas.List.{length-replicate}
use Rattle.view_sums.specs.Total.{total}
use Rattle.pin_core.specs.declared.class.Class.{Class}
use Rattle.pin_core.specs.declared.class.Class.TheVariants.{Small, Large}
use Rattle.frag_value.specs.Counts.{class_buffers_for}
use Rattle.frag_value.proofs.Counting.{count-bytes}
use Rattle.flake_model.specs.Command.{command_of, parts}
use Rattle.shard_core.specs.CallDemand.{parts_row}
use Rattle.serve_model.specs.Demand.{commands_row, session_row, stage_row}
use Rattle.request_gen.specs.Commands.{command_for}
use Rattle.request_gen.specs.Draws.{first_state}
use Rattle.request_gen.specs.Requests.{IsRequest, made, requests_from, generated_requests}
use Rattle.request_gen.specs.Words.{value_of, generated_words, letter_of}
use Rattle.request_gen.proofs.Allowed.{all_allowed}
use Rattle.request_gen.proofs.Meant.{is_meant}
use Rattle.request_gen.specs.declared.request.DrawnRequest.{DrawnRequest}
use Rattle.request_gen.specs.declared.request.DrawnRequest.TheVariants.{Get, GetFour, Set, Append, Del}
use Rattle.serve_generated.specs.Rows.{request_row}
use Rattle.serve_generated.specs.Sessions.{generated_commands_of}

-- the parts of what is meant
meant_row : (class : Class) (session : ℕ) (request : DrawnRequest)
    → parts_row class (parts (command_for session request))
    ≡ request_row class request
meant_row Small session (Get key) = refl
meant_row Large session (Get key) = refl
meant_row Small session (GetFour n) = refl
meant_row Large session (GetFour n) = refl
meant_row class session (Set key len) =
    omega (
      arith,
      count-bytes class (value_of session key len),
      ap (class_buffers_for class)
          (length-replicate len (letter_of session key)),
    )
meant_row Small session (Append n) = refl
meant_row Large session (Append n) = refl
meant_row Small session (Del n) = refl
meant_row Large session (Del n) = refl

one_row : (class : Class) (session : ℕ) (request : DrawnRequest) → session < 16 → IsRequest request
    → parts_row class (parts (command_of (generated_words session request))) ≡ request_row class request
one_row class session request small is = ap (λ command. parts_row class (parts command))
    (is_meant session request small is) ∙ meant_row class session request

all_rows : (class : Class) (session : ℕ) (requests : List DrawnRequest) → session < 16
    → AllByRecursion IsRequest requests
    → commands_row class (map command_of (map (generated_words session) requests)) ≡ total (request_row class) requests
all_rows class session [] small all = refl
all_rows class session (request ∷ requests) small all =
    omega (arith, one_row class session request small all.0, all_rows class session requests small all.1)

-- what the requests from request r on may claim
abbrev pub row_from : Class → ℕ → ℕ → ℕ → ℕ
row_from class count r state = total (request_row class) (requests_from count r state)

pub session_rows : (class : Class) (number session count : ℕ) → session < 16
    → session_row class (generated_commands_of number session count) ≡ stage_row class + row_from class count 0
    (first_state number session)
session_rows class number session count small =
    ap (λ n. stage_row class + n)
    (all_rows class session (generated_requests number session count) small
    (all_allowed count 0 (first_state number session)))

-- one request more
pub first_row : (class : Class) (count r state : ℕ) → r < count
    → row_from class (count - r) r state ≡ request_row class (made r state).request + row_from class (count - (r + 1))
    (r + 1) (made r state).state
first_row class count r state below =
    let e : count - r ≡ suc (count - (r + 1)) = omega arith in
    ap (λ k. row_from class k r state) e

-- what the sessions from one on may claim
abbrev pub sessions_from : Class → ℕ → ℕ → ℕ → ℕ → ℕ
sessions_from class number count session more = total (session_row class)
    (map (λ s. generated_commands_of number s count) (range_with_len session more))

-- one session more
pub first_session : (class : Class) (number count session sessions : ℕ) → session < sessions
    → sessions_from class number count session (sessions - session)
    ≡ session_row class (generated_commands_of number session count) + sessions_from class number count (session + 1)
    (sessions - (session + 1))
first_session class number count session sessions below =
    let e : sessions - session ≡ suc (sessions - (session + 1)) = omega arith in
    ap (sessions_from class number count session) e
