-- Each part of a request's command has a key, and bytes, that a SET may have.
use Rattle.std.proofs.Common.{◌≡◌, ℕ, zero, suc, List, [], ◌∷◌, map, Option, None, Some, arith, refl, sym, subst}
use Rattle.std.specs.Prelude.{slice_get}
use Rattle.std.specs.List.{AllByRecursion}
use Rattle.flake_base.specs.declared.journal.Entry.{Entry}
use Rattle.flake_base.specs.declared.session.End.{End}
use Rattle.flake_base.specs.declared.session.End.TheVariants.{Clean, Protocol, Truncated, TooLong, ReadFault, Memory}
use Rattle.flake_base.specs.declared.session.End.TheVariants.{Left}
use Rattle.flake_model.specs.Resp.{Words}
use Rattle.flake_model.specs.Store as part
use Rattle.flake_model.specs.Store.{Operation}
use Rattle.flake_model.specs.Command.{Command, parts, fault, command_of}
use Rattle.flake_model.specs.Input.{commands_in, protocol_error}
use Rattle.flake_model.specs.Journal.{operation_at}
use Rattle.flake_model.proofs.Requests.{IsAllowed, IsKey, HoldsOfAll, only_part, request_holds}
use Rattle.flake_model.proofs.Streams.{all_append}
use Rattle.dump_model.specs.Dump.{ParsedInput, commands_parsed}

abbrev pub Holds : Command → Type 0
Holds command = AllByRecursion IsAllowed (parts command)

-- an operation on each key, without bytes
each_allowed : (f : List ℕ → Operation) → ((key : List ℕ) → IsKey key → IsAllowed (f key)) → (keys : List (List ℕ))
    → AllByRecursion IsKey keys → AllByRecursion IsAllowed (map f keys)
each_allowed f allowed [] all = tt
each_allowed f allowed (key ∷ keys) all = (allowed key all.0, each_allowed f allowed keys all.1)

all_allowed : HoldsOfAll Holds
all_allowed = record {
  error = λ kind. tt;
  pong = tt;
  message = λ bytes short. tt;
  values = λ keys are. each_allowed part.get (λ key short. record { key = short; bytes = omega arith }) keys are.short;
  removed = λ keys are. each_allowed part.del (λ key short. record { key = short; bytes = omega arith }) keys are.short;
  there = λ keys are.
      each_allowed part.exists (λ key short. record { key = short; bytes = omega arith }) keys are.short;
  one = λ operation allowed. subst (AllByRecursion IsAllowed) (sym (only_part operation)) (allowed, tt);
}

requests_allowed : (requests : List Words) → AllByRecursion Holds (map command_of requests)
requests_allowed [] = tt
requests_allowed (words ∷ requests) = (request_holds Holds all_allowed words, requests_allowed requests)

input_allowed : (requests : List Words) (end : End) → AllByRecursion Holds (commands_in requests end)
input_allowed requests Clean = requests_allowed requests
input_allowed requests (Protocol kind place) =
    all_append Holds (map command_of requests) (fault (protocol_error kind) ∷ []) (requests_allowed requests) (tt, tt)
input_allowed requests (Truncated place) = requests_allowed requests
input_allowed requests TooLong = requests_allowed requests
input_allowed requests ReadFault = requests_allowed requests
input_allowed requests Memory = requests_allowed requests
input_allowed requests Left = requests_allowed requests

inputs_allowed : (inputs : List ParsedInput) → AllByRecursion (AllByRecursion Holds) (commands_parsed inputs)
inputs_allowed [] = tt
inputs_allowed (input ∷ inputs) = (input_allowed input.0 input.1, inputs_allowed inputs)

-- what holds of all items holds of the one at a place
pub all_slice_get : {A : Type 0} (P : A → Type 0) (xs : List A) (k : ℕ) (x : A) → AllByRecursion P xs
    → slice_get xs k ≡ Some x → P x
all_slice_get P [] k x all is = absurd (let no : None ≡ Some x = is in cc)
all_slice_get P (y ∷ xs) zero x all is = subst P (let same : Some y ≡ Some x = is in cc) all.0
all_slice_get P (y ∷ xs) (suc k) x all is = all_slice_get P xs k x all.1 is

-- the part that an entry names is one of a request
pub entry_allowed : (inputs : List ParsedInput) (entry : Entry) (operation : Operation)
    → operation_at (commands_parsed inputs) entry ≡ Some operation → IsAllowed operation
entry_allowed inputs entry operation is = in_session (slice_get (commands_parsed inputs) entry.session) refl where
  in_call : (commands : List Command) → slice_get (commands_parsed inputs) entry.session ≡ Some commands
      → (found : Option Command) → slice_get commands entry.call ≡ found → IsAllowed operation
  in_call commands at None none = absurd (let no : None ≡ Some operation = rw (at, none) at is in cc)
  in_call commands at (Some command) one =
      let here : slice_get (parts command) entry.part ≡ Some operation = rw (at, one) at is in
      let all =
      all_slice_get Holds commands entry.call command
      (all_slice_get (AllByRecursion Holds) (commands_parsed inputs) entry.session commands
      (inputs_allowed inputs) at) one in
      all_slice_get IsAllowed (parts command) entry.part operation all here

  in_session : (found : Option (List Command)) → slice_get (commands_parsed inputs) entry.session ≡ found
      → IsAllowed operation
  in_session None none = absurd (let no : None ≡ Some operation = rw none at is in cc)
  in_session (Some commands) at = in_call commands at (slice_get commands entry.call) refl
