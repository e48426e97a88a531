-- One call more, and what stands when more commands are known.
use Rattle.std.proofs.Common.{◌≡◌, ℕ, suc, ◌+◌, List, [], ◌∷◌, ◌++◌, length, refl, ap, sym, ◌∙◌, append-nil, arith}
use Rattle.std.specs.List.{zip}
use Rattle.std.proofs.lemmas.List.{append_assoc}
use Rattle.flake_model.specs.Command.{Command, parts}
use Rattle.shard_core.specs.CallDemand.{call_pins}
use Rattle.shard_core.specs.Outcomes.{Outcomes, SessionDeeds, AreOutcomes, call_told, answers_told}
use Rattle.serve_model.specs.Runs.{calls_told, AreCalls, replies_told, parts_told, calls_pins}
use Rattle.serve_model.specs.Steps.{CallsAdd, FirstCalls}

module _ (shards session : ℕ) where
  calls_more : (call : ℕ) (given : List Command) (calls : List Outcomes) (command : Command) (outcomes : Outcomes)
      → length calls ≡ length given
      → calls_told shards session call (given ++ command ∷ []) (calls ++ outcomes ∷ [])
      ≡ calls_told shards session call given calls
      ++ call_told shards session (call + length given) 0 (parts command) outcomes
  calls_more call [] [] command outcomes long =
      let e : call ≡ call + 0 = omega arith in
      append-nil (call_told shards session call 0 (parts command) outcomes)
      ∙ ap (λ n. call_told shards session n 0 (parts command) outcomes) e
  calls_more call [] (o ∷ calls) command outcomes long = absurd (let no : ⊥ = omega arith in no)
  calls_more call (c ∷ given) [] command outcomes long = absurd (let no : ⊥ = omega arith in no)
  calls_more call (c ∷ given) (o ∷ calls) command outcomes long =
      let here = call_told shards session call 0 (parts c) o in
      let rest = calls_told shards session (call + 1) given calls in
      let last = call_told shards session (call + 1 + length given) 0 (parts command) outcomes in
      let e : call + 1 + length given ≡ call + suc (length given) = omega arith in
      ap (λ (told : SessionDeeds). here ++ told) (calls_more (call + 1) given calls command outcomes (omega arith))
      ∙ sym (append_assoc here rest last)
      ∙ ap (λ n. (here ++ rest) ++ call_told shards session n 0 (parts command) outcomes) e

  first_told : (call : ℕ) (given rest : List Command) (calls : List Outcomes) → length calls ≡ length given
      → calls_told shards session call (given ++ rest) calls ≡ calls_told shards session call given calls
  first_told call given rest [] long = refl
  first_told call [] rest (o ∷ calls) long = absurd (let no : ⊥ = omega arith in no)
  first_told call (c ∷ given) rest (o ∷ calls) long =
      ap (λ (told : SessionDeeds). call_told shards session call 0 (parts c) o ++ told)
      (first_told (call + 1) given rest calls (omega arith))

calls_are_more : (given : List Command) (calls : List Outcomes) (command : Command) (outcomes : Outcomes)
    → length calls ≡ length given → AreCalls given calls → AreOutcomes (parts command) outcomes
    → length outcomes ≡ length (parts command) → AreCalls (given ++ command ∷ []) (calls ++ outcomes ∷ [])
calls_are_more [] [] command outcomes long are one whole = (one, whole, tt)
calls_are_more [] (o ∷ calls) command outcomes long are one whole = absurd are
calls_are_more (c ∷ given) [] command outcomes long are one whole = absurd (let no : ⊥ = omega arith in no)
calls_are_more (c ∷ given) (o ∷ calls) command outcomes long are one whole =
    (are.0, are.1, calls_are_more given calls command outcomes (omega arith) are.2 one whole)

pub calls_add : CallsAdd
calls_add shards session given calls command outcomes long =
    let e : 0 + length given ≡ length given = omega arith in
    let told = calls_told shards session 0 given calls in
    record {
      told = calls_more shards session 0 given calls command outcomes long
          ∙ ap (λ n. told ++ call_told shards session n 0 (parts command) outcomes) e;
      are = calls_are_more given calls command outcomes long;
    }

first_are : (given rest : List Command) (calls : List Outcomes) → AreCalls given calls → AreCalls (given ++ rest) calls
first_are given rest [] are = tt
first_are [] rest (o ∷ calls) are = absurd are
first_are (c ∷ given) rest (o ∷ calls) are = (are.0, are.1, first_are given rest calls are.2)

first_replies : (given rest : List Command) (calls : List Outcomes) → length calls ≡ length given
    → replies_told (given ++ rest) calls ≡ replies_told given calls
first_replies given rest [] long = refl
first_replies [] rest (o ∷ calls) long = absurd (let no : ⊥ = omega arith in no)
first_replies (c ∷ given) rest (o ∷ calls) long =
    λ i. replies_told (c ∷ []) (o ∷ []) ++ first_replies given rest calls (omega arith) i

first_parts : (given rest : List Command) (calls : List Outcomes) → length calls ≡ length given
    → parts_told (given ++ rest) calls ≡ parts_told given calls
first_parts given rest [] long = refl
first_parts [] rest (o ∷ calls) long = absurd (let no : ⊥ = omega arith in no)
first_parts (c ∷ given) rest (o ∷ calls) long =
    ap (λ more. zip (parts c) (answers_told o) ++ more) (first_parts given rest calls (omega arith))

first_pins : (threshold : ℕ) (given rest : List Command) (calls : List Outcomes) → length calls ≡ length given
    → calls_pins threshold (given ++ rest) calls ≡ calls_pins threshold given calls
first_pins threshold given rest [] long = refl
first_pins threshold [] rest (o ∷ calls) long = absurd (let no : ⊥ = omega arith in no)
first_pins threshold (c ∷ given) rest (o ∷ calls) long =
    ap (λ n. call_pins threshold (parts c) o + n) (first_pins threshold given rest calls (omega arith))

pub first_calls : FirstCalls
first_calls shards session given rest calls long = record {
  told = first_told shards session 0 given rest calls long;
  are = first_are given rest calls;
  replies = first_replies given rest calls long;
  parts = first_parts given rest calls long;
  pins = λ threshold. first_pins threshold given rest calls long;
}
