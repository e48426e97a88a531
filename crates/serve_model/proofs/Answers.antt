-- What the journal answers at a session's entries is what the session was told there.
use Rattle.std.proofs.Common.{◌≡◌, ℕ, ◌+◌, ◌<◌, ◌≤◌, ◌⊎◌, inl, inr, true, false, List, [], ◌∷◌, ◌++◌, Some, None}
use Rattle.std.proofs.Common.{length, map, take, arith, refl, ap, sym, ◌∙◌, subst}
use Rattle.std.proofs.lemmas.List.{append_assoc}
use Rattle.std.proofs.lemmas.Bool.{false_from_ne_true}
use Rattle.std.specs.List.{AllByRecursion, zip}
use Rattle.flake_base.specs.declared.journal.Entry.{Entry}
use Rattle.flake_model.specs.Store.{Operation, Answer}
use Rattle.flake_model.specs.Command.{Command, parts}
use Rattle.flake_model.specs.Reply.{reply_of}
use Rattle.flake_model.specs.Deed.{Deed, answers_in}
use Rattle.flake_model.specs.Journal.{Step, is_entry, answer_at, call_steps, session_steps, replies_from}
use Rattle.flake_model.specs.Order.{IsBefore}
use Rattle.flake_model.proofs.Entries.{entry_is, is_itself}
use Rattle.flake_model.proofs.OneOrder.{before_itself}
use Rattle.shard_core.specs.Outcomes.{Outcomes, call_told, answers_told, entry_at}
use Rattle.serve_model.specs.Runs.{calls_told, AreCalls, replies_told, parts_told}
use Rattle.serve_model.proofs.Places.{all_imp}
use Rattle.serve_model.proofs.Calls.{own, told_entries, both_told, at_call, at_calls}

abbrev pub told_answers : List (ℕ × Deed) → List (Entry × Answer)
told_answers told = answers_in (own told)

abbrev Differs : Entry → Entry → Type 0
Differs a b = is_entry a b ≡ false

earlier_differs : (a b : Entry) → IsBefore a b → Differs b a
earlier_differs a b before = false_from_ne_true _ (λ is. before_itself a
    (subst (λ (e : Entry). IsBefore a e) (entry_is b a is) before))

later_differs : (a b : Entry) → IsBefore a b → Differs a b
later_differs a b before = false_from_ne_true _ (λ is. before_itself a
    (subst (λ (e : Entry). IsBefore a e) (sym (entry_is a b is)) before))

skip_one : (e first : Entry) (a : Answer) (rest : List (Entry × Answer)) → Differs e first
    → answer_at e ((first, a) ∷ rest) ≡ answer_at e rest
skip_one e first a rest differs = rw differs refl

skip_told : (e : Entry) (some more : List (ℕ × Deed)) → AllByRecursion (Differs e) (told_entries some)
    → answer_at e (told_answers (some ++ more)) ≡ answer_at e (told_answers more)
skip_told e [] more differ = refl
skip_told e (x ∷ some) more differ = skip_one e x.1.entry x.1.answer (told_answers (some ++ more)) differ.0
    ∙ skip_told e some more differ.1

none_told : (e : Entry) (told : List (ℕ × Deed)) → AllByRecursion (Differs e) (told_entries told)
    → answer_at e (told_answers told) ≡ None
none_told e [] differ = refl
none_told e (x ∷ told) differ = skip_one e x.1.entry x.1.answer (told_answers told) differ.0 ∙ none_told e told differ.1

first_found : (e : Entry) (a : Answer) (rest : List (Entry × Answer)) → answer_at e ((e, a) ∷ rest) ≡ Some a
first_found e a rest = let same : is_entry e e ≡ true = is_itself e in rw same refl

-- the entry is of a later call, or of the call, from a part on
abbrev IsFrom : ℕ → ℕ → Entry → Type 0
IsFrom call part e = (call < e.call) ⊎ ((call ≡ e.call) × (part ≤ e.part))

from_next : (call part : ℕ) (e : Entry) → IsFrom call (part + 1) e → IsFrom call part e
from_next call part e (inl later) = inl later
from_next call part e (inr same) = inr (same.0, omega (arith, same.1))

behind_part : (session call part : ℕ) (e : Entry) → IsFrom call (part + 1) e → IsBefore (entry_at session call part) e
behind_part session call part e (inl later) = inl later
behind_part session call part e (inr same) = inr (same.0, omega (arith, same.1))

from_call : (call : ℕ) (e : Entry) → IsFrom call 0 e → call ≤ e.call
from_call call e (inl later) = omega arith
from_call call e (inr same) = omega (arith, same.0)

module _ (answers : List (Entry × Answer)) (shards session : ℕ) where
  -- at the session's entries of a later call or part the answers are these deeds'
  abbrev AreKnown : ℕ → ℕ → List (ℕ × Deed) → Type 0
  AreKnown call part told = (e : Entry) → e.session ≡ session → IsFrom call part e
      → answer_at e answers ≡ answer_at e (told_answers told)

  parts_are : (call part : ℕ) (operations : List Operation) (outcomes : Outcomes) (rest : List (ℕ × Deed))
      → length outcomes ≡ length operations
      → AllByRecursion (λ (entry : Entry). call < entry.call) (told_entries rest)
      → AreKnown call part (call_told shards session call part operations outcomes ++ rest)
      → map (λ (step : Step). answer_at step.0 answers) (call_steps session call part operations)
      ≡ answers_told outcomes
  parts_are call part [] [] rest long away known = refl
  parts_are call part [] (outcome ∷ outcomes) rest long away known = absurd (let no : ⊥ = omega arith in no)
  parts_are call part (operation ∷ operations) [] rest long away known = absurd (let no : ⊥ = omega arith in no)
  parts_are call part (operation ∷ operations) (None ∷ outcomes) rest long away known =
      let e = entry_at session call part in
      let later = call_told shards session call (part + 1) operations outcomes in
      let differ : AllByRecursion (Differs e) (told_entries (later ++ rest)) = both_told (Differs e) later rest
      (at_call (Differs e) shards session call (part + 1) operations outcomes
      (λ k from. later_differs e (entry_at session call k) (inr (refl, omega arith))))
      (all_imp (λ (entry : Entry). call < entry.call) (Differs e) (λ entry less. later_differs e entry (inl less))
      (told_entries rest) away) in
      let here : answer_at e answers ≡ None = known e refl (inr (refl, omega arith))
      ∙ none_told e (later ++ rest) differ in
      let next = parts_are call (part + 1) operations outcomes rest (omega arith) away
      (λ d own from. known d own (from_next call part d from)) in
      λ i. here i ∷ next i
  parts_are call part (operation ∷ operations) (Some done ∷ outcomes) rest long away known =
      let e = entry_at session call part in
      let later = call_told shards session call (part + 1) operations outcomes in
      let here : answer_at e answers ≡ Some done.answer = known e refl (inr (refl, omega arith))
      ∙ first_found e done.answer (told_answers (later ++ rest)) in
      let next = parts_are call (part + 1) operations outcomes rest (omega arith) away
      (λ d own from. known d own (from_next call part d from)
      ∙ skip_one d e done.answer (told_answers (later ++ rest))
      (earlier_differs e d (behind_part session call part d from))) in
      λ i. here i ∷ next i

  -- each part of a call with its answer
  paired : (call part : ℕ) (operations : List Operation)
      → map (λ (step : Step). (step.1, answer_at step.0 answers)) (call_steps session call part operations)
      ≡ zip operations (map (λ (step : Step). answer_at step.0 answers) (call_steps session call part operations))
  paired call part [] = refl
  paired call part (operation ∷ operations) = ap (λ rest. (operation, answer_at (entry_at session call part) answers)
      ∷ rest) (paired call (part + 1) operations)

  map_both : {A B : Type 0} (f : A → B) (some more : List A) → map f (some ++ more) ≡ map f some ++ map f more
  map_both f [] more = refl
  map_both f (x ∷ some) more = ap (λ rest. f x ∷ rest) (map_both f some more)

  both_mapped : {A B : Type 0} (f : A → B) (some more : List A) (xs ys : List B) → map f some ≡ xs → map f more ≡ ys
      → map f (some ++ more) ≡ xs ++ ys
  both_mapped f some more xs ys first rest = map_both f some more ∙ (λ i. first i ++ rest i)

  -- the replies that the answers make, and each part with its answer, are those that were told
  pub record AreTold (call : ℕ) (commands : List Command) (calls : List Outcomes) : Type 0 where
    pub replies : replies_from answers session call (take (length calls) commands) ≡ replies_told commands calls
    pub parts : map (λ (step : Step). (step.1, answer_at step.0 answers))
        (session_steps session call (take (length calls) commands)) ≡ parts_told commands calls

  pub calls_are : (call : ℕ) (commands : List Command) (calls : List Outcomes) (rest : List (ℕ × Deed))
      → AreCalls commands calls
      → AllByRecursion (λ (entry : Entry). call + length calls ≤ entry.call) (told_entries rest)
      → ((e : Entry) → e.session ≡ session → call ≤ e.call
      → answer_at e answers ≡ answer_at e (told_answers (calls_told shards session call commands calls ++ rest)))
      → AreTold call commands calls
  calls_are call commands [] rest are away known = record { replies = refl; parts = refl }
  calls_are call [] (outcomes ∷ calls) rest are away known = absurd are
  calls_are call (command ∷ commands) (outcomes ∷ calls) rest are away known =
      let here = call_told shards session call 0 (parts command) outcomes in
      let later = calls_told shards session (call + 1) commands calls in
      let known_here : (e : Entry) → e.session ≡ session → call ≤ e.call
      → answer_at e answers ≡ answer_at e (told_answers (here ++ (later ++ rest))) =
      λ e own from. known e own from ∙ ap (λ told. answer_at e (told_answers told)) (append_assoc here later rest) in
      let away_here : AllByRecursion (λ (entry : Entry). call < entry.call) (told_entries (later ++ rest)) =
      both_told (λ (entry : Entry). call < entry.call) later rest
      (at_calls (λ (entry : Entry). call < entry.call) shards session (call + 1) commands calls
      (λ n k from to. omega arith))
      (all_imp (λ (entry : Entry). call + length (outcomes ∷ calls) ≤ entry.call) (λ (entry : Entry). call < entry.call)
      (λ entry far. omega arith) (told_entries rest) away) in
      let first = parts_are call 0 (parts command) outcomes (later ++ rest) are.1 away_here
      (λ e own from. known_here e own (from_call call e from)) in
      let next = calls_are (call + 1) commands calls rest are.2
      (all_imp (λ (entry : Entry). call + length (outcomes ∷ calls) ≤ entry.call)
      (λ (entry : Entry). call + 1 + length calls ≤ entry.call) (λ entry far. omega arith) (told_entries rest) away)
      (λ e own from. known_here e own (omega arith) ∙ skip_told e here (later ++ rest)
      (at_call (Differs e) shards session call 0 (parts command) outcomes
      (λ k some. earlier_differs (entry_at session call k) e (inl (omega arith))))) in
      record {
        replies = λ i. reply_of command (first i) ∷ next.replies i;
        parts = both_mapped (λ (step : Step). (step.1, answer_at step.0 answers))
            (call_steps session call 0 (parts command))
            (session_steps session (call + 1) (take (length calls) commands))
            (zip (parts command) (answers_told outcomes)) (parts_told commands calls)
            (paired call 0 (parts command) ∙ ap (zip (parts command)) first) next.parts;
      }
