-- A history with one entry more.
use Rattle.std.proofs.Common.{◌≡◌, ℕ, ◌+◌, ◌<◌, zero, suc, List, [], ◌∷◌, ◌++◌, Option, Some, None, unwrap_or, length}
use Rattle.std.proofs.Common.{map, take, slice_get, arith, refl, ap, sym, ◌∙◌, subst, append_assoc, append-nil}
use Rattle.std.specs.Prelude.{MatchOption}
use Rattle.std.specs.List.{flat_map}
use Rattle.std.specs.FinMap as finite
use Rattle.flake_base.specs.declared.journal.Entry.{Entry}
use Rattle.flake_model.specs.Store.{Store, Operation, Answer, answer, after}
use Rattle.flake_model.specs.Command.{Command, parts}
use Rattle.flake_model.specs.Journal.{Step, operation_at, step_of, answers_from, answers_of, store_after, commands_of}
use Rattle.byte_store.specs.Store.{HoldsStore}
use Rattle.byte_store.specs.Table.{TableEntries}
use Rattle.byte_store.specs.declared.store.ByteAnswer.{ByteAnswer}
use Rattle.std.specs.Global.{Vec}
use Rattle.replay_check.specs.InOrder.{AreWrites, IsNext, left_behind, IsInOrder, AreInOrder, IsFirstFault}
use Rattle.replay_check.specs.Faults.{IsFaultIn, IsFaultOf}
use Rattle.replay_check.specs.declared.error.AnswerError.{AnswerError}
use Rattle.replay_check.specs.declared.error.AnswerError.TheVariants.{BadJournal, Memory}
use Rattle.replay_check.specs.Noted.{AreNoted, HasPart}
use Rattle.replay_check.proofs.Lists.{take_next}
use Rattle.replay_check.proofs.Noting.{answers_more, store_more}

-- an entry has one operation
pub same_operation : (commands : List Command) (entry : Entry) (operation found : Operation) (command : Command)
    → HasPart commands entry operation → slice_get commands entry.call ≡ Some command
    → slice_get (parts command) entry.part ≡ Some found → found ≡ operation
same_operation commands entry operation found command has is part =
    let same : command ≡ has.command = cc (is, has.command_is) in
    cc (part, ap (λ c. slice_get (parts c) entry.part) same, has.part_is)

-- what an entry stands for
pub stands_for : (sessions : List (List Command)) (entry : Entry) (operation : Operation)
    → HasPart (commands_of sessions entry.session) entry operation → operation_at sessions entry ≡ Some operation
stands_for sessions entry operation = by (slice_get sessions entry.session) refl where
  by : (found : Option (List Command)) → slice_get sessions entry.session ≡ found
      → HasPart (unwrap_or (slice_get sessions entry.session) []) entry operation → operation_at sessions entry
      ≡ Some operation
  by None is has =
      let none = subst (λ (f : Option (List Command)). HasPart (unwrap_or f []) entry operation) is has in
      absurd (cc (none.command_is))
  by (Some commands) is has =
      let some = subst (λ (f : Option (List Command)). HasPart (unwrap_or f []) entry operation) is has in
      rw (is, some.command_is) some.part_is

pub more_entries : (history : List Entry) (place : ℕ) (entry : Entry) → slice_get history place ≡ Some entry
    → take (place + 1) history ≡ take place history ++ entry ∷ []
more_entries [] place entry is = absurd (cc (is))
more_entries (first ∷ history) zero entry is = let same : first ≡ entry = cc in ap (λ e. e ∷ []) same
more_entries (first ∷ history) (suc place) entry is =
    let next : suc place + 1 ≡ suc (place + 1) = omega arith in
    ap (λ n. take n (first ∷ history)) next ∙ ap (λ rest. first ∷ rest) (more_entries history place entry is)

flat_append : {A B : Type 0} (f : A → List B) (xs ys : List A) → flat_map f (xs ++ ys) ≡ flat_map f xs ++ flat_map f ys
flat_append f [] ys = refl
flat_append f (x ∷ xs) ys = ap (λ rest. f x ++ rest) (flat_append f xs ys)
    ∙ sym (append_assoc (f x) (flat_map f xs) (flat_map f ys))

pub more_steps : (sessions : List (List Command)) (history : List Entry) (place : ℕ) (entry : Entry)
    (operation : Operation) → slice_get history place ≡ Some entry → operation_at sessions entry ≡ Some operation
    → flat_map (step_of sessions) (take (place + 1) history) ≡ flat_map (step_of sessions) (take place history)
    ++ (entry, operation) ∷ []
more_steps sessions history place entry operation is stands =
    let here : step_of sessions entry ≡ (entry, operation) ∷ [] = rw stands refl in
    ap (flat_map (step_of sessions)) (more_entries history place entry is) ∙ flat_append (step_of sessions)
    (take place history) (entry ∷ [])
    ∙ ap (λ steps. flat_map (step_of sessions) (take place history) ++ (steps ++ [])) here

module _ (sessions : List (List Command)) (history : List Entry) (place : ℕ) (entry : Entry) (operation : Operation)
    (is : slice_get history place ≡ Some entry)
    (has : HasPart (commands_of sessions entry.session) entry operation) where
  steps_now : flat_map (step_of sessions) (take (place + 1) history) ≡ flat_map (step_of sessions) (take place history)
      ++ (entry, operation) ∷ []
  steps_now = more_steps sessions history place entry operation is (stands_for sessions entry operation has)

  -- the store behind it
  pub held_more : (entries : TableEntries)
      → HoldsStore entries (after (store_after finite.empty (flat_map (step_of sessions) (take place history)))
      operation)
      → HoldsStore entries (store_after finite.empty (flat_map (step_of sessions) (take (place + 1) history)))
  held_more entries held = subst (HoldsStore entries)
      (sym (ap (store_after finite.empty) steps_now
      ∙ store_more finite.empty (flat_map (step_of sessions) (take place history)) (entry, operation))) held

  -- the answers with its own
  pub noted_more : (before : List (Entry × Answer)) (told : Answer) (slots : List (Vec (Option ByteAnswer)))
      → told ≡ answer (store_after finite.empty (flat_map (step_of sessions) (take place history))) operation
      → AreNoted sessions ((before ++ answers_from finite.empty (flat_map (step_of sessions) (take place history)))
      ++ (entry, told) ∷ []) slots
      → AreNoted sessions (before ++ answers_from finite.empty (flat_map (step_of sessions) (take (place + 1) history)))
      slots
  noted_more before told slots said noted =
      let steps = flat_map (step_of sessions) (take place history) in
      let now : answers_from finite.empty (flat_map (step_of sessions) (take (place + 1) history))
      ≡ answers_from finite.empty steps ++ (entry, told) ∷ [] =
      ap (answers_from finite.empty) steps_now ∙ answers_more finite.empty steps (entry, operation)
      ∙ ap (λ a. answers_from finite.empty steps ++ (entry, a) ∷ []) (sym said) in
      subst (λ answers. AreNoted sessions answers slots)
      (append_assoc before (answers_from finite.empty steps) ((entry, told) ∷ []) ∙ ap (λ a. before ++ a) (sym now))
      noted

-- a place of an entry, or the end, in order
pub in_order_at : (sessions : List (List Command)) (shards shard : ℕ) (history : List Entry) (place : ℕ) (entry : Entry)
    → slice_get history place ≡ Some entry
    → IsNext (left_behind sessions shards shard (take place history) entry.session) entry
    → IsInOrder sessions shards shard history place
in_order_at sessions shards shard history place entry is next =
    subst (λ (found : Option Entry). MatchOption found
    ((session : ℕ) → AreWrites (left_behind sessions shards shard history session))
    (λ entry. IsNext (left_behind sessions shards shard (take place history) entry.session) entry)) (sym is) next

pub not_in_order_at : (sessions : List (List Command)) (shards shard : ℕ) (history : List Entry) (place : ℕ)
    (entry : Entry) → slice_get history place ≡ Some entry
    → (IsNext (left_behind sessions shards shard (take place history) entry.session) entry → ⊥)
    → IsInOrder sessions shards shard history place → ⊥
not_in_order_at sessions shards shard history place entry is refused in_order = refused
    (subst (λ (found : Option Entry). MatchOption found
    ((session : ℕ) → AreWrites (left_behind sessions shards shard history session))
    (λ entry. IsNext (left_behind sessions shards shard (take place history) entry.session) entry)) is in_order)

pub in_order_end : (sessions : List (List Command)) (shards shard : ℕ) (history : List Entry) (place : ℕ)
    → slice_get history place ≡ None
    → ((session : ℕ) → AreWrites (left_behind sessions shards shard history session))
    → IsInOrder sessions shards shard history place
in_order_end sessions shards shard history place is all =
    subst (λ (found : Option Entry). MatchOption found
    ((session : ℕ) → AreWrites (left_behind sessions shards shard history session))
    (λ entry. IsNext (left_behind sessions shards shard (take place history) entry.session) entry)) (sym is) all

pub not_in_order_end : (sessions : List (List Command)) (shards shard : ℕ) (history : List Entry) (place : ℕ)
    → slice_get history place ≡ None
    → (((session : ℕ) → AreWrites (left_behind sessions shards shard history session)) → ⊥)
    → IsInOrder sessions shards shard history place → ⊥
not_in_order_end sessions shards shard history place is refused in_order = refused
    (subst (λ (found : Option Entry). MatchOption found
    ((session : ℕ) → AreWrites (left_behind sessions shards shard history session))
    (λ entry. IsNext (left_behind sessions shards shard (take place history) entry.session) entry)) is in_order)

-- the answers of the first shards with those of the next
pub answers_of_more : (sessions : List (List Command)) (journal : List (List Entry)) (shard : ℕ) (history : List Entry)
    → slice_get journal shard ≡ Some history
    → answers_of sessions (take shard journal) ++ answers_from finite.empty (flat_map (step_of sessions) history)
    ≡ answers_of sessions (take (shard + 1) journal)
answers_of_more sessions journal shard history is =
    let f : List Entry → List (Entry × Answer) = λ h. answers_from finite.empty (flat_map (step_of sessions) h) in
    sym (ap (flat_map f) (take_next journal shard history is) ∙ flat_append f (take shard journal) (history ∷ [])
    ∙ ap (λ last. flat_map f (take shard journal) ++ last) (append-nil (f history)))

-- the first fault of a shard, where those before it have none
pub fault_of : (sessions : List (List Command)) (journal : List (List Entry)) (shard : ℕ) (history : List Entry)
    (error : AnswerError) → slice_get journal shard ≡ Some history
    → ((other : ℕ) (before : List Entry) → other < shard → slice_get journal other ≡ Some before
    → AreInOrder sessions (length journal) other before) → IsFaultIn sessions (length journal) shard history error
    → IsFaultOf sessions journal error
fault_of sessions journal shard history (BadJournal other place) is all fault =
    subst (λ s. IsFirstFault sessions journal s place) (sym fault.0) (record {
      history = history;
      is_there = is;
      within = fault.1.within;
      at_fault = fault.1.at_fault;
      places_before = fault.1.before;
      shards_before = all;
    })
fault_of sessions journal shard history Memory is all fault = tt
