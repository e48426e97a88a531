-- The entries of what a session is told: they are its own, rise, and stand for their operations.
use Rattle.std.proofs.Common.{◌≡◌, ℕ, ◌+◌, ◌<◌, ◌≤◌, inl, inr, zero, suc, List, [], ◌∷◌, ◌++◌, Option, Some, None}
use Rattle.std.proofs.Common.{length, map, slice_get, arith, refl, ap, sym, subst, append-nil}
use Rattle.std.specs.List.{AllByRecursion, flat_map}
use Rattle.std.specs.Option.{option_to_list}
use Rattle.view_sums.proofs.Eachs.{each-append}
use Rattle.flake_base.specs.declared.journal.Entry.{Entry}
use Rattle.flake_model.specs.Store.{Operation}
use Rattle.flake_model.specs.Command.{Command, parts}
use Rattle.flake_model.specs.Deed.{Deed, entries_of}
use Rattle.flake_model.specs.Journal.{next_parts}
use Rattle.flake_model.specs.Order.{IsBefore, EntriesRise}
use Rattle.flake_model.proofs.Streams.{all_append}
use Rattle.order_book.specs.Closed.{AreMeant}
use Rattle.shard_core.specs.Outcomes.{Outcomes, entry_at, call_told}
use Rattle.serve_model.specs.Runs.{calls_told, Run, run_told}

abbrev pub own : List (ℕ × Deed) → List Deed
own told = map (λ (told : ℕ × Deed). told.1) told

abbrev pub told_entries : List (ℕ × Deed) → List Entry
told_entries told = entries_of (own told)

pub own_append : (some more : List (ℕ × Deed)) → own (some ++ more) ≡ own some ++ own more
own_append [] more = refl
own_append (x ∷ some) more = ap (λ deeds. x.1 ∷ deeds) (own_append some more)

pub entries_append : (some more : List (ℕ × Deed)) → told_entries (some ++ more)
    ≡ told_entries some ++ told_entries more
entries_append [] more = refl
entries_append (x ∷ some) more = ap (λ entries. x.1.entry ∷ entries) (entries_append some more)

pub both_told : (P : Entry → Type 0) (some more : List (ℕ × Deed)) → AllByRecursion P (told_entries some)
    → AllByRecursion P (told_entries more) → AllByRecursion P (told_entries (some ++ more))
both_told P [] more all rest = rest
both_told P (x ∷ some) more all rest = (all.0, both_told P some more all.1 rest)

-- what holds of each part of a call from a number on holds of the entries of a call
pub at_call : (P : Entry → Type 0) (shards session call part : ℕ) (operations : List Operation) (outcomes : Outcomes)
    → ((k : ℕ) → part ≤ k → P (entry_at session call k))
    → AllByRecursion P (told_entries (call_told shards session call part operations outcomes))
at_call P shards session call part operations [] each = tt
at_call P shards session call part [] (outcome ∷ outcomes) each = tt
at_call P shards session call part (operation ∷ operations) (None ∷ outcomes) each =
    at_call P shards session call (part + 1) operations outcomes (λ k from. each k (omega arith))
at_call P shards session call part (operation ∷ operations) (Some done ∷ outcomes) each = (
  each part (omega arith),
  at_call P shards session call (part + 1) operations outcomes
      (λ k from. each k (omega arith)),
)

pub at_calls : (P : Entry → Type 0) (shards session call : ℕ) (commands : List Command) (calls : List Outcomes)
    → ((n k : ℕ) → call ≤ n → n < call + length calls → P (entry_at session n k))
    → AllByRecursion P (told_entries (calls_told shards session call commands calls))
at_calls P shards session call commands [] each = tt
at_calls P shards session call [] (outcomes ∷ calls) each = tt
at_calls P shards session call (command ∷ commands) (outcomes ∷ calls) each =
    both_told P (call_told shards session call 0 (parts command) outcomes)
    (calls_told shards session (call + 1) commands calls)
    (at_call P shards session call 0 (parts command) outcomes (λ k from. each call k (omega arith) (omega arith)))
    (at_calls P shards session (call + 1) commands calls (λ n k from to. each n k (omega arith) (omega arith)))

rising_call : (shards session call part : ℕ) (operations : List Operation) (outcomes : Outcomes)
    → EntriesRise (told_entries (call_told shards session call part operations outcomes))
rising_call shards session call part operations [] = tt
rising_call shards session call part [] (outcome ∷ outcomes) = tt
rising_call shards session call part (operation ∷ operations) (None ∷ outcomes) =
    rising_call shards session call (part + 1) operations outcomes
rising_call shards session call part (operation ∷ operations) (Some done ∷ outcomes) = (
  at_call (λ later. IsBefore (entry_at session call part) later) shards session call (part + 1) operations outcomes
      (λ k from. inr (refl, omega arith)),
  rising_call shards session call (part + 1) operations outcomes,
)

all_later : (call : ℕ) (entry : Entry) (entries : List Entry) → entry.call < call
    → AllByRecursion (λ later. call ≤ later.call) entries → AllByRecursion (λ later. IsBefore entry later) entries
all_later call entry [] less from = tt
all_later call entry (later ∷ entries) less from = (
  inl (omega (arith, from.0)),
  all_later call entry entries less from.1,
)

-- entries of earlier calls, and those from a call on
rising_append : (call : ℕ) (some more : List Entry) → EntriesRise some
    → AllByRecursion (λ entry. entry.call < call) some
    → AllByRecursion (λ entry. call ≤ entry.call) more → EntriesRise more
    → EntriesRise (some ++ more)
rising_append call [] more rising to from rest = rest
rising_append call (entry ∷ some) more rising to from rest = (
  all_append (λ later. IsBefore entry later) some more rising.0 (all_later call entry more to.0 from),
  rising_append call some more rising.1 to.1 from rest,
)

rising_told : (call : ℕ) (some more : List (ℕ × Deed)) → EntriesRise (told_entries some)
    → AllByRecursion (λ entry. entry.call < call) (told_entries some)
    → AllByRecursion (λ entry. call ≤ entry.call) (told_entries more) → EntriesRise (told_entries more)
    → EntriesRise (told_entries (some ++ more))
rising_told call some more rising to from rest = subst EntriesRise (sym (entries_append some more))
    (rising_append call (told_entries some) (told_entries more) rising to from rest)

rising_calls : (shards session call : ℕ) (commands : List Command) (calls : List Outcomes)
    → EntriesRise (told_entries (calls_told shards session call commands calls))
rising_calls shards session call commands [] = tt
rising_calls shards session call [] (outcomes ∷ calls) = tt
rising_calls shards session call (command ∷ commands) (outcomes ∷ calls) =
    rising_told (call + 1) (call_told shards session call 0 (parts command) outcomes)
    (calls_told shards session (call + 1) commands calls)
    (rising_call shards session call 0 (parts command) outcomes)
    (at_call (λ entry. entry.call < call + 1) shards session call 0 (parts command) outcomes (λ k from. omega arith))
    (at_calls (λ entry. call + 1 ≤ entry.call) shards session (call + 1) commands calls (λ n k from to. from))
    (rising_calls shards session (call + 1) commands calls)

-- the entries of what a session ran rise
pub run_rising : (shards session : ℕ) (run : Run) → EntriesRise (told_entries (run_told shards session run))
run_rising shards session run =
    let n = length run.calls in
    rising_told n (calls_told shards session 0 run.commands run.calls)
    (call_told shards session n 0 (next_parts n run.commands) run.behind)
    (rising_calls shards session 0 run.commands run.calls)
    (at_calls (λ entry. entry.call < n) shards session 0 run.commands run.calls (λ m k from to. omega arith))
    (at_call (λ entry. n ≤ entry.call) shards session n 0 (next_parts n run.commands) run.behind
    (λ k from. omega arith))
    (rising_call shards session n 0 (next_parts n run.commands) run.behind)

-- what stands in the front of a list stands there in the list
in_front : {A : Type 0} (front more : List A) (k : ℕ) (x : A) → slice_get front k ≡ Some x
    → slice_get (front ++ more) k ≡ Some x
in_front [] more k x is = absurd (let no : ⊥ = cc in no)
in_front (y ∷ front) more zero x is = is
in_front (y ∷ front) more (suc k) x is = in_front front more k x is

-- the deeds do what their entries stand for
module _ (sessions : List (List Command)) (shards session : ℕ) (all : List Command)
    (here : slice_get sessions session ≡ Some all) where
  call_meant : (call part : ℕ) (command : Command) (operations : List Operation) (outcomes : Outcomes)
      → slice_get all call ≡ Some command
      → ((k : ℕ) (operation : Operation) → slice_get operations k ≡ Some operation
      → slice_get (parts command) (part + k) ≡ Some operation)
      → AreMeant sessions (own (call_told shards session call part operations outcomes))
  call_meant call part command operations [] there first = tt
  call_meant call part command [] (outcome ∷ outcomes) there first = tt
  call_meant call part command (operation ∷ operations) (None ∷ outcomes) there first =
      call_meant call (part + 1) command operations outcomes there
      (λ k later found. subst (λ n. slice_get (parts command) n ≡ Some later) (omega arith)
      (first (suc k) later found))
  call_meant call part command (operation ∷ operations) (Some done ∷ outcomes) there first = (
    rw (here, there) (subst (λ n. slice_get (parts command) n ≡ Some operation) (omega arith) (first 0 operation refl)),
    call_meant call (part + 1) command operations outcomes there
        (λ k later found. subst (λ n. slice_get (parts command) n ≡ Some later) (omega arith)
        (first (suc k) later found)),
  )

  whole_meant : (call : ℕ) (command : Command) (outcomes : Outcomes) → slice_get all call ≡ Some command
      → AreMeant sessions (own (call_told shards session call 0 (parts command) outcomes))
  whole_meant call command outcomes there =
      call_meant call 0 command (parts command) outcomes there
      (λ k operation found. subst (λ n. slice_get (parts command) n ≡ Some operation) (omega arith) found)

  both_meant : (some more : List (ℕ × Deed)) → AreMeant sessions (own some) → AreMeant sessions (own more)
      → AreMeant sessions (own (some ++ more))
  both_meant some more first rest = subst (AreMeant sessions) (sym (own_append some more))
      (each-append _ (own some) (own more) first rest)

  calls_meant : (call : ℕ) (commands : List Command) (calls : List Outcomes)
      → ((k : ℕ) (command : Command) → slice_get commands k ≡ Some command → slice_get all (call + k) ≡ Some command)
      → AreMeant sessions (own (calls_told shards session call commands calls))
  calls_meant call commands [] are = tt
  calls_meant call [] (outcomes ∷ calls) are = tt
  calls_meant call (command ∷ commands) (outcomes ∷ calls) are =
      both_meant (call_told shards session call 0 (parts command) outcomes)
      (calls_told shards session (call + 1) commands calls)
      (whole_meant call command outcomes (subst (λ n. slice_get all n ≡ Some command) (omega arith)
      (are 0 command refl)))
      (calls_meant (call + 1) commands calls (λ k later is. subst (λ n. slice_get all n ≡ Some later) (omega arith)
      (are (suc k) later is)))

  behind_meant : (call : ℕ) (outcomes : Outcomes) (found : Option Command) → slice_get all call ≡ found
      → AreMeant sessions (own (call_told shards session call 0 (flat_map parts (option_to_list found)) outcomes))
  behind_meant call [] found is = tt
  behind_meant call (outcome ∷ outcomes) None is = tt
  behind_meant call (outcome ∷ outcomes) (Some command) is =
      call_meant call 0 command (parts command ++ []) (outcome ∷ outcomes) is
      (λ k operation found. subst (λ operations. slice_get operations (0 + k) ≡ Some operation)
      (append-nil (parts command)) (subst (λ n. slice_get (parts command ++ []) n ≡ Some operation)
      (omega arith) found))

pub run_meant : (sessions : List (List Command)) (shards session : ℕ) (run : Run)
    → slice_get sessions session ≡ Some run.commands → AreMeant sessions (own (run_told shards session run))
run_meant sessions shards session run here =
    let n = length run.calls in
    both_meant sessions shards session run.commands here (calls_told shards session 0 run.commands run.calls)
    (call_told shards session n 0 (next_parts n run.commands) run.behind)
    (calls_meant sessions shards session run.commands here 0 run.commands run.calls
    (λ k command is. subst (λ m. slice_get run.commands m ≡ Some command) (omega arith) is))
    (behind_meant sessions shards session run.commands here n run.behind (slice_get run.commands n) refl)
