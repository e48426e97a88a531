-- The entries of all shards, one after another.
use Rattle.std.proofs.Common.{◌≡◌, ◌≢◌, ◌∙◌, refl, sym, ap, ℕ, zero, suc, ◌+◌, ◌<◌, ◌≤◌, List, [], ◌∷◌, ◌++◌, arith}
use Rattle.std.proofs.Common.{append_assoc, append-nil, length, map, set, get_or, replicate}
use Rattle.std.proofs.lemmas.List.{map-append}
use Rattle.std.specs.List.{AllByRecursion}
use Rattle.std.specs.Prelude.{⊤}
use Rattle.flake_base.specs.declared.journal.Entry.{Entry}
use Rattle.journal_text.specs.Text.{ShardEntry, placed_from, IsInRange, IsEntryPlaced}

-- the numbers of their shards ascend from this one
abbrev pub Ascends : ℕ → List ShardEntry → Type 0
Ascends low [] = ⊤
Ascends low (first ∷ placed) = (low ≤ first.0) × Ascends first.0 placed

-- the shard of the last entry; where there is none it is this one
abbrev pub last_shard : ℕ → List ShardEntry → ℕ
last_shard low [] = low
last_shard low (first ∷ placed) = last_shard first.0 placed

-- a history as entries of a shard
abbrev pub at_shard : ℕ → List Entry → List ShardEntry
at_shard shard history = map (λ entry. (shard, entry)) history

pub lower : (low high : ℕ) (placed : List ShardEntry) → low ≤ high → Ascends high placed → Ascends low placed
lower low high [] below ascends = tt
lower low high (first ∷ placed) below ascends = (omega (arith, ascends.0), ascends.1)

history_ascends : (shard : ℕ) (history : List Entry) (behind : List ShardEntry) → Ascends shard behind
    → Ascends shard (at_shard shard history ++ behind)
history_ascends shard [] behind ascends = ascends
history_ascends shard (entry ∷ history) behind ascends = (omega arith, history_ascends shard history behind ascends)

pub placed_ascends : (shard : ℕ) (journal : List (List Entry)) → Ascends shard (placed_from shard journal)
placed_ascends shard [] = tt
placed_ascends shard (history ∷ journal) =
    history_ascends shard history (placed_from (shard + 1) journal)
    (lower shard (shard + 1) (placed_from (shard + 1) journal) (omega arith) (placed_ascends (shard + 1) journal))

AllPlaced-append : (shards : ℕ) (some others : List ShardEntry) → AllByRecursion (IsEntryPlaced shards) some
    → AllByRecursion (IsEntryPlaced shards) others → AllByRecursion (IsEntryPlaced shards) (some ++ others)
AllPlaced-append shards [] others all more = more
AllPlaced-append shards (first ∷ some) others all more = (all.0, AllPlaced-append shards some others all.1 more)

history_placed : (shards shard : ℕ) (history : List Entry) → shard < shards → AllByRecursion IsInRange history
    → AllByRecursion (IsEntryPlaced shards) (at_shard shard history)
history_placed shards shard [] below all = tt
history_placed shards shard (entry ∷ history) below all =
    ((below, all.0), history_placed shards shard history below all.1)

pub all_placed : (shards shard : ℕ) (journal : List (List Entry)) → shard + length journal ≤ shards
    → AllByRecursion (AllByRecursion IsInRange) journal → AllByRecursion (IsEntryPlaced shards)
    (placed_from shard journal)
all_placed shards shard [] within all = tt
all_placed shards shard (history ∷ journal) within all =
    AllPlaced-append shards (at_shard shard history) (placed_from (shard + 1) journal)
    (history_placed shards shard history (omega arith) all.0)
    (all_placed shards (shard + 1) journal (omega arith) all.1)

-- a shard's history with one entry more, and the other histories as they were
abbrev pub entered : List (List Entry) → ℕ → Entry → List (List Entry)
entered journal shard entry = set journal shard (get_or journal shard [] ++ entry ∷ [])

-- the shards behind one have no entries
abbrev pub EmptyBehind : ℕ → List (List Entry) → Type 0
EmptyBehind shard journal = (k : ℕ) → shard < k → get_or journal k [] ≡ []

none_placed : (shard : ℕ) (journal : List (List Entry)) → ((k : ℕ) → get_or journal k [] ≡ [])
    → placed_from shard journal ≡ []
none_placed shard [] empty = refl
none_placed shard (history ∷ journal) empty =
    let here : history ≡ [] = empty 0 in
    ap (λ h. at_shard shard h ++ placed_from (shard + 1) journal) here ∙ none_placed (shard + 1) journal
    (λ k. empty (suc k))

-- the new entry is the last
pub placed_last : (from shard : ℕ) (journal : List (List Entry)) (entry : Entry) → shard < length journal
    → EmptyBehind shard journal → placed_from from (entered journal shard entry) ≡ placed_from from journal
    ++ (from + shard, entry) ∷ []
placed_last from shard [] entry within empty = absurd (omega arith)
placed_last from zero (history ∷ journal) entry within empty =
    let none : placed_from (from + 1) journal ≡ [] = none_placed (from + 1) journal (λ k. empty (suc k) (omega arith))
    in
    let here : from ≡ from + 0 = omega arith in
    ap (λ rest. at_shard from (history ++ entry ∷ []) ++ rest) none ∙ append-nil (at_shard from (history ++ entry ∷ []))
    ∙ map-append (λ (e : Entry). (from, e)) history (entry ∷ [])
    ∙ ap (λ n. at_shard from history ++ (n, entry) ∷ []) here
    ∙ ap (λ front. front ++ (from + 0, entry) ∷ [])
    (sym (append-nil (at_shard from history)) ∙ ap (λ rest. at_shard from history ++ rest) (sym none))
placed_last from (suc shard) (history ∷ journal) entry within empty =
    let next : from + 1 + shard ≡ from + suc shard = omega arith in
    let rest = placed_last (from + 1) shard journal entry (omega arith) (λ k behind. empty (suc k) (omega arith)) in
    ap (λ placed. at_shard from history ++ placed)
    (rest ∙ ap (λ n. placed_from (from + 1) journal ++ (n, entry) ∷ []) next)
    ∙ sym (append_assoc (at_shard from history) (placed_from (from + 1) journal) ((from + suc shard, entry) ∷ []))

pub last_is : (low : ℕ) (front : List ShardEntry) (placed : ShardEntry) → last_shard low (front ++ placed ∷ [])
    ≡ placed.0
last_is low [] placed = refl
last_is low (first ∷ front) placed = last_is first.0 front placed

-- the histories behind stay empty
pub still_empty : (reached shard : ℕ) (journal : List (List Entry)) (entry : Entry) → reached ≤ shard
    → EmptyBehind reached journal → EmptyBehind shard (entered journal shard entry)
still_empty reached shard journal entry below empty k behind =
    let other : k ≢ shard = omega arith in
    other_history journal shard k (get_or journal shard [] ++ entry ∷ []) other ∙ empty k (omega arith) where
      other_history : (journal : List (List Entry)) (i k : ℕ) (history : List Entry) → k ≢ i
          → get_or (set journal i history) k [] ≡ get_or journal k []
      other_history [] i k history other = refl
      other_history (first ∷ journal) zero zero history other = absurd (other refl)
      other_history (first ∷ journal) zero (suc k) history other = refl
      other_history (first ∷ journal) (suc i) zero history other = refl
      other_history (first ∷ journal) (suc i) (suc k) history other = other_history journal i k history
          (λ same. other (ap suc same))

AllInRange-append : (history : List Entry) (entry : Entry) → AllByRecursion IsInRange history → IsInRange entry
    → AllByRecursion IsInRange (history ++ entry ∷ [])
AllInRange-append [] entry all range = (range, tt)
AllInRange-append (first ∷ history) entry all range = (all.0, AllInRange-append history entry all.1 range)

-- all numbers stay in range
pub still_in_range : (journal : List (List Entry)) (shard : ℕ) (entry : Entry)
    → AllByRecursion (AllByRecursion IsInRange) journal → IsInRange entry → AllByRecursion (AllByRecursion IsInRange)
    (entered journal shard entry)
still_in_range [] shard entry all range = tt
still_in_range (history ∷ journal) zero entry all range = (AllInRange-append history entry all.0 range, all.1)
still_in_range (history ∷ journal) (suc shard) entry all range = (all.0, still_in_range journal shard entry all.1 range)

-- histories without entries
pub none_yet : (shards from : ℕ) → placed_from from (replicate shards []) ≡ []
none_yet zero from = refl
none_yet (suc shards) from = none_yet shards (from + 1)

pub all_empty : (shards k : ℕ) → get_or (replicate shards (let none : List Entry = [] in none)) k [] ≡ []
all_empty zero k = refl
all_empty (suc shards) zero = refl
all_empty (suc shards) (suc k) = all_empty shards k

pub empty_in_range : (shards : ℕ) → AllByRecursion (AllByRecursion IsInRange) (replicate shards [])
empty_in_range zero = tt
empty_in_range (suc shards) = (tt, empty_in_range shards)
