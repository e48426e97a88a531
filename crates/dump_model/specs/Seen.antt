-- What the session that took a dump saw of each shard, and what the dump then is of the journal.
use Rattle.std.specs.Prelude.{◌≡◌, ℕ, ◌<◌, ◌≤◌, ◌∷◌, List, ◌++◌, Some, length, map, take, drop, slice_get, slice_index}
use Rattle.std.specs.List.{AllByRecursion, flat_map, range_with_len}
use Rattle.view_sums.specs.Total.{Each}
use Rattle.flake_base.specs.declared.journal.Entry.{Entry}
use Rattle.flake_model.specs.Command.{Command}
use Rattle.flake_model.specs.Deed.{Deed, final_store}
use Rattle.order_book.specs.Pages.{ShardList, SessionList}
use Rattle.order_book.specs.Closed.{AreClosed, AreMeant, journal_of, deeds_by, session_deeds_in}
use Rattle.order_book.specs.declared.rule.BookSizes.{BookSizes}
use Rattle.dump_model.specs.Dump.{Pair, pairs_in, pairs_text, dumped}

-- a shard's list as it was seen
abbrev pub ShardSeen : Type 0
ShardSeen = ℕ × List Deed

abbrev pub list_seen : ShardSeen → ShardList
list_seen look = record { number = look.0; told = look.1 }

-- what each shard had when it was seen
abbrev pub pairs_seen : List ShardSeen → List Pair
pairs_seen seen = flat_map (λ (look : ShardSeen). pairs_in (final_store look.1)) seen

-- a session's list when these were its deeds
abbrev pub list_with : SessionList → List (ℕ × Deed) → SessionList
list_with last deeds = record { number = last.number; told = deeds; looks = last.looks }

-- Behind its calls below this one, and before the others, the session saw each of so many shards; `last` is its list at
-- its end.
pub record HasSeen (shards before : ℕ) (last : SessionList) (points text : List ℕ) : Type 0 where
  pub front : List ShardSeen
  pub seen : List ShardSeen
  pub looks_are : last.looks ≡ front ++ seen
  pub numbered : map (λ (look : ShardSeen). look.0) seen ≡ range_with_len 0 shards
  pub points_are : points ≡ map (λ (look : ShardSeen). length look.1) seen
  pub text_is : text ≡ pairs_text (pairs_seen seen)
  -- its own deeds then, of the calls before, and those behind
  pub earlier : List (ℕ × Deed)
  pub later : List (ℕ × Deed)
  pub deeds_are : last.told ≡ earlier ++ later
  pub calls_before : Each (λ (own : ℕ × Deed). own.1.entry.call < before) earlier
  pub calls_behind : Each (λ (own : ℕ × Deed). before ≤ own.1.entry.call) later
  -- and of the session's deeds each shard had the earlier ones
  pub shared : Each (λ (look : ShardSeen). deeds_by last.number (list_seen look)
      ≡ session_deeds_in look.0 (list_with last earlier)) seen

-- the session's entries among these are of calls below this one, or of calls from it on
abbrev pub AreBelow : ℕ → ℕ → List Entry → Type 0
AreBelow session before entries =
    AllByRecursion (λ (entry : Entry). entry.session ≡ session → entry.call < before) entries

abbrev pub AreFrom : ℕ → ℕ → List Entry → Type 0
AreFrom session before entries =
    AllByRecursion (λ (entry : Entry). entry.session ≡ session → before ≤ entry.call) entries

-- The text is the dump of the journal at these points, and in each shard the session's entries before the point are of
-- its calls below this one, and those behind it of calls from this one on.
pub record IsDumpOf (commands : List (List Command)) (journal : List (List Entry)) (session before : ℕ)
    (points text : List ℕ) : Type 0 where
  pub as_many : length points ≡ length journal
  pub text_is : text ≡ dumped commands journal points
  pub within : (shard : ℕ) (history : List Entry) → slice_get journal shard ≡ Some history
      → slice_index points shard ≤ length history
  pub below : (shard : ℕ) (history : List Entry) → slice_get journal shard ≡ Some history
      → AreBelow session before (take (slice_index points shard) history)
  pub behind : (shard : ℕ) (history : List Entry) → slice_get journal shard ≡ Some history
      → AreFrom session before (drop (slice_index points shard) history)

abbrev pub SeenMakesDump : Type 0
SeenMakesDump = (commands : List (List Command)) (z : BookSizes) (shards : List ShardList) (last : SessionList)
    (others : List SessionList) (before : ℕ) (points text : List ℕ)
    → AreClosed z shards (last ∷ others)
    → map (λ (shard : ShardList). shard.number) shards ≡ range_with_len 0 z.shards
    → Each (λ (shard : ShardList). AreMeant commands shard.told) shards
    → HasSeen z.shards before last points text
    → IsDumpOf commands (journal_of shards) last.number before points text
