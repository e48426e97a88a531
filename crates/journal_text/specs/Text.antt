-- The text of a journal.
use Rattle.std.specs.Prelude.{ℕ, ◌+◌, ◌<◌, ◌≤◌, ◌^◌, List, [], ◌∷◌, ◌++◌, codes, length, map}
use Rattle.std.specs.List.{AllByRecursion}
use Rattle.std.specs.Fmt.{decimal}
use Rattle.flake_base.specs.declared.journal.Entry.{Entry}
use Rattle.journal_text.specs.Lines.{joined_lines}

-- an entry with the number of its shard
abbrev pub ShardEntry : Type 0
ShardEntry = ℕ × Entry

-- all entries of the shards from a number on, each shard's in the order of its history
abbrev pub placed_from : ℕ → List (List Entry) → List ShardEntry
placed_from shard [] = []
placed_from shard (history ∷ histories) = map (λ entry. (shard, entry)) history ++ placed_from (shard + 1) histories

-- `shards` and how many there are
abbrev pub head_line : ℕ → List ℕ
head_line shards = codes "shards " ++ decimal shards

-- an entry's shard, session, call and part, with a blank between two of them
abbrev pub entry_line : ShardEntry → List ℕ
entry_line placed =
    decimal placed.0 ++ 32 ∷ (decimal placed.1.session ++ 32 ∷ (decimal placed.1.call ++ 32 ∷ decimal placed.1.part))

abbrev pub journal_lines : List (List Entry) → List (List ℕ)
journal_lines journal = head_line (length journal) ∷ map entry_line (placed_from 0 journal)

abbrev pub journal_text_of : List (List Entry) → List ℕ
journal_text_of journal = joined_lines (journal_lines journal)

-- numbers of a session, a call and a part that a line may have
pub record IsInRange (entry : Entry) : Type 0 where
  pub session : entry.session < 16
  pub call : entry.call < 2 ^ 32
  pub part : entry.part < 64

-- so is the number of the shard
abbrev pub IsEntryPlaced : ℕ → ShardEntry → Type 0
IsEntryPlaced shards placed = (placed.0 < shards) × IsInRange placed.1

-- a journal that can be read back: it has from 1 to 16 shards, and all numbers are in range
pub record FitsText (journal : List (List Entry)) : Type 0 where
  pub some : 1 ≤ length journal
  pub few : length journal ≤ 16
  pub entries : AllByRecursion (AllByRecursion IsInRange) journal
