-- What the first lines of a journal's text leave open.
use Rattle.std.proofs.Common.{◌≡◌, ◌∙◌, refl, sym, ap, subst, ℕ, ◌+◌, ◌<◌, ◌≤◌, ◌^◌, List, [], ◌∷◌, ◌++◌, arith}
use Rattle.std.proofs.Common.{append_assoc, length, map, drop}
use Rattle.std.specs.List.{AllByRecursion}
use Rattle.flake_base.specs.declared.journal.Entry.{Entry}
use Rattle.flake_model.proofs.Decimals.{same_decimal}
use Rattle.journal_text.specs.Text.{ShardEntry, placed_from, head_line, entry_line, journal_lines, IsEntryPlaced}
use Rattle.journal_text.specs.Text.{FitsText}
use Rattle.journal_text.specs.Reading.{AreJournalLines, BeginsJournal}
use Rattle.journal_text.proofs.EntryLines.{one_entry}
use Rattle.journal_text.proofs.Placing.{Ascends, last_shard, at_shard, placed_ascends, all_placed}

-- a first line is that of one number of shards
pub one_head : (m n : ℕ) → n < 2 ^ 64 → head_line m ≡ head_line n → m ≡ n
one_head m n small is = same_decimal m n small (ap (drop 7) is)

-- an entry that a line behind others is that of
pub record IsNext (shards low : ℕ) (line : List ℕ) : Type 0 where
  pub placed : ShardEntry
  pub range : IsEntryPlaced shards placed
  pub above : low ≤ placed.0
  pub line_is : line ≡ entry_line placed

higher : (shards : ℕ) (placed : ShardEntry) → shards ≤ 16 → IsEntryPlaced shards placed → IsEntryPlaced 16 placed
higher shards placed few range = (omega (arith, range.0), range.1)

-- behind the lines of entries stands that of an entry whose shard is not below theirs
next_entry : (shards low : ℕ) (all some : List ShardEntry) (line : List ℕ) (more : List (List ℕ)) → shards ≤ 16
    → Ascends low all → AllByRecursion (IsEntryPlaced shards) all → AllByRecursion (IsEntryPlaced shards) some
    → map entry_line all ≡ map entry_line some ++ line ∷ more → IsNext shards (last_shard low some) line
next_entry shards low [] [] line more few ascends range in_range is = absurd (cc)
next_entry shards low (first ∷ all) [] line more few ascends range in_range is =
    record { placed = first; range = range.0; above = ascends.0; line_is = cc }
next_entry shards low [] (other ∷ some) line more few ascends range in_range is = absurd (cc)
next_entry shards low (first ∷ all) (other ∷ some) line more few ascends range in_range is =
    let here : entry_line first ≡ entry_line other = cc in
    let rest : map entry_line all ≡ map entry_line some ++ line ∷ more = cc in
    let same : first ≡ other = one_entry first other (higher shards first few range.0)
    (higher shards other few in_range.0) here in
    next_entry shards other.0 all some line more few (subst (λ (p : ShardEntry). Ascends p.0 all) same ascends.1)
    range.1 in_range.1 rest

-- what the next line of a journal's text is, behind those of another
pub next_line : (journal : List (List Entry)) (line : List ℕ) → FitsText journal
    → BeginsJournal (journal_lines journal ++ line ∷ [])
    → IsNext (length journal) (last_shard 0 (placed_from 0 journal)) line
next_line journal line fits begins =
    let other = begins.journal in
    let is : journal_lines other ≡ journal_lines journal ++ line ∷ begins.more = begins.lines_are
    ∙ append_assoc (journal_lines journal) (line ∷ []) begins.more in
    let heads : head_line (length other) ≡ head_line (length journal) = cc in
    let tails : map entry_line (placed_from 0 other) ≡ map entry_line (placed_from 0 journal) ++ line ∷ begins.more =
    cc in
    let shards : length other ≡ length journal = one_head (length other) (length journal) (omega (arith, fits.few))
    heads in
    next_entry (length journal) 0 (placed_from 0 other) (placed_from 0 journal) line begins.more fits.few
    (placed_ascends 0 other)
    (all_placed (length journal) 0 other (omega arith) begins.fits.entries)
    (all_placed (length journal) 0 journal (omega arith) fits.entries) tails

-- a first line tells how many shards there are
pub first_head : (line : List ℕ) → BeginsJournal (line ∷ []) → (shards : ℕ) × (1 ≤ shards) × (shards ≤ 16)
    × (line ≡ head_line shards)
first_head line begins =
    let is : line ≡ head_line (length begins.journal) = let whole = begins.lines_are in cc in
    (length begins.journal, begins.fits.some, begins.fits.few, is)

-- nothing is the beginning of a text
pub nothing_begins : BeginsJournal []
nothing_begins = record {
  journal = [] ∷ [];
  more = head_line 1 ∷ [];
  fits = record { some = omega arith; few = omega arith; entries = (tt, tt) };
  lines_are = refl;
}

same_entries : (some others : List ShardEntry) → AllByRecursion (IsEntryPlaced 16) some
    → AllByRecursion (IsEntryPlaced 16) others → map entry_line some ≡ map entry_line others → some ≡ others
same_entries [] [] range in_range is = refl
same_entries [] (other ∷ others) range in_range is = absurd (cc)
same_entries (first ∷ some) [] range in_range is = absurd (cc)
same_entries (first ∷ some) (other ∷ others) range in_range is =
    let here : entry_line first ≡ entry_line other = cc in
    let rest : map entry_line some ≡ map entry_line others = cc in
    let same : first ≡ other = one_entry first other range.0 in_range.0 here in
    let tails = same_entries some others range.1 in_range.1 rest in
    cc

-- a history and what stands behind it, where that is of later shards
same_history : (shard : ℕ) (history other : List Entry) (some others : List ShardEntry) → Ascends (shard + 1) some
    → Ascends (shard + 1) others → at_shard shard history ++ some ≡ at_shard shard other ++ others
    → (history ≡ other) × (some ≡ others)
same_history shard [] [] some others above high is = (refl, is)
same_history shard [] (entry ∷ other) [] others above high is = absurd (cc)
same_history shard [] (entry ∷ other) (first ∷ some) others above high is =
    absurd (let same : first ≡ (shard, entry) = cc in omega (arith, above.0, ap (λ (p : ShardEntry). p.0) same))
same_history shard (entry ∷ history) [] some [] above high is = absurd (cc)
same_history shard (entry ∷ history) [] some (first ∷ others) above high is =
    absurd (let same : (shard, entry) ≡ first = cc in omega (arith, high.0, ap (λ (p : ShardEntry). p.0) same))
same_history shard (entry ∷ history) (next ∷ other) some others above high is =
    let pair : ℕ → Entry → ShardEntry = λ n e. (n, e) in
    let same : pair shard entry ≡ pair shard next = cc in
    let rest : at_shard shard history ++ some ≡ at_shard shard other ++ others = cc in
    let tails = same_history shard history other some others above high rest in
    let entries : entry ≡ next = ap (λ (p : ShardEntry). p.1) same in
    let histories : history ≡ other = tails.0 in
    (cc, tails.1)

same_journal : (shard : ℕ) (journal other : List (List Entry)) → length journal ≡ length other
    → placed_from shard journal ≡ placed_from shard other → journal ≡ other
same_journal shard [] [] count is = refl
same_journal shard [] (history ∷ other) count is = absurd (omega arith)
same_journal shard (history ∷ journal) [] count is = absurd (omega arith)
same_journal shard (history ∷ journal) (next ∷ other) count is =
    let parts = same_history shard history next (placed_from (shard + 1) journal) (placed_from (shard + 1) other)
    (placed_ascends (shard + 1) journal) (placed_ascends (shard + 1) other) is in
    let rest : journal ≡ other = same_journal (shard + 1) journal other (omega arith) parts.1 in
    let here : history ≡ next = parts.0 in
    cc

-- lines are those of one journal
pub one_journal_lem : (lines : List (List ℕ)) (journal other : List (List Entry)) → AreJournalLines lines journal
    → AreJournalLines lines other → journal ≡ other
one_journal_lem lines journal other are also =
    let is : journal_lines journal ≡ journal_lines other = sym are.lines_are ∙ also.lines_are in
    let heads : head_line (length journal) ≡ head_line (length other) = cc in
    let tails : map entry_line (placed_from 0 journal) ≡ map entry_line (placed_from 0 other) = cc in
    let shards : length journal ≡ length other = one_head (length journal) (length other) (omega (arith, also.fits.few))
    heads in
    same_journal 0 journal other shards
    (same_entries (placed_from 0 journal) (placed_from 0 other)
    (all_placed 16 0 journal (omega (arith, are.fits.few)) are.fits.entries)
    (all_placed 16 0 other (omega (arith, also.fits.few)) also.fits.entries) tails)
