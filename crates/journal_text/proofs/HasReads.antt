-- How far the lines of a text were read.
use Rattle.std.proofs.Common.{◌≡◌, ◌≢◌, ◌∙◌, refl, sym, ap, subst, ℕ, zero, suc, ◌+◌, ◌-◌, ◌<◌, ◌≤◌, List, [], ◌∷◌}
use Rattle.std.proofs.Common.{◌++◌, arith, append_assoc, append-nil, length, length-append, map, set, get_or, take}
use Rattle.std.proofs.Common.{replicate}
use Rattle.std.proofs.lemmas.List.{length-replicate, take_at, length-map, length-set, map-append}
use Rattle.flake_base.specs.Roomy.{Roomy}
use Rattle.flake_base.specs.declared.journal.Entry.{Entry}
use Rattle.flake_base.specs.Histories.{histories}
use Rattle.journal_text.specs.Text.{ShardEntry, placed_from, head_line, entry_line, journal_lines, IsInRange}
use Rattle.journal_text.specs.Text.{IsEntryPlaced, FitsText}
use Rattle.journal_text.specs.Reading.{AreJournalLines, BeginsJournal, IsBadJournalLine}
use Rattle.journal_text.proofs.Placing.{last_shard, entered, EmptyBehind, placed_last, last_is, still_empty}
use Rattle.journal_text.proofs.Placing.{still_in_range, none_yet, all_empty, empty_in_range}
use Rattle.journal_text.proofs.OneText.{next_line, first_head, nothing_begins}
use Rattle.journal_text.proofs.EntryLines.{one_entry}
use Rattle.journal_text.specs.Lines.{lines_of}

-- so many lines are those of this journal, and the rest is still to be read; the last entry is of this shard
pub record HasRead (all : List (List ℕ)) (journal : List (List Entry)) (rest : List (List ℕ)) (line reached : ℕ) : Type
    0 where
  pub lines_are : all ≡ journal_lines journal ++ rest
  pub count : line ≡ length (journal_lines journal)
  pub fits : FitsText journal
  pub empty : EmptyBehind reached journal
  pub last : reached ≡ last_shard 0 (placed_from 0 journal)

-- the first line is read
pub has_begun : (shards : ℕ) (rest : List (List ℕ)) → 1 ≤ shards → shards ≤ 16
    → HasRead (head_line shards ∷ rest) (replicate shards []) rest 1 0
has_begun shards rest some few =
    let none : List Entry = [] in
    let count = length-replicate shards none in
    let placed = none_yet shards 0 in
    record {
      lines_are = ap (λ n. head_line n ∷ rest) (sym count)
          ∙ ap (λ p. head_line (length (replicate shards none)) ∷ (map entry_line p ++ rest)) (sym placed);
      count = ap (λ p. length (head_line (length (replicate shards none)) ∷ map entry_line p)) (sym placed);
      fits = record { some = omega (arith, count); few = omega (arith, count); entries = empty_in_range shards };
      empty = λ k behind. all_empty shards k;
      last = ap (last_shard 0) (sym placed);
    }

-- so is the line of an entry
pub goes_on : (all : List (List ℕ)) (journal : List (List Entry)) (text : List ℕ) (rest : List (List ℕ))
    (line reached shard : ℕ) (entry : Entry) → HasRead all journal (text ∷ rest) line reached
    → text ≡ entry_line (shard, entry) → IsInRange entry → reached ≤ shard → shard < length journal
    → HasRead all (entered journal shard entry) rest (line + 1) shard
goes_on all journal text rest line reached shard entry was is range above within =
    let now = entered journal shard entry in
    let empty = still_empty reached shard journal entry above was.empty in
    let shards : length now ≡ length journal = length-set journal shard (get_or journal shard [] ++ entry ∷ []) in
    let behind : EmptyBehind shard journal = λ k behind. was.empty k (omega arith) in
    let placed : placed_from 0 now ≡ placed_from 0 journal ++ (0 + shard, entry) ∷ [] =
    placed_last 0 shard journal entry within behind in
    let here : 0 + shard ≡ shard = omega arith in
    let placed_is : placed_from 0 now ≡ placed_from 0 journal ++ (shard, entry) ∷ [] = placed
    ∙ ap (λ n. placed_from 0 journal ++ (n, entry) ∷ []) here in
    let lines : journal_lines now ≡ journal_lines journal ++ text ∷ [] =
    ap (λ n. head_line n ∷ map entry_line (placed_from 0 now)) shards
    ∙ ap (λ p. head_line (length journal) ∷ map entry_line p) placed_is
    ∙ ap (λ m. head_line (length journal) ∷ m) (map-append entry_line (placed_from 0 journal) ((shard, entry) ∷ []))
    ∙ ap (λ t. journal_lines journal ++ t ∷ []) (sym is) in
    record {
      lines_are = was.lines_are ∙ sym (append_assoc (journal_lines journal) (text ∷ []) rest)
          ∙ ap (λ front. front ++ rest) (sym lines);
      count = omega (arith, was.count, ap length lines, length-append (journal_lines journal) (text ∷ []));
      fits = record {
        some = omega (arith, shards, was.fits.some);
        few = omega (arith, shards, was.fits.few);
        entries = still_in_range journal shard entry was.fits.entries range;
      };
      empty = empty;
      last = sym (ap (last_shard 0) placed_is ∙ last_is 0 (placed_from 0 journal) (shard, entry));
    }

behind_all : (front : List (List ℕ)) (line : List ℕ) (rest : List (List ℕ))
    → get_or (front ++ line ∷ rest) (length front) [] ≡ line
behind_all [] line rest = refl
behind_all (first ∷ front) line rest = behind_all front line rest

-- a line that is that of no entry which may stand there
pub is_bad : (all : List (List ℕ)) (journal : List (List Entry)) (text : List ℕ) (rest : List (List ℕ))
    (line reached : ℕ) → HasRead all journal (text ∷ rest) line reached
    → ((placed : ShardEntry) → IsEntryPlaced (length journal) placed → reached ≤ placed.0 → text ≢ entry_line placed)
    → IsBadJournalLine all (line + 1)
is_bad all journal text rest line reached was none =
    let read = journal_lines journal in
    let place : line + 1 - 1 ≡ length read = omega (arith, was.count) in
    let front : take (line + 1 - 1) all ≡ read = ap (λ n. take n all) place ∙ ap (take (length read)) was.lines_are
    ∙ take_at read (text ∷ rest) (length read) refl in
    let here : get_or all (line + 1 - 1) [] ≡ text = ap (λ n. get_or all n []) place
    ∙ ap (λ lines. get_or lines (length read) []) was.lines_are ∙ behind_all read text rest in
    let begun : BeginsJournal read = record {
      journal = journal;
      more = [];
      fits = was.fits;
      lines_are = sym (append-nil read);
    } in
    record {
      counted = omega arith;
      there = omega (arith, was.count, ap length was.lines_are, length-append read (text ∷ rest));
      good = subst BeginsJournal (sym front) begun;
      bad = λ begins.
          let next = next_line journal text was.fits
          (subst BeginsJournal (ap (λ lines. lines ++ get_or all (line + 1 - 1) [] ∷ []) front
          ∙ ap (λ t. read ++ t ∷ []) here) begins) in
          none next.placed next.range (subst (λ low. low ≤ next.placed.0) (sym was.last) next.above) next.line_is;
    }

-- all lines are read
pub is_read : (all : List (List ℕ)) (journal : List (List Entry)) (line reached : ℕ)
    → HasRead all journal [] line reached → AreJournalLines all journal
is_read all journal line reached was =
    record { fits = was.fits; lines_are = was.lines_are ∙ append-nil (journal_lines journal) }

-- lists with room, of which one has an entry more
pub entered_at : (lists : List (Roomy Entry)) (shard : ℕ) (old new : Roomy Entry) (entry : Entry) → shard < length lists
    → old ≡ get_or lists shard old → new.items ≡ old.items ++ entry ∷ []
    → histories (set lists shard new) ≡ entered (histories lists) shard entry
entered_at [] shard old new entry within is pushed = absurd (omega arith)
entered_at (list ∷ lists) zero old new entry within is pushed =
    let items : old.items ≡ list.items = ap (λ (l : Roomy Entry). l.items) is in
    ap (λ history. history ∷ histories lists) (pushed ∙ ap (λ history. history ++ entry ∷ []) items)
entered_at (list ∷ lists) (suc shard) old new entry within is pushed = ap (λ behind. list.items ∷ behind)
    (entered_at lists shard old new entry (omega arith) is pushed)

pub count_histories : (lists : List (Roomy Entry)) → length (histories lists) ≡ length lists
count_histories lists = length-map lists (λ (list : Roomy Entry). list.items)

-- an entry that a line tells is the one whose line it is
pub same_shard : (text : List ℕ) (told placed : ShardEntry) → IsEntryPlaced 16 told → IsEntryPlaced 16 placed
    → text ≡ entry_line told → text ≡ entry_line placed → told.0 ≡ placed.0
same_shard text told placed range in_range is also = ap (λ (p : ShardEntry). p.0)
    (one_entry told placed range in_range (sym is ∙ also))

-- a first line that tells no number of shards
pub bad_head : (all : List (List ℕ)) (head : List ℕ) (rest : List (List ℕ)) → all ≡ head ∷ rest
    → ((shards : ℕ) → 1 ≤ shards → shards ≤ 16 → head ≢ head_line shards) → IsBadJournalLine all 1
bad_head all head rest is none = record {
  counted = omega arith;
  there = omega arith;
  good = nothing_begins;
  bad = λ begins.
      let first = first_head head (subst (λ lines. BeginsJournal (get_or lines 0 [] ∷ [])) is begins) in
      none first.0 first.1 first.2 first.3;
}

-- a text without lines
pub no_head : (text : List ℕ) → text ≡ [] → IsBadJournalLine (lines_of text) 1
no_head text empty = subst (λ t. IsBadJournalLine (lines_of t) 1) (sym empty) none where
  none : IsBadJournalLine [] 1
  none = record {
    counted = omega arith;
    there = omega arith;
    good = nothing_begins;
    bad = λ begins. let first = first_head [] begins in absurd (let is : [] ≡ head_line first.0 = first.3 in cc);
  }
