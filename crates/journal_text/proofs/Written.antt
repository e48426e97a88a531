-- The lines of entries, one after another.
use Rattle.std.proofs.Common.{◌≡◌, ◌∙◌, sym, ap, ℕ, zero, suc, ◌+◌, ◌<◌, List, [], ◌∷◌, ◌++◌, Some, arith, append_assoc}
use Rattle.std.proofs.Common.{append-nil, length, map, take, get_or, slice_get}
use Rattle.std.proofs.lemmas.List.{map-append, take_more}
use Rattle.std.proofs.lemmas.List.Concat.{flat_map-append}
use Rattle.std.specs.Fmt.{decimal}
use Rattle.flake_base.specs.Roomy.{Roomy}
use Rattle.flake_base.specs.declared.journal.Entry.{Entry}
use Rattle.flake_base.specs.Histories.{histories}
use Rattle.journal_text.specs.Lines.{joined_lines}
use Rattle.journal_text.specs.Text.{ShardEntry, placed_from, entry_line}
use Rattle.journal_text.proofs.Placing.{at_shard}

-- the text of these entries
abbrev pub entries_text : List ShardEntry → List ℕ
entries_text placed = joined_lines (map entry_line placed)

pub entries_text-append : (some others : List ShardEntry) → entries_text (some ++ others) ≡ entries_text some
    ++ entries_text others
entries_text-append some others = ap joined_lines (map-append entry_line some others)
    ∙ flat_map-append (λ (line : List ℕ). line ++ 10 ∷ []) (map entry_line some) (map entry_line others)

-- the text of a shard's first entries, and one more
pub one_entry_more : (shard : ℕ) (history : List Entry) (i : ℕ) (entry : Entry) → i < length history
    → get_or history i entry ≡ entry
    → entries_text (at_shard shard (take (i + 1) history)) ≡ entries_text (at_shard shard (take i history))
    ++ (entry_line (shard, entry) ++ 10 ∷ [])
one_entry_more shard history i entry within is =
    let front = take i history in
    ap (λ h. entries_text (at_shard shard h)) (take_more history i entry within ∙ ap (λ e. front ++ e ∷ []) is)
    ∙ ap entries_text (map-append (λ (e : Entry). (shard, e)) front (entry ∷ []))
    ∙ entries_text-append (at_shard shard front) ((shard, entry) ∷ [])
    ∙ ap (λ text. entries_text (at_shard shard front) ++ text) (append-nil (entry_line (shard, entry) ++ 10 ∷ []))

placed_more : (from i : ℕ) (lists : List (Roomy Entry)) (list : Roomy Entry) → slice_get lists i ≡ Some list
    → placed_from from (histories (take (suc i) lists)) ≡ placed_from from (histories (take i lists))
    ++ at_shard (from + i) list.items
placed_more from i [] list is = absurd (cc (is))
placed_more from zero (first ∷ lists) list is =
    let same : first ≡ list = cc in
    let here : from ≡ from + 0 = omega arith in
    append-nil (at_shard from first.items) ∙ ap (λ (l : Roomy Entry). at_shard from l.items) same
    ∙ ap (λ n. at_shard n list.items) here
placed_more from (suc i) (first ∷ lists) list is =
    let next : from + 1 + i ≡ from + suc i = omega arith in
    ap (λ placed. at_shard from first.items ++ placed)
    (placed_more (from + 1) i lists list is
    ∙ ap (λ n. placed_from (from + 1) (histories (take i lists)) ++ at_shard n list.items) next)
    ∙ sym (append_assoc (at_shard from first.items) (placed_from (from + 1) (histories (take i lists)))
    (at_shard (from + suc i) list.items))

-- the text of the first shards, and of one more
pub one_shard_more : (i : ℕ) (lists : List (Roomy Entry)) (list : Roomy Entry) → slice_get lists i ≡ Some list
    → entries_text (placed_from 0 (histories (take (i + 1) lists)))
    ≡ entries_text (placed_from 0 (histories (take i lists))) ++ entries_text (at_shard i list.items)
one_shard_more i lists list is =
    let next : i + 1 ≡ suc i = omega arith in
    let here : 0 + i ≡ i = omega arith in
    ap (λ n. entries_text (placed_from 0 (histories (take n lists)))) next
    ∙ ap entries_text (placed_more 0 i lists list is
    ∙ ap (λ n. placed_from 0 (histories (take i lists)) ++ at_shard n list.items) here)
    ∙ entries_text-append (placed_from 0 (histories (take i lists))) (at_shard i list.items)

-- a line put together from its numbers and what ends each
pub line_is : (shard : ℕ) (entry : Entry) (text : List ℕ)
    → (((text ++ (decimal shard ++ 32 ∷ [])) ++ (decimal entry.session ++ 32 ∷ [])) ++ (decimal entry.call ++ 32 ∷ []))
    ++ (decimal entry.part ++ 10 ∷ [])
    ≡ text ++ (entry_line (shard, entry) ++ 10 ∷ [])
line_is shard entry text = simp append_assoc
