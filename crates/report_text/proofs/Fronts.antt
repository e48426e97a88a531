-- The lines of a journal, said one behind another.
use Rattle.std.proofs.Common.{◌≡◌, ◌∙◌, refl, sym, ap, subst, ℕ, zero, suc, ◌+◌, ◌<◌, ◌≤◌, Bool, true, List, []}
use Rattle.std.proofs.Common.{◌∷◌, ◌++◌, Some, append_assoc, append-nil, length, take, drop, get_or, slice_get}
use Rattle.std.proofs.lemmas.List.{map-append, take-append-drop, take_all, take_more}
use Rattle.flake_base.specs.Growth.{Grew}
use Rattle.flake_base.specs.Roomy.{Roomy}
use Rattle.flake_base.specs.declared.journal.Entry.{Entry}
use Rattle.flake_base.specs.Histories.{histories}
use Rattle.journal_text.specs.Text.{ShardEntry, placed_from, entry_line, head_line, journal_text_of}
use Rattle.journal_text.proofs.HasReads.{count_histories}
use Rattle.journal_text.proofs.Placing.{at_shard}
use Rattle.journal_text.proofs.Written.{entries_text, entries_text-append, one_shard_more}
use Rattle.report_text.specs.Pieces.{SaidBut}
use Rattle.report_text.proofs.Pieces.{grew_longer, grew_then, said_then, stands_ready}

-- those of a shard's first entries, and the others behind them
front_entries : (shard i : ℕ) (history : List Entry) → entries_text (at_shard shard history)
    ≡ entries_text (at_shard shard (take i history)) ++ entries_text (at_shard shard (drop i history))
front_entries shard i history =
    ap (λ h. entries_text (at_shard shard h)) (sym (take-append-drop i history))
    ∙ ap entries_text (map-append (λ (e : Entry). (shard, e)) (take i history) (drop i history))
    ∙ entries_text-append (at_shard shard (take i history)) (at_shard shard (drop i history))

entry_more : (shard i : ℕ) (history : List Entry) (d : Entry) → i < length history
    → entries_text (at_shard shard (take (i + 1) history))
    ≡ entries_text (at_shard shard (take i history)) ++ (entry_line (shard, get_or history i d) ++ 10 ∷ [])
entry_more shard i history d within =
    let front = take i history in
    let entry = get_or history i d in
    ap (λ h. entries_text (at_shard shard h)) (take_more history i d within)
    ∙ ap entries_text (map-append (λ (e : Entry). (shard, e)) front (entry ∷ []))
    ∙ entries_text-append (at_shard shard front) ((shard, entry) ∷ [])
    ∙ ap (λ text. entries_text (at_shard shard front) ++ text) (append-nil (entry_line (shard, entry) ++ 10 ∷ []))

-- one entry more
pub history_more : (shard i : ℕ) (history : List Entry) (d : Entry) (text ready next old mid new : List ℕ)
    → i < length history → SaidBut ready (text ++ entries_text (at_shard shard (take i history))) old mid
    → SaidBut next (ready ++ (entry_line (shard, get_or history i d) ++ 10 ∷ [])) mid new
    → SaidBut next (text ++ entries_text (at_shard shard (take (i + 1) history))) old new
history_more shard i history d text ready next old mid new within one two =
    let front = entries_text (at_shard shard (take i history)) in
    let line = entry_line (shard, get_or history i d) ++ 10 ∷ [] in
    subst (λ t. SaidBut next t old new)
    (append_assoc text front line ∙ ap (λ t. text ++ t) (sym (entry_more shard i history d within)))
    (said_then ready next (text ++ front) line old mid new one two)

-- a say failed among the entries
pub history_failed : (shard i : ℕ) (history : List Entry) (text ready old mid new : List ℕ)
    → SaidBut ready (text ++ entries_text (at_shard shard (take i history))) old mid → Grew true ready mid new
    → Grew true (text ++ entries_text (at_shard shard history)) old new
history_failed shard i history text ready old mid new one grew =
    let front = entries_text (at_shard shard (take i history)) in
    let rest = entries_text (at_shard shard (drop i history)) in
    subst (λ t. Grew true t old new)
    (append_assoc text front rest ∙ ap (λ t. text ++ t) (sym (front_entries shard i history)))
    (grew_longer (text ++ front) rest old new (grew_then true ready (text ++ front) old mid new one grew))

-- all entries of a shard
pub history_whole : (shard i : ℕ) (history : List Entry) (text ready old new : List ℕ) → length history ≤ i
    → SaidBut ready (text ++ entries_text (at_shard shard (take i history))) old new
    → SaidBut ready (text ++ entries_text (at_shard shard history)) old new
history_whole shard i history text ready old new past one =
    subst (λ h. SaidBut ready (text ++ entries_text (at_shard shard h)) old new) (take_all i history past) one

-- the entries of the first shards, and others behind them
placed_front : (from i : ℕ) (lists : List (Roomy Entry)) → (rest : List ShardEntry)
    × (placed_from from (histories lists) ≡ placed_from from (histories (take i lists)) ++ rest)
placed_front from zero lists = (placed_from from (histories lists), refl)
placed_front from (suc i) [] = ([], refl)
placed_front from (suc i) (list ∷ lists) =
    let rest = placed_front (from + 1) i lists in (
      rest.0,
      ap (λ placed. at_shard from list.items ++ placed) rest.1
          ∙ sym (append_assoc (at_shard from list.items) (placed_from (from + 1) (histories (take i lists))) rest.0),
    )

-- the head, and the lines of the first shards
abbrev pub front_of : ℕ → List (Roomy Entry) → List ℕ
front_of i lists = (head_line (length lists) ++ 10 ∷ []) ++ entries_text (placed_from 0 (histories (take i lists)))

shard_more : (i : ℕ) (lists : List (Roomy Entry)) (list : Roomy Entry) (history : List Entry)
    → history ≡ list.items → slice_get lists i ≡ Some list
    → front_of i lists ++ entries_text (at_shard i history) ≡ front_of (i + 1) lists
shard_more i lists list history is here =
    let head = head_line (length lists) ++ 10 ∷ [] in
    append_assoc head (entries_text (placed_from 0 (histories (take i lists)))) (entries_text (at_shard i history))
    ∙ ap (λ (h : List Entry). head
    ++ (entries_text (placed_from 0 (histories (take i lists))) ++ entries_text (at_shard i h))) is
    ∙ ap (λ t. head ++ t) (sym (one_shard_more i lists list here))

-- one shard more
pub shards_more : (i : ℕ) (lists : List (Roomy Entry)) (list : Roomy Entry) (history : List Entry)
    (ready next old mid new : List ℕ) → history ≡ list.items → slice_get lists i ≡ Some list
    → SaidBut ready (front_of i lists) old mid → SaidBut next (ready ++ entries_text (at_shard i history)) mid new
    → SaidBut next (front_of (i + 1) lists) old new
shards_more i lists list history ready next old mid new is here one two =
    subst (λ t. SaidBut next t old new) (shard_more i lists list history is here)
    (said_then ready next (front_of i lists) (entries_text (at_shard i history)) old mid new one two)

whole_text : (lists : List (Roomy Entry)) → (head_line (length lists) ++ 10 ∷ [])
    ++ entries_text (placed_from 0 (histories lists)) ≡ journal_text_of (histories lists)
whole_text lists = ap (λ n. (head_line n ++ 10 ∷ []) ++ entries_text (placed_from 0 (histories lists)))
    (sym (count_histories lists))

front_whole : (i : ℕ) (lists : List (Roomy Entry)) → (rest : List ℕ)
    × (front_of i lists ++ rest ≡ journal_text_of (histories lists))
front_whole i lists =
    let head = head_line (length lists) ++ 10 ∷ [] in
    let front = placed_from 0 (histories (take i lists)) in
    let rest = placed_front 0 i lists in (
      entries_text rest.0,
      append_assoc head (entries_text front) (entries_text rest.0)
          ∙ ap (λ t. head ++ t) (sym (entries_text-append front rest.0))
          ∙ ap (λ placed. head ++ entries_text placed) (sym rest.1) ∙ whole_text lists,
    )

-- a say failed among the shards
pub shards_failed : (i : ℕ) (lists : List (Roomy Entry)) (list : Roomy Entry) (history : List Entry)
    (ready old mid new : List ℕ) → history ≡ list.items → slice_get lists i ≡ Some list
    → SaidBut ready (front_of i lists) old mid → Grew true (ready ++ entries_text (at_shard i history)) mid new
    → Grew true (journal_text_of (histories lists)) old new
shards_failed i lists list history ready old mid new is here one grew =
    let lines = entries_text (at_shard i history) in
    let rest = front_whole (i + 1) lists in
    subst (λ t. Grew true t old new) (ap (λ t. t ++ rest.0) (shard_more i lists list history is here) ∙ rest.1)
    (grew_longer (front_of i lists ++ lines) rest.0 old new
    (grew_then true (ready ++ lines) (front_of i lists ++ lines) old mid new
    (stands_ready ready lines (ready ++ lines) (front_of i lists) old mid refl one) grew))

-- all shards, and what stood ready was said
pub journal_said : (failed : Bool) (i : ℕ) (lists : List (Roomy Entry)) (ready now old mid new : List ℕ)
    → length lists ≤ i → now ≡ ready → SaidBut ready (front_of i lists) old mid → Grew failed now mid new
    → Grew failed (journal_text_of (histories lists)) old new
journal_said failed i lists ready now old mid new past is one grew =
    subst (λ t. Grew failed t old new)
    (ap (λ l. (head_line (length lists) ++ 10 ∷ []) ++ entries_text (placed_from 0 (histories l)))
    (take_all i lists past) ∙ whole_text lists)
    (grew_then failed ready (front_of i lists) old mid new one (subst (λ t. Grew failed t mid new) is grew))
