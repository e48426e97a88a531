-- Each shard's list beside what was seen of it.
use Rattle.std.proofs.Common.{◌≡◌, ℕ, ◌+◌, ◌<◌, ◌≤◌, zero, suc, List, [], ◌∷◌, ◌++◌, length, map, take, drop, None}
use Rattle.std.proofs.Common.{Some, refl, ap, sym, ◌∙◌, subst, arith}
use Rattle.std.specs.List.{range_with_len}
use Rattle.std.specs.Prelude.{slice_get, slice_index, ⊤}
use Rattle.std.proofs.lemmas.List.{length-append, map-append}
use Rattle.view_sums.specs.Total.{Each}
use Rattle.view_sums.proofs.Eachs.{each-imp, each-front, each-back}
use Rattle.flake_base.specs.declared.journal.Entry.{Entry}
use Rattle.flake_model.specs.Command.{Command}
use Rattle.flake_model.specs.Deed.{Deed, entries_of, final_store}
use Rattle.order_book.specs.Pages.{ShardList, SessionList}
use Rattle.order_book.specs.Closed.{AreClosed, AreMeant, AreShared, AreSeen, BeginsAt, IsShared, journal_of, deeds_by}
use Rattle.order_book.specs.Closed.{session_deeds_in}
use Rattle.order_book.specs.declared.rule.BookSizes.{BookSizes}
use Rattle.dump_model.specs.Dump.{pairs_in, pairs_text, pairs_dumped, at_point, folded, dumped}
use Rattle.dump_model.specs.Seen.{ShardSeen, list_seen, pairs_seen, list_with, AreBelow, AreFrom, SeenMakesDump}
use Rattle.dump_model.proofs.Fronts.{folds, take_front, drop_front, length-entries, below, behind}

abbrev points_of : List ShardSeen → List ℕ
points_of seen = map (λ (look : ShardSeen). length look.1) seen

-- the list of the shard begins with what was seen of it
pub record IsAligned (shard : ShardList) (look : ShardSeen) : Type 0 where
  pub number : shard.number ≡ look.0
  pub rest : List Deed
  pub begins : shard.told ≡ look.1 ++ rest

abbrev Aligned : List ShardList → List ShardSeen → Type 0
Aligned [] [] = ⊤
Aligned [] (look ∷ seen) = ⊥
Aligned (shard ∷ shards) [] = ⊥
Aligned (shard ∷ shards) (look ∷ seen) = IsAligned shard look × Aligned shards seen

align : (first n : ℕ) (shards : List ShardList) (seen : List ShardSeen)
    → map (λ (shard : ShardList). shard.number) shards ≡ range_with_len first n
    → map (λ (look : ShardSeen). look.0) seen ≡ range_with_len first n
    → Each (λ (look : ShardSeen). Each (BeginsAt look) shards) seen → Aligned shards seen
align first zero [] [] numbers looks begin = tt
align first zero [] (look ∷ seen) numbers looks begin = absurd (omega (arith, ap length looks))
align first zero (shard ∷ shards) seen numbers looks begin = absurd (omega (arith, ap length numbers))
align first (suc n) [] seen numbers looks begin = absurd (omega (arith, ap length numbers))
align first (suc n) (shard ∷ shards) [] numbers looks begin = absurd (omega (arith, ap length looks))
align first (suc n) (shard ∷ shards) (look ∷ seen) numbers looks begin =
    let here : shard.number ≡ first = cc in
    let there : look.0 ≡ first = cc in
    let more : map (λ (s : ShardList). s.number) shards ≡ range_with_len (first + 1) n = cc in
    let others : map (λ (l : ShardSeen). l.0) seen ≡ range_with_len (first + 1) n = cc in
    let same : shard.number ≡ look.0 = here ∙ sym there in
    let starts = begin.0.0 same in (
      record { number = same; rest = starts.0; begins = starts.1 },
      align (first + 1) n shards seen more others
          (each-imp (λ (l : ShardSeen). Each (BeginsAt l) (shard ∷ shards))
          (λ (l : ShardSeen). Each (BeginsAt l) shards) (λ l both. both.1) seen begin.1),
    )

entries-append : (some more : List Deed) → entries_of (some ++ more) ≡ entries_of some ++ entries_of more
entries-append some more = map-append (λ (deed : Deed). deed.entry) some more

parts : (shard : ShardList) (look : ShardSeen) (a : IsAligned shard look)
    → entries_of shard.told ≡ entries_of look.1 ++ entries_of a.rest
parts shard look a = ap entries_of a.begins ∙ entries-append look.1 a.rest

front_is : (shard : ShardList) (look : ShardSeen) (a : IsAligned shard look)
    → take (length look.1) (entries_of shard.told) ≡ entries_of look.1
front_is shard look a =
    (λ i. take (sym (length-entries look.1) i) (parts shard look a i))
    ∙ take_front (entries_of look.1) (entries_of a.rest)

rest_is : (shard : ShardList) (look : ShardSeen) (a : IsAligned shard look)
    → drop (length look.1) (entries_of shard.told) ≡ entries_of a.rest
rest_is shard look a =
    (λ i. drop (sym (length-entries look.1) i) (parts shard look a i))
    ∙ drop_front (entries_of look.1) (entries_of a.rest)

-- the text is the journal's
same_pairs : (commands : List (List Command)) (shards : List ShardList) (seen : List ShardSeen) → Aligned shards seen
    → Each (λ (shard : ShardList). AreMeant commands shard.told) shards
    → pairs_seen seen ≡ pairs_dumped commands (journal_of shards) (points_of seen)
same_pairs commands [] [] aligned meant = refl
same_pairs commands [] (look ∷ seen) aligned meant = absurd aligned
same_pairs commands (shard ∷ shards) [] aligned meant = absurd aligned
same_pairs commands (shard ∷ shards) (look ∷ seen) aligned meant =
    let a = aligned.0 in
    let seen_meant : AreMeant commands look.1 =
    each-front _ look.1 a.rest (subst (AreMeant commands) a.begins meant.0) in
    let store : final_store look.1 ≡ at_point commands (entries_of shard.told) (length look.1) =
    sym (folds commands look.1 seen_meant) ∙ ap (folded commands) (sym (front_is shard look a)) in
    ap (λ some. pairs_in some ++ pairs_seen seen) store
    ∙ ap (λ more. pairs_in (at_point commands (entries_of shard.told) (length look.1)) ++ more)
    (same_pairs commands shards seen aligned.1 meant.1)

as_many : (shards : List ShardList) (seen : List ShardSeen) → Aligned shards seen
    → length (points_of seen) ≡ length (journal_of shards)
as_many [] [] aligned = refl
as_many [] (look ∷ seen) aligned = absurd aligned
as_many (shard ∷ shards) [] aligned = absurd aligned
as_many (shard ∷ shards) (look ∷ seen) aligned = ap suc (as_many shards seen aligned.1)

-- At each shard's place.
module _ (commands : List (List Command)) (before : ℕ) (last : SessionList) (told more : List (ℕ × Deed))
    (deeds_are : last.told ≡ told ++ more)
    (calls_before : Each (λ (t : ℕ × Deed). t.1.entry.call < before) told)
    (calls_behind : Each (λ (t : ℕ × Deed). before ≤ t.1.entry.call) more) where
  abbrev Own : ShardSeen → Type 0
  Own look = deeds_by last.number (list_seen look) ≡ session_deeds_in look.0 (list_with last told)

  pub record IsCut (history : List Entry) (point : ℕ) : Type 0 where
    pub within : point ≤ length history
    pub below : AreBelow last.number before (take point history)
    pub behind : AreFrom last.number before (drop point history)

  cut_at : (shard : ShardList) (look : ShardSeen) → IsAligned shard look → IsShared shard last → Own look
      → IsCut (entries_of shard.told) (length look.1)
  cut_at shard look a shared own =
      let own_here =
      subst
      (λ (n : ℕ). deeds_by last.number (record { number = n; told = look.1 })
      ≡ session_deeds_in n (list_with last told))
      (sym a.number) own in
      let all_here =
      shared.deeds
      ∙ ap
      (λ (ts : List (ℕ × Deed)). session_deeds_in shard.number
      (record { number = last.number; told = ts; looks = last.looks })) deeds_are in
      record {
        within =
            omega (
              arith,
              ap length (parts shard look a),
              length-append (entries_of look.1) (entries_of a.rest),
              length-entries look.1,
            );
        below =
            subst (AreBelow last.number before) (sym (front_is shard look a))
            (below last.number before last.looks shard look.1 a.rest told more a.begins own_here all_here calls_before);
        behind =
            subst (AreFrom last.number before) (sym (rest_is shard look a))
            (behind last.number before last.looks shard look.1 a.rest told more a.begins own_here all_here
            calls_behind);
      }

  cut : (shards : List ShardList) (seen : List ShardSeen) → Aligned shards seen
      → Each (λ (shard : ShardList). IsShared shard last) shards → Each Own seen
      → (place : ℕ) (history : List Entry) → slice_get (journal_of shards) place ≡ Some history
      → IsCut history (slice_index (points_of seen) place)
  cut [] seen aligned shared own place history is = absurd (let no : None ≡ Some history = is in cc)
  cut (shard ∷ shards) [] aligned shared own place history is = absurd aligned
  cut (shard ∷ shards) (look ∷ seen) aligned shared own zero history is =
      let same : Some (entries_of shard.told) ≡ Some history = is in
      let here : entries_of shard.told ≡ history = cc in
      subst (λ (h : List Entry). IsCut h (length look.1)) here (cut_at shard look aligned.0 shared.0 own.0)
  cut (shard ∷ shards) (look ∷ seen) aligned shared own (suc place) history is =
      cut shards seen aligned.1 shared.1 own.1 place history is

pub dump_of_seen :
    ((z : BookSizes) (shards : List ShardList) (sessions : List SessionList) → AreClosed z shards sessions
    → AreShared shards sessions)
    → ((z : BookSizes) (shards : List ShardList) (sessions : List SessionList) → AreClosed z shards sessions
    → AreSeen shards sessions) → SeenMakesDump
dump_of_seen share see commands z shards last others before points text closed numbers meant has =
    let looked = (see z shards (last ∷ others) closed).0 in
    let begin =
    each-back _ has.front has.seen
    (subst (Each (λ (look : ShardSeen). Each (BeginsAt look) shards)) has.looks_are looked) in
    let aligned = align 0 z.shards shards has.seen numbers has.numbered begin in
    let shared =
    each-imp (λ (shard : ShardList). Each (IsShared shard) (last ∷ others))
    (λ (shard : ShardList). IsShared shard last) (λ shard all. all.0) shards
    (share z shards (last ∷ others) closed) in
    let cuts =
    cut commands before last has.earlier has.later has.deeds_are has.calls_before has.calls_behind shards has.seen
    aligned shared has.shared in
    let points_are : points ≡ points_of has.seen = has.points_are in
    record {
      as_many = ap length points_are ∙ as_many shards has.seen aligned;
      text_is = has.text_is ∙ ap pairs_text (same_pairs commands shards has.seen aligned meant)
          ∙ ap (λ (ps : List ℕ). dumped commands (journal_of shards) ps) (sym points_are);
      within =
          λ shard history is. subst (λ (ps : List ℕ). slice_index ps shard ≤ length history) (sym points_are)
          (cuts shard history is).within;
      below =
          λ shard history is. subst
          (λ (ps : List ℕ). AreBelow last.number before (take (slice_index ps shard) history)) (sym points_are)
          (cuts shard history is).below;
      behind =
          λ shard history is. subst (λ (ps : List ℕ). AreFrom last.number before (drop (slice_index ps shard) history))
          (sym points_are) (cuts shard history is).behind;
    }
