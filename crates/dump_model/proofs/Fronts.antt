-- A shard's list that begins with what was seen of it.
use Rattle.std.proofs.Common.{◌≡◌, ℕ, ◌<◌, ◌≤◌, suc, Bool, true, false, cond, nat_eq, List, [], ◌∷◌, ◌++◌, length, map}
use Rattle.std.proofs.Common.{take, drop, refl, ap, sym, ◌∙◌, subst}
use Rattle.std.specs.List.{AllByRecursion, flat_map, filter}
use Rattle.std.proofs.lemmas.Bool.{eq-eqb}
use Rattle.std.proofs.lemmas.List.{append_cancel_left, map-append}
use Rattle.std.proofs.lemmas.List.Elements.{filter-append}
use Rattle.std.specs.FinMap as finite
use Rattle.view_sums.specs.Total.{Each}
use Rattle.flake_base.specs.declared.journal.Entry.{Entry}
use Rattle.flake_model.specs.Command.{Command}
use Rattle.flake_model.specs.Store.{Store, after}
use Rattle.flake_model.specs.Deed.{Deed, entries_of, steps_of, store_left, final_store}
use Rattle.flake_model.specs.Journal.{step_of, store_after}
use Rattle.order_book.specs.Pages.{ShardList}
use Rattle.order_book.specs.Closed.{AreMeant, deeds_by, session_deeds_in}
use Rattle.dump_model.specs.Dump.{folded}
use Rattle.dump_model.specs.Seen.{ShardSeen, AreBelow, AreFrom}

store_left_is : (store : Store) (deeds : List Deed) → store_after store (steps_of deeds) ≡ store_left store deeds
store_left_is store [] = refl
store_left_is store (deed ∷ deeds) = store_left_is (after store deed.operation) deeds

steps_are : (commands : List (List Command)) (deeds : List Deed) → AreMeant commands deeds
    → flat_map (step_of commands) (entries_of deeds) ≡ steps_of deeds
steps_are commands [] meant = refl
steps_are commands (deed ∷ deeds) meant =
    let here : step_of commands deed.entry ≡ (deed.entry, deed.operation) ∷ [] = rw meant.0 refl in
    ap (λ some. some ++ flat_map (step_of commands) (entries_of deeds)) here
    ∙ ap (λ rest. (deed.entry, deed.operation) ∷ rest) (steps_are commands deeds meant.1)

-- what deeds leave is what their entries leave
pub folds : (commands : List (List Command)) (deeds : List Deed) → AreMeant commands deeds
    → folded commands (entries_of deeds) ≡ final_store deeds
folds commands deeds meant =
    ap (λ steps. store_after finite.empty steps) (steps_are commands deeds meant) ∙ store_left_is finite.empty deeds

pub take_front : {A : Type 0} (xs ys : List A) → take (length xs) (xs ++ ys) ≡ xs
take_front [] ys = refl
take_front (x ∷ xs) ys = ap (λ rest. x ∷ rest) (take_front xs ys)

pub drop_front : {A : Type 0} (xs ys : List A) → drop (length xs) (xs ++ ys) ≡ ys
drop_front [] ys = refl
drop_front (x ∷ xs) ys = drop_front xs ys

pub length-entries : (deeds : List Deed) → length (entries_of deeds) ≡ length deeds
length-entries [] = refl
length-entries (deed ∷ deeds) = ap suc (length-entries deeds)

-- what holds of the session's deeds, of the others nothing is said
unfiltered : (P : Entry → Type 0) (session : ℕ) (deeds : List Deed)
    → Each (λ (deed : Deed). P deed.entry) (filter (λ (deed : Deed). nat_eq deed.entry.session session) deeds)
    → AllByRecursion (λ (entry : Entry). entry.session ≡ session → P entry) (entries_of deeds)
unfiltered P session [] all = tt
unfiltered P session (deed ∷ deeds) all =
    by_test (nat_eq deed.entry.session session) refl all (unfiltered P session deeds) where
      by_test : (t : Bool) → nat_eq deed.entry.session session ≡ t
          → Each (λ (d : Deed). P d.entry)
          (cond t (deed ∷ filter (λ (d : Deed). nat_eq d.entry.session session) deeds)
          (filter (λ (d : Deed). nat_eq d.entry.session session) deeds))
          → (Each (λ (d : Deed). P d.entry) (filter (λ (d : Deed). nat_eq d.entry.session session) deeds)
          → AllByRecursion (λ (entry : Entry). entry.session ≡ session → P entry) (entries_of deeds))
          → AllByRecursion (λ (entry : Entry). entry.session ≡ session → P entry) (entries_of (deed ∷ deeds))
      by_test true is all rest = ((λ _. all.0), rest all.1)
      by_test false is all rest =
          ((λ same. absurd (let no : true ≡ false = sym (eq-eqb deed.entry.session session same) ∙ is in cc)), rest all)

-- what holds of all that a session was told holds of what it was told of a shard
told_in : (P : Entry → Type 0) (shard : ℕ) (told : List (ℕ × Deed)) → Each (λ (t : ℕ × Deed). P t.1.entry) told
    → Each (λ (deed : Deed). P deed.entry)
    (map (λ (t : ℕ × Deed). t.1) (filter (λ (t : ℕ × Deed). nat_eq t.0 shard) told))
told_in P shard [] all = tt
told_in P shard (t ∷ told) all = by_test (nat_eq t.0 shard) (told_in P shard told all.1) where
  by_test : (b : Bool)
      → Each (λ (deed : Deed). P deed.entry)
      (map (λ (s : ℕ × Deed). s.1) (filter (λ (s : ℕ × Deed). nat_eq s.0 shard) told))
      → Each (λ (deed : Deed). P deed.entry)
      (map (λ (s : ℕ × Deed). s.1)
      (cond b (t ∷ filter (λ (s : ℕ × Deed). nat_eq s.0 shard) told)
      (filter (λ (s : ℕ × Deed). nat_eq s.0 shard) told)))
  by_test true rest = (all.0, rest)
  by_test false rest = rest

-- In a shard whose list began so when it was seen, and shares with the session what that was told then and is told now.
module _ (session before : ℕ) (looks : List ShardSeen) (shard : ShardList) (look rest : List Deed)
    (told more : List (ℕ × Deed))
    (begins : shard.told ≡ look ++ rest)
    (own : deeds_by session (record { number = shard.number; told = look })
    ≡ session_deeds_in shard.number (record { number = session; told = told; looks = looks }))
    (all : deeds_by session shard
    ≡ session_deeds_in shard.number (record { number = session; told = told ++ more; looks = looks })) where
  is_own : Deed → Bool
  is_own deed = nat_eq deed.entry.session session

  is_here : ℕ × Deed → Bool
  is_here t = nat_eq t.0 shard.number

  own_behind : filter (λ (deed : Deed). nat_eq deed.entry.session session) rest
      ≡ map (λ (t : ℕ × Deed). t.1) (filter (λ (t : ℕ × Deed). nat_eq t.0 shard.number) more)
  own_behind =
      let mine = λ (deeds : List Deed). filter (λ (deed : Deed). nat_eq deed.entry.session session) deeds in
      let here =
      λ (ts : List (ℕ × Deed)). map (λ (t : ℕ × Deed). t.1)
      (filter (λ (t : ℕ × Deed). nat_eq t.0 shard.number) ts) in
      let some : mine (look ++ rest) ≡ here (told ++ more) = ap mine (sym begins) ∙ all in
      let split : here (told ++ more) ≡ here told ++ here more =
      ap (map (λ (t : ℕ × Deed). t.1)) (filter-append (λ (t : ℕ × Deed). nat_eq t.0 shard.number) told more)
      ∙ map-append (λ (t : ℕ × Deed). t.1) (filter (λ (t : ℕ × Deed). nat_eq t.0 shard.number) told)
      (filter (λ (t : ℕ × Deed). nat_eq t.0 shard.number) more) in
      append_cancel_left (here told) (mine rest) (here more)
      (ap (λ (front : List Deed). front ++ mine rest) (sym own)
      ∙ sym (filter-append (λ (deed : Deed). nat_eq deed.entry.session session) look rest) ∙ some ∙ split)

  pub below : Each (λ (t : ℕ × Deed). t.1.entry.call < before) told → AreBelow session before (entries_of look)
  below calls = unfiltered (λ (entry : Entry). entry.call < before) session look
      (subst (Each (λ (deed : Deed). deed.entry.call < before)) (sym own)
      (told_in (λ (entry : Entry). entry.call < before) shard.number told calls))

  pub behind : Each (λ (t : ℕ × Deed). before ≤ t.1.entry.call) more → AreFrom session before (entries_of rest)
  behind calls = unfiltered (λ (entry : Entry). before ≤ entry.call) session rest
      (subst (Each (λ (deed : Deed). before ≤ deed.entry.call)) (sym own_behind)
      (told_in (λ (entry : Entry). before ≤ entry.call) shard.number more calls))
