-- What is held at the end: a buffer for each fragment of the final values.
use Rattle.std.proofs.Common.{◌≡◌, ◌==◌, Bool, true, false, ℕ, zero, suc, ◌+◌, ◌≤◌, List, [], ◌∷◌, ◌++◌}
use Rattle.std.proofs.Common.{if◌then◌else◌, map, refl, ap, sym, ◌∙◌, ne_eqb, arith}
use Rattle.std.specs.List.{flat_map}
use Rattle.std.specs.FinMap as finite
use Rattle.view_sums.specs.Total.{total, same, Each, SameItems}
use Rattle.view_sums.proofs.Sums.{total-append, total-map}
use Rattle.pin_core.specs.Holding.{Holding, Key, at, loose_at}
use Rattle.pin_core.specs.HeldCount.{held_in}
use Rattle.pin_core.specs.declared.sizes.Sizes.{Sizes}
use Rattle.pin_core.specs.declared.class.Class.{Class}
use Rattle.pinned_pool.specs.Claims.{class_start, count_of}
use Rattle.pinned_pool.specs.Classes.{just}
use Rattle.pinned_pool.specs.Moves.{hold_key, loose_key}
use Rattle.frag_value.specs.Fragments.{fragments_in}
use Rattle.frag_value.specs.Values.{IsPlaced, keys_of}
use Rattle.flake_model.specs.Command.{Command}
use Rattle.flake_model.specs.Deed.{Deed, entries_of, IsLegal, store_left, final_store}
use Rattle.flake_model.specs.Fragments.{fragments_of}
use Rattle.flake_model.specs.Journal.{step_of, store_after}
use Rattle.flake_model.specs.Store.{Store, after}
use Rattle.order_book.specs.Closed.{AreMeant, journal_of}
use Rattle.order_book.specs.Pages.{ShardList}
use Rattle.shard_core.specs.Stock.{fragments_by, fragments_left}
use Rattle.serve_model.specs.Shown.{values_left, fragments_by_class}
use Rattle.serve_model.proofs.Finals.{length_in, weigh_fragment, fragments_total}
use Rattle.serve_model.proofs.Ranges.{sum_from, range_one}

-- The weights of holds that are not pinned, by their buffers.
module _ (holds : List Holding) (kept : List (ℕ × ℕ)) (same_keys : SameItems (map hold_key holds) (keys_of kept)) where
  by_keys : (weight : Key → ℕ)
      → total (λ (h : Holding). weight (hold_key h)) holds ≡ total (λ (p : ℕ × ℕ). weight (loose_key p.0)) kept
  by_keys weight =
      sym (total-map weight hold_key holds) ∙ same_keys weight
      ∙ total-map weight (λ (p : ℕ × ℕ). loose_key p.0) kept

  pub held_at : (b : ℕ) → total (at b) holds ≡ total (λ (p : ℕ × ℕ). same p.0 b) kept
  held_at b = by_keys (λ (k : Key). if k.buffer == b then 1 else 0)

  pub loose_there : (b : ℕ) → total (loose_at b) holds ≡ total (λ (p : ℕ × ℕ). same p.0 b) kept
  loose_there b = by_keys (λ (k : Key). if k.buffer == b then (if k.pinned then 0 else 1) else 0)

zero_one : (t : ℕ) → t ≤ 1 → (if t == 0 then 0 else 1) ≡ t
zero_one zero few = refl
zero_one (suc t) few = rw (ne_eqb (suc t) 0 (λ is. omega arith)) (omega arith)

at_most_one : (none : Bool) → (if none then 0 else 1) ≤ 1
at_most_one true = omega arith
at_most_one false = omega arith

-- of n buffers no more than n have a hold
pub held_most : (weighs : (Holding → ℕ) → ℕ) (first n : ℕ) → held_in weighs first n ≤ n
held_most weighs first zero = omega arith
held_most weighs first (suc n) =
    omega (arith, at_most_one (weighs (at (first + n)) == 0), held_most weighs first n)

-- buffers that have one hold at most are as many as their holds
pub held_is : (weighs : (Holding → ℕ) → ℕ) (f : ℕ → ℕ) (first n : ℕ) → ((b : ℕ) → weighs (at b) ≡ f b)
    → ((b : ℕ) → f b ≤ 1) → held_in weighs first n ≡ sum_from f first n
held_is weighs f first zero is few = refl
held_is weighs f first (suc n) is few =
    let here : (if weighs (at (first + n)) == 0 then 0 else 1) ≡ f (first + n) =
    ap (λ t. if t == 0 then 0 else 1) (is (first + n)) ∙ zero_one (f (first + n)) (few (first + n)) in
    omega (arith, here, held_is weighs f first n is few)

-- fragments in buffers of their classes, counted by their buffers and by their lengths
pub placed_total : (z : Sizes) (class : Class) (kept : List (ℕ × ℕ)) → Each (IsPlaced z) kept
    → total (λ (p : ℕ × ℕ). sum_from (same p.0) (class_start z class) (count_of z class)) kept
    ≡ total (weigh_fragment class) kept
placed_total z class [] each = refl
placed_total z class (p ∷ kept) each =
    let here : sum_from (same p.0) (class_start z class) (count_of z class) ≡ length_in class p.1 =
    range_one z class p.0 each.0.0 ∙ ap (λ k. just k 1 class) each.0.1 in
    omega (arith, here, placed_total z class kept each.1)

-- what a history of deeds leaves is what the replay of its entries does
left_is : (commands : List (List Command)) (store : Store) (deeds : List Deed) → AreMeant commands deeds
    → store_left store deeds ≡ store_after store (flat_map (step_of commands) (entries_of deeds))
left_is commands store [] meant = refl
left_is commands store (deed ∷ deeds) meant =
    let here : step_of commands deed.entry ≡ (deed.entry, deed.operation) ∷ [] = rw meant.0 refl in
    left_is commands (after store deed.operation) deeds meant.1
    ∙ sym (ap (λ first. store_after store (first ++ flat_map (step_of commands) (entries_of deeds))) here)

-- the fragments of what the shards' deeds leave are those of what the journal leaves
pub left_total : (class : Class) (commands : List (List Command)) (shards : List ShardList)
    → Each (λ (s : ShardList). IsLegal s.told) shards → Each (λ (s : ShardList). AreMeant commands s.told) shards
    → total (weigh_fragment class) (fragments_left shards) ≡ fragments_by_class class commands (journal_of shards)
left_total class commands [] legal meant = refl
left_total class commands (shard ∷ shards) legal meant =
    let weight : List ℕ → ℕ = λ bytes. fragments_in class (fragments_of bytes) in
    let own = finite.values (final_store shard.told) in
    let shown = finite.values (store_after finite.empty (flat_map (step_of commands) (entries_of shard.told))) in
    let one : total weight own ≡ total weight shown =
    ap (λ store. total weight (finite.values store)) (left_is commands finite.empty shard.told meant.0) in
    omega (
      arith,
      total-append (weigh_fragment class) (fragments_by shard.told) (fragments_left shards),
      fragments_total class shard.told legal.0,
      one,
      total-append weight shown (values_left commands (journal_of shards)),
      left_total class commands shards legal.1 meant.1,
    )
