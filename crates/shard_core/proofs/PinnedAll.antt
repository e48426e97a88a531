-- The values of a map, pinned one after another.
use Rattle.std.proofs.Common.{◌≡◌, ℕ, zero, suc, ◌+◌, ◌<◌, ◌≤◌, List, [], ◌∷◌, ◌++◌, length, take, drop, Some}
use Rattle.std.proofs.Common.{refl, sym, ap, ◌∙◌, add-one, append_assoc, length-append, arith}
use Rattle.std.specs.Global.{Vec}
use Rattle.std.specs.List.{slice_get}
use Rattle.std.specs.List.Sorted.{IsPermutation}
use Rattle.std.specs.FinMap as finite
use Rattle.std.specs.Option.{option_map}
use Rattle.view_sums.specs.Total.{total, same, Each}
use Rattle.view_sums.proofs.Eachs.{each-append, each-imp}
use Rattle.view_sums.proofs.Sums.{total-append}
use Rattle.pin_core.specs.Buffers.{buffers}
use Rattle.pin_core.specs.Holding.{Holding}
use Rattle.pin_core.specs.declared.sizes.Sizes.{Sizes}
use Rattle.pinned_pool.specs.Moves.{loose_key}
use Rattle.pinned_pool.specs.Named.{IsSeat}
use Rattle.pinned_pool.specs.declared.view.View.{View}
use Rattle.pinned_pool.proofs.AfterSteps.{times-loose}
use Rattle.flake_model.specs.Store.{Store}
use Rattle.flake_model.specs.Deed.{Places}
use Rattle.frag_value.specs.Values.{Frags, HasValue, IsFilled, IsPlaced, IsValue, keys_of, uses, value_bytes}
use Rattle.frag_value.proofs.Lists.{each-at, take-more, map-more}
use Rattle.frag_value.proofs.Released.{asked-loose}
use Rattle.frag_value.specs.Pins.{KeyFrags, all_frags, pairs_shown}
use Rattle.frag_value.proofs.FewSteps.{are_few}
use Rattle.key_order.specs.Ascending.{IsAscending, pairs_of}
use Rattle.shard_core.specs.Kept.{Entries, value_at, AreHeld, Agrees}
use Rattle.shard_core.specs.Rooms.{FitRooms, key_frags}
use Rattle.shard_core.proofs.Changed.{total-permutation, each-permutation}
use Rattle.shard_core.proofs.Holds.{asks, wanted, counted}

abbrev pub Entry : Type 0
Entry = Vec ℕ × Frags

-- one room more
pub fit_more : (rs : List (List ℕ × ℕ)) (es : Entries) (r : List ℕ × ℕ) (e : Entry) → FitRooms rs es
    → r.0 ≡ e.0.items → length e.1 ≤ r.1 → FitRooms (rs ++ r ∷ []) (es ++ e ∷ [])
fit_more [] [] r e fit same long = (same, long, tt)
fit_more [] (f ∷ es) r e fit same long = absurd fit
fit_more (s ∷ rs) [] r e fit same long = absurd fit
fit_more (s ∷ rs) (f ∷ es) r e fit same long = (fit.0, fit.1, fit_more rs es r e fit.2 same long)

-- what is left at an entry
drop_next : {A : Type 0} (xs : List A) (i : ℕ) (x : A) → slice_get xs i ≡ Some x → drop i xs ≡ x ∷ drop (suc i) xs
drop_next [] i x is = absurd (cc)
drop_next (y ∷ xs) zero x is = let same : y ≡ x = cc in ap (λ z. z ∷ xs) same
drop_next (y ∷ xs) (suc i) x is = drop_next xs i x is

pub drop_here : {A : Type 0} (xs : List A) (i : ℕ) (x : A) → slice_get xs i ≡ Some x → drop i xs ≡ x ∷ drop (i + 1) xs
drop_here xs i x is = rw add-one (drop_next xs i x is)

pub no_room_left : (rs : List (List ℕ × ℕ)) (e : Entry) (es : Entries) → FitRooms rs (e ∷ es) → 0 < length rs
no_room_left [] e es fit = absurd fit
no_room_left (r ∷ rs) e es fit = omega arith

-- all fragments of some entries, and of one more
frags-append : (ps qs : List KeyFrags) → all_frags (ps ++ qs) ≡ all_frags ps ++ all_frags qs
frags-append [] qs = refl
frags-append (p ∷ ps) qs = ap (λ l. p.1 ++ l) (frags-append ps qs)
    ∙ sym (append_assoc p.1 (all_frags ps) (all_frags qs))

append-none : (v : Frags) → v ++ [] ≡ v
append-none [] = refl
append-none (p ∷ v) = ap (λ l. p ∷ l) (append-none v)

abbrev pub frags_in : Entries → Frags
frags_in es = all_frags (key_frags es)

pub pairs_more : (es : Entries) (i : ℕ) (e : Entry) → slice_get es i ≡ Some e
    → key_frags (take (i + 1) es) ≡ key_frags (take i es) ++ (e.0.items, e.1) ∷ []
pairs_more es i e is =
    ap key_frags (take-more es i e is) ∙ map-more (λ (x : Entry). (x.0.items, x.1)) (take i es) e

pub frags_more : (es : Entries) (i : ℕ) (e : Entry) → slice_get es i ≡ Some e
    → frags_in (take (i + 1) es) ≡ frags_in (take i es) ++ e.1
frags_more es i e is =
    ap all_frags (pairs_more es i e is) ∙ frags-append (key_frags (take i es)) ((e.0.items, e.1) ∷ [])
    ∙ ap (λ l. frags_in (take i es) ++ l) (append-none e.1)

-- the holds of all values
placed_all : (z : Sizes) (es : Entries) → Each (λ (e : Entry). IsValue z e.1) es
    → Each (λ (p : ℕ × ℕ). p.0 < buffers z) (frags_in es)
placed_all z [] all = tt
placed_all z (e ∷ es) all =
    each-append (λ (p : ℕ × ℕ). p.0 < buffers z) e.1 (frags_in es)
    (each-imp (IsPlaced z) (λ (p : ℕ × ℕ). p.0 < buffers z) (λ p placed. placed.0) e.1 all.0.placed)
    (placed_all z es all.1)

pub filled_all : (hs : List Holding) (es : Entries) → Each (λ (e : Entry). Each (IsFilled hs) e.1) es
    → Each (IsFilled hs) (frags_in es)
filled_all hs [] all = tt
filled_all hs (e ∷ es) all = each-append (IsFilled hs) e.1 (frags_in es) all.0 (filled_all hs es all.1)

uses-all : (b : ℕ) (es : Entries) → uses b (frags_in es) ≡ wanted (loose_key b) es
uses-all b [] = refl
uses-all b (e ∷ es) =
    omega (arith, total-append (λ (p : ℕ × ℕ). same p.0 b) e.1 (frags_in es), asked-loose b e.1, uses-all b es)

pub few_all : (z : Sizes) (es : Entries) (own : View) → IsSeat z own → AreHeld z es [] own.holds
    → length (frags_in es) ≤ buffers z
few_all z es own seat held =
    are_few (buffers z) (frags_in es) (placed_all z es held.values)
    (λ b. omega (
      arith,
      uses-all b es,
      counted z es [] own.holds held (loose_key b),
      times-loose b own.holds,
      seat.loose b,
    ))

pub within_all : (es : Entries) (i : ℕ) (e : Entry) → slice_get es i ≡ Some e
    → length (frags_in (take i es)) + length e.1 ≤ length (frags_in es)
within_all [] i e is = absurd (cc)
within_all (f ∷ es) zero e is =
    let one : f ≡ e = cc in
    omega (arith, ap (λ (x : Entry). length x.1) one, length-append f.1 (frags_in es))
within_all (f ∷ es) (suc i) e is =
    omega (
      arith,
      length-append f.1 (frags_in (take i es)),
      length-append f.1 (frags_in es),
      within_all es i e is,
    )

entry-le : (f : Entry → ℕ) (es : Entries) (i : ℕ) (e : Entry) → slice_get es i ≡ Some e → f e ≤ total f es
entry-le f [] i e is = absurd (cc)
entry-le f (g ∷ es) zero e is = let one : g ≡ e = cc in omega (arith, ap f one)
entry-le f (g ∷ es) (suc i) e is = omega (arith, entry-le f es i e is)

pub has_entry : (z : Sizes) (es : Entries) (hs : List Holding) (i : ℕ) (e : Entry) → AreHeld z es [] hs
    → slice_get es i ≡ Some e → HasValue hs e.1
has_entry z es hs i e held is = record {
  held = λ b. omega (
    arith,
    asked-loose b e.1,
    entry-le (λ (x : Entry). asks (loose_key b) x.1) es i e is,
    counted z es [] hs held (loose_key b),
  );
  filled = each-at (λ (x : Entry). Each (IsFilled hs) x.1) es i e is held.filled;
}

-- in another order
pub sorted_held : (z : Sizes) (es now : Entries) (hs : List Holding) → IsPermutation es now → AreHeld z es [] hs
    → AreHeld z now [] hs
sorted_held z es now hs moved held = record {
  values = each-permutation (λ (e : Entry). IsValue z e.1) es now moved held.values;
  filled = each-permutation (λ (e : Entry). Each (IsFilled hs) e.1) es now moved held.filled;
  in_hand = tt;
  exact = λ weight.
      held.exact weight
      ∙ ap (λ n. n + 0) (sym (total-permutation (λ (e : Entry). total weight (keys_of e.1)) es now moved));
}

-- what they show
shown : (hs : List Holding) (es : Entries) → pairs_shown hs (key_frags es) ≡ pairs_of (value_bytes hs) es
shown hs [] = refl
shown hs (e ∷ es) = ap (λ l. (e.0.items, value_bytes hs e.1) ∷ l) (shown hs es)

pub shows_store : (z : Sizes) (es now : Entries) (hs : List Holding) → IsAscending now
    → ((key : List ℕ) → value_at key now ≡ value_at key es) → (s : Store) (p : Places) → Agrees z es hs s p
    → pairs_shown hs (key_frags now) ≡ finite.entries s
shows_store z es now hs ordered kept s p agrees =
    shown hs now
    ∙ ordered (value_bytes hs) s (λ key. ap (option_map (value_bytes hs)) (kept key) ∙ agrees.bytes key)
