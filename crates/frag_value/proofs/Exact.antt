-- A seat that holds values and nothing else, as they come and go.
use Rattle.std.proofs.Common.{◌≡◌, ℕ, ◌+◌, ◌<◌, ◌≤◌, Bool, true, false, cond, eqb, List, [], ◌∷◌, ◌++◌, length, sym}
use Rattle.std.proofs.Common.{refl, ap, ◌∙◌, subst, eq-eqb, arith}
use Rattle.std.proofs.lemmas.Bool.{eqb-true}
use Rattle.view_sums.specs.Total.{total, Each, SameItems}
use Rattle.view_sums.proofs.Sums.{total-append, total-map, total-cong}
use Rattle.view_sums.proofs.Eachs.{each-append}
use Rattle.view_sums.proofs.Items.{each_items}
use Rattle.pin_core.specs.Holding.{Holding, Key}
use Rattle.pin_core.specs.declared.sizes.Sizes.{Sizes}
use Rattle.pinned_pool.specs.Moves.{same_key, hold_key, times_asked, meant_count, front_of, holds_for, without_keys}
use Rattle.pinned_pool.specs.Moves.{joined_views, losing, gaining, loose_key, HasHolds}
use Rattle.pinned_pool.specs.Named.{IsSeat}
use Rattle.pinned_pool.specs.declared.view.View.{View}
use Rattle.pinned_pool.proofs.Keys.{some-at, total-left_by, taken_by-keys, each-left_by}
use Rattle.pinned_pool.proofs.AfterSteps.{has_none, front-append, front-joined}
use Rattle.frag_value.specs.Values.{IsValue, IsFilled, HasValue, keys_of, uses, size_of, whole_fragments, partial_of}
use Rattle.frag_value.specs.Values.{unmarked, unmarked_view}
use Rattle.frag_value.specs.Changes.{IsWritten, IsAppended, IsReleased}
use Rattle.frag_value.specs.Taken.{HandsOver}
use Rattle.frag_value.specs.Exactly.{HasExactly, ValuesComeAndGo}
use Rattle.frag_value.proofs.Cuts.{parts}
use Rattle.frag_value.proofs.Framed.{each_there}
use Rattle.frag_value.proofs.Released.{asked-loose, has_keys, keys-append}
use Rattle.frag_value.proofs.Staying.{AreFronts, uses-both, front-rest, stays_moved}
use Rattle.frag_value.proofs.Unmarked.{same_front}

-- fragments that are told apart by a test
abbrev same_frags : List (ℕ × ℕ) → List (ℕ × ℕ) → Bool
same_frags [] [] = true
same_frags [] (q ∷ w) = false
same_frags (p ∷ v) [] = false
same_frags (p ∷ v) (q ∷ w) = cond (eqb p.0 q.0) (cond (eqb p.1 q.1) (same_frags v w) false) false

same_frags-own : (v : List (ℕ × ℕ)) → same_frags v v ≡ true
same_frags-own [] = refl
same_frags-own (p ∷ v) =
    ap (λ t. cond t (cond (eqb p.1 p.1) (same_frags v v) false) false) (eq-eqb p.0 p.0 refl)
    ∙ ap (λ t. cond t (same_frags v v) false) (eq-eqb p.1 p.1 refl) ∙ same_frags-own v

three : (s t u : Bool) → cond s (cond t u false) false ≡ true → (s ≡ true) × (t ≡ true) × (u ≡ true)
three true true true e = (refl, refl, refl)
three true true false e = absurd (cc)
three true false u e = absurd (cc)
three false t u e = absurd (cc)

same_frags-true : (v w : List (ℕ × ℕ)) → same_frags v w ≡ true → v ≡ w
same_frags-true [] [] e = refl
same_frags-true [] (q ∷ w) e = absurd (cc)
same_frags-true (p ∷ v) [] e = absurd (cc)
same_frags-true (p ∷ v) (q ∷ w) e =
    let all = three (eqb p.0 q.0) (eqb p.1 q.1) (same_frags v w) e in
    λ i. (eqb-true p.0 q.0 all.0 i, eqb-true p.1 q.1 all.1 i) ∷ same_frags-true v w all.2 i

-- how often values' fragments lie in a buffer
abbrev pub uses_all : ℕ → List (List (ℕ × ℕ)) → ℕ
uses_all c values = total (λ (v : List (ℕ × ℕ)). uses c v) values

module _ (z : Sizes) (hs : List Holding) (values : List (List (ℕ × ℕ))) (x : HasExactly z hs values) where
  pub times-exact : (c : ℕ) → meant_count (loose_key c) hs ≡ uses_all c values
  times-exact c = x.exact (λ j. cond (same_key (loose_key c) j) 1 0)
      ∙ total-cong (λ (v : List (ℕ × ℕ)). times_asked (loose_key c) (keys_of v)) (λ (v : List (ℕ × ℕ)). uses c v)
      (λ v. asked-loose c v) values

  -- other holds with the same fronts have the values too
  filled_in : (vs : List (List (ℕ × ℕ))) (now : List Holding)
      → ((c : ℕ) → 0 < uses_all c vs → front_of c now ≡ front_of c hs)
      → Each (λ (v : List (ℕ × ℕ)). Each (IsFilled hs) v) vs → Each (λ (v : List (ℕ × ℕ)). Each (IsFilled now) v) vs
  filled_in [] now fronts filled = tt
  filled_in (v ∷ vs) now fronts filled = (
    (each_there hs now v (λ c some. fronts c (omega (arith, some))) filled.0).0,
    filled_in vs now
        (λ c some. fronts c (omega (arith, some))) filled.1,
  )

  -- the empty value has no holds
  pub exactly_with_none : HasExactly z hs ([] ∷ values)
  exactly_with_none = record {
    are_values = (record { cut = refl; limit = omega arith; placed = tt }, x.are_values);
    filled = (tt, x.filled);
    exact = λ weight. omega (arith, x.exact weight);
  }

  pub exactly_items : (others : List (List (ℕ × ℕ))) → SameItems values others → HasExactly z hs others
  exactly_items others items = record {
    are_values = each_items same_frags same_frags-own same_frags-true (IsValue z) values others items x.are_values;
    filled = each_items same_frags same_frags-own same_frags-true (λ (v : List (ℕ × ℕ)). Each (IsFilled hs) v) values
        others items x.filled;
    exact = λ weight. x.exact weight ∙ items (λ (v : List (ℕ × ℕ)). total weight (keys_of v));
  }

-- the order doesn't matter
pub exactly_swap : (z : Sizes) (hs : List Holding) (v w : List (ℕ × ℕ)) (values : List (List (ℕ × ℕ)))
    → HasExactly z hs (v ∷ w ∷ values) → HasExactly z hs (w ∷ v ∷ values)
exactly_swap z hs v w values x = exactly_items z hs (v ∷ w ∷ values) x (w ∷ v ∷ values) (λ weight. omega arith)

pub exactly_without_none : (z : Sizes) (hs : List Holding) (values : List (List (ℕ × ℕ)))
    → HasExactly z hs ([] ∷ values) → HasExactly z hs values
exactly_without_none z hs values x = record {
  are_values = x.are_values.1;
  filled = x.filled.1;
  exact = λ weight. omega (arith, x.exact weight);
}

pub exactly_none : (z : Sizes) → HasExactly z [] []
exactly_none z = record { are_values = tt; filled = tt; exact = λ weight. refl }

pub exactly_first : (z : Sizes) (hs : List Holding) (v : List (ℕ × ℕ)) (values : List (List (ℕ × ℕ)))
    → HasExactly z hs (v ∷ values) → HasValue hs v
exactly_first z hs v values x = record {
  held = λ b. omega (arith, times-exact z hs (v ∷ values) x b);
  filled = x.filled.0;
}

-- one value's last fragments went, and others came in their place
module _ (z : Sizes) (values : List (List (ℕ × ℕ))) (kept gone come : List (ℕ × ℕ)) (hs now : List Holding)
    (fronts news : ℕ → List ℕ) (one : AreFronts fronts hs) (one_new : AreFronts news now)
    (rest : without_keys (keys_of come) now ≡ without_keys (keys_of gone) hs) (coming : HasHolds (keys_of come) now)
    (x : HasExactly z hs ((kept ++ gone) ∷ values)) where
  times-parts : (c : ℕ) → meant_count (loose_key c) hs ≡ uses c kept + uses c gone + uses_all c values
  times-parts c = omega (arith, times-exact z hs ((kept ++ gone) ∷ values) x c, uses-both c kept gone)

  going : HasHolds (keys_of gone) hs
  going = has_keys gone hs (λ c. omega (arith, times-parts c))

  -- the weight of the holds that some keys take
  weight-taken : (weight : Key → ℕ) (ks : List Key) (gs : List Holding) → HasHolds ks gs
      → total (λ (h : Holding). weight (hold_key h)) gs ≡ total weight ks + total (λ (h : Holding). weight (hold_key h))
      (without_keys ks gs)
  weight-taken weight ks gs has =
      omega (
        arith,
        total-left_by (λ (h : Holding). weight (hold_key h)) ks gs,
        total-map weight hold_key
            (holds_for ks gs),
        ap (total weight) (taken_by-keys ks gs has),
      )

  weight-parts : (weight : Key → ℕ) (v w : List (ℕ × ℕ)) → total weight (keys_of (v ++ w)) ≡ total weight (keys_of v)
      + total weight (keys_of w)
  weight-parts weight v w = ap (total weight) (keys-append v w) ∙ total-append weight (keys_of v) (keys_of w)

  pub exactly_changed : IsValue z (kept ++ come) → Each (IsFilled now) (kept ++ come)
      → HasExactly z now ((kept ++ come) ∷ values)
  exactly_changed value filled = record {
    are_values = (value, x.are_values.1);
    filled = (
      filled,
      filled_in z hs ((kept ++ gone) ∷ values) x values now
          (λ c some. front-rest come (keys_of gone) (keys_of come) hs now fronts news one one_new rest coming going c
          (omega (arith, times-parts c, asked-loose c gone, some))) x.filled.1,
    );
    exact = λ weight. omega (
      arith,
      weight-taken weight (keys_of come) now coming,
      weight-taken weight (keys_of gone) hs going,
      ap (total (λ (h : Holding). weight (hold_key h))) rest,
      weight-parts weight kept come,
      weight-parts weight kept gone,
      x.exact weight,
    );
  }

-- fronts of what is left
fronts_left : (fronts : ℕ → List ℕ) (ks : List Key) (hs now : List Holding) → now ≡ without_keys ks hs
    → AreFronts fronts hs → AreFronts fronts now
fronts_left fronts ks hs now is one = subst (AreFronts fronts) (sym is)
    (each-left_by (λ (h : Holding). h.front ≡ fronts h.buffer) ks hs one)

pub exactly_written : (z : Sizes) (v : List (ℕ × ℕ)) (values : List (List (ℕ × ℕ))) (bytes : List ℕ) (old new : View)
    → IsSeat z new → IsValue z v → HasExactly z old.holds values → IsWritten bytes v old new
    → HasExactly z new.holds (v ∷ values)
exactly_written z v values bytes old new seat value x w =
    exactly_changed z values [] [] v old.holds new.holds seat.fronts.0 seat.fronts.0
    (fronts_left seat.fronts.0 (keys_of v) new.holds old.holds (sym w.holds) seat.fronts.1) seat.fronts.1 w.holds
    (has_keys v new.holds w.has.held) (exactly_with_none z old.holds values x) value w.has.filled

-- a value less
pub exactly_left : (z : Sizes) (v : List (ℕ × ℕ)) (values : List (List (ℕ × ℕ))) (old new : View) → IsSeat z old
    → HasExactly z old.holds (v ∷ values) → new.holds ≡ without_keys (keys_of v) old.holds
    → HasExactly z new.holds values
exactly_left z v values old new seat x gone =
    exactly_without_none z new.holds values
    (exactly_changed z values [] v [] old.holds new.holds seat.fronts.0 seat.fronts.0 seat.fronts.1
    (fronts_left seat.fronts.0 (keys_of v) old.holds new.holds gone seat.fronts.1) gone (has_none new.holds) x
    (record { cut = refl; limit = omega arith; placed = tt }) tt)

pub exactly_released : (z : Sizes) (v : List (ℕ × ℕ)) (values : List (List (ℕ × ℕ))) (n : ℕ) (old new : View)
    → IsSeat z old → HasExactly z old.holds (v ∷ values) → IsReleased v n old new → HasExactly z new.holds values
exactly_released z v values n old new seat x r = exactly_left z v values old new seat x r.holds

pub exactly_handed : (z : Sizes) (v : List (ℕ × ℕ)) (values : List (List (ℕ × ℕ))) (old new : View) → IsSeat z old
    → HasExactly z old.holds (v ∷ values) → HandsOver v old new → HasExactly z new.holds values
exactly_handed z v values old new seat x r = exactly_left z v values old new seat x r.holds

pub exactly_lost : (z : Sizes) (v : List (ℕ × ℕ)) (values : List (List (ℕ × ℕ))) (old new : View) → IsSeat z old
    → HasExactly z old.holds (v ∷ values) → new ≡ losing (keys_of v) old → HasExactly z new.holds values
exactly_lost z v values old new seat x lost = exactly_left z v values old new seat x (ap (λ (y : View). y.holds) lost)

-- a longer value in a value's place
pub exactly_appended : (z : Sizes) (v w : List (ℕ × ℕ)) (values : List (List (ℕ × ℕ))) (bytes : List ℕ) (old new : View)
    → IsSeat z old → IsSeat z new → IsValue z w → 0 < length bytes → HasExactly z old.holds (v ∷ values)
    → IsAppended v bytes w old new → HasExactly z new.holds (w ∷ values)
exactly_appended z v w values bytes old new seat seat_new value some x appended =
    let m = appended.moved some in
    let whole = (parts (size_of v) v x.are_values.0.cut).whole in
    let coming : (c : ℕ) → uses c m.added ≤ meant_count (loose_key c) new.holds =
    λ c. omega (arith, ap (uses c) m.parts, uses-both c (whole_fragments v) m.added, appended.has.held c) in
    let changed = exactly_changed z values (whole_fragments v) (partial_of v) m.added old.holds new.holds seat.fronts.0
    seat_new.fronts.0 seat.fronts.1 seat_new.fronts.1 m.holds (has_keys m.added new.holds coming)
    (subst (λ y. HasExactly z old.holds (y ∷ values)) whole x) (subst (IsValue z) m.parts value)
    (subst (Each (IsFilled new.holds)) m.parts appended.has.filled) in
    subst (λ y. HasExactly z new.holds (y ∷ values)) (sym m.parts) changed

-- a value whose holds came from another seat
pub exactly_gained : (z : Sizes) (v : List (ℕ × ℕ)) (values : List (List (ℕ × ℕ))) (from into new : View)
    → IsSeat z from → IsSeat z new → IsValue z v → HasValue from.holds v → HasExactly z into.holds values
    → new ≡ gaining (holds_for (keys_of v) from.holds) into → HasExactly z new.holds (v ∷ values)
exactly_gained z v values from into new seat seat_new value has x gained =
    let more = holds_for (keys_of v) from.holds in
    let holds : new.holds ≡ into.holds ++ more = ap (λ (y : View). y.holds) gained in
    record {
      are_values = (value, x.are_values);
      filled = (
        (stays_moved z v from into new seat seat_new has gained).has.filled,
        filled_in z into.holds values x values new.holds
            (λ c some. ap (front_of c) holds ∙ front-append c into.holds more
            (some-at (loose_key c) into.holds (omega (arith, some, times-exact z into.holds values x c)))) x.filled,
      );
      exact = λ weight. omega (
        arith,
        ap (total (λ (h : Holding). weight (hold_key h))) holds,
        total-append (λ (h : Holding). weight (hold_key h)) into.holds more,
        total-map weight hold_key more,
        ap (total weight) (taken_by-keys (keys_of v) from.holds (has_keys v from.holds has.held)),
        x.exact weight,
      );
    }

pub exactly_shared : (z : Sizes) (values : List (List (ℕ × ℕ))) (old new : View) → HasExactly z old.holds values
    → unmarked_view new ≡ unmarked_view old → HasExactly z new.holds values
exactly_shared z values old new x same_view = record {
  are_values = x.are_values;
  filled = filled_in z old.holds values x values new.holds (λ c some. same_front c old new same_view) x.filled;
  exact = λ weight. omega (
    arith,
    total-map (λ (h : Holding). weight (hold_key h)) unmarked new.holds,
    ap (λ (u : View). total (λ (h : Holding). weight (hold_key h)) u.holds) same_view,
    total-map (λ (h : Holding). weight (hold_key h)) unmarked old.holds,
    x.exact weight,
  );
}

-- two seats that became one
pub exactly_joined : (z : Sizes) (values more : List (List (ℕ × ℕ))) (old other new : View) → IsSeat z new
    → HasExactly z old.holds values → HasExactly z other.holds more → new ≡ joined_views old other
    → HasExactly z new.holds (values ++ more)
exactly_joined z values more old other new seat x y joins =
    let holds : new.holds ≡ old.holds ++ other.holds = ap (λ (u : View). u.holds) joins in
    let one = subst (AreFronts seat.fronts.0) holds seat.fronts.1 in
    record {
      are_values = each-append (IsValue z) values more x.are_values y.are_values;
      filled = each-append (λ (v : List (ℕ × ℕ)). Each (IsFilled new.holds) v) values more
          (filled_in z old.holds values x values new.holds
          (λ c some. ap (front_of c) holds ∙ front-append c old.holds other.holds
          (some-at (loose_key c) old.holds (omega (arith, some, times-exact z old.holds values x c)))) x.filled)
          (filled_in z other.holds more y more new.holds
          (λ c some. ap (front_of c) holds ∙ front-joined seat.fronts.0 c old.holds other.holds one
          (some-at (loose_key c) other.holds (omega (arith, some, times-exact z other.holds more y c)))) y.filled);
      exact = λ weight. omega (
        arith,
        ap (total (λ (h : Holding). weight (hold_key h))) holds,
        total-append (λ (h : Holding). weight (hold_key h)) old.holds other.holds,
        total-append (λ (v : List (ℕ × ℕ)). total weight (keys_of v)) values more,
        x.exact weight,
        y.exact weight,
      );
    }

pub values_come_and_go : ValuesComeAndGo
values_come_and_go = record {
  none = exactly_none;
  written = exactly_written;
  gained = exactly_gained;
  appended = exactly_appended;
  released = exactly_released;
  handed = exactly_handed;
  lost = exactly_lost;
  shared = exactly_shared;
  in_any_order = λ z hs values others x items. exactly_items z hs values x others items;
  both = exactly_joined;
  has_first = exactly_first;
}

-- what to give to `search`
pub ruleset exactly = (
  times-exact,
  exactly_none,
  exactly_with_none,
  exactly_without_none,
  exactly_first,
  exactly_items,
  exactly_swap,
  exactly_changed,
  exactly_written,
  exactly_gained,
  exactly_appended,
  exactly_left,
  exactly_released,
  exactly_handed,
  exactly_lost,
  exactly_shared,
  exactly_joined,
)
