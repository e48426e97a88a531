-- The first item that passes a test: where it stands, and what the list is when it changes or goes.
use Rattle.std.proofs.Common.{◌≡◌, ℕ, zero, suc, ◌+◌, ◌<◌, List, [], ◌∷◌, ◌++◌, Bool, true, false, cond, length, map}
use Rattle.std.proofs.Common.{get_or, set, sym, refl, ap, ◌∙◌, subst, arith}
use Rattle.std.specs.Prelude.{None, Some, find, position, remove}
use Rattle.std.specs.Option.{option_map}
use Rattle.std.specs.List.{position_from}
use Rattle.std.proofs.lemmas.Iterator.Adapters.{position_from-zero}
use Rattle.view_sums.specs.Total.{total, Each}
use Rattle.view_sums.proofs.Sums.{total-append}
use Rattle.view_sums.proofs.Eachs.{each-append, each-front, each-back, each-set}

module _ {A : Type 0} (test : A → Bool) where
  pub record IsFirst (items : List A) (k : ℕ) : Type 0 where
    pub item : A
    pub before : List A
    pub behind : List A
    pub whole : items ≡ before ++ item ∷ behind
    pub passes : test item ≡ true
    pub near : k < length items
    pub here : (d : A) → get_or items k d ≡ item
    pub changed : (other : A) → set items k other ≡ before ++ other ∷ behind
    pub removed : remove items k ≡ before ++ behind
    pub found : find test items ≡ Some item

  pub record FoundFrom (items : List A) (n k : ℕ) : Type 0 where
    pub place : ℕ
    pub place_is : k ≡ n + place
    pub first : IsFirst items place

  some_is : (a b : ℕ) → Some a ≡ Some b → a ≡ b
  some_is a b e = cc

  found_cons : (x : A) (xs : List A) (n k : ℕ) (t : Bool) → test x ≡ t
      → (position_from test (n + 1) xs ≡ Some k → FoundFrom xs (n + 1) k)
      → cond t (Some n) (position_from test (n + 1) xs) ≡ Some k → FoundFrom (x ∷ xs) n k
  found_cons x xs n k true e rest found =
      let same = some_is n k found in
      record {
        place = 0;
        place_is = omega (arith, same);
        first = record {
          item = x;
          before = [];
          behind = xs;
          whole = refl;
          passes = e;
          near = omega arith;
          here = λ d. refl;
          changed = λ other. refl;
          removed = refl;
          found = ap (λ t. cond t (Some x) (find test xs)) e;
        };
      }
  found_cons x xs n k false e rest found =
      let inner = rest found in
      let f = inner.first in
      record {
        place = suc inner.place;
        place_is = omega (arith, inner.place_is);
        first = record {
          item = f.item;
          before = x ∷ f.before;
          behind = f.behind;
          whole = ap (λ ys. x ∷ ys) f.whole;
          passes = f.passes;
          near = omega (arith, f.near);
          here = λ d. f.here d;
          changed = λ other. ap (λ ys. x ∷ ys) (f.changed other);
          removed = ap (λ ys. x ∷ ys) f.removed;
          found = ap (λ t. cond t (Some x) (find test xs)) e ∙ f.found;
        };
      }

  found_from : (items : List A) (n k : ℕ) → position_from test n items ≡ Some k → FoundFrom items n k
  found_from [] n k found = absurd (cc)
  found_from (x ∷ xs) n k found = found_cons x xs n k (test x) refl (found_from xs (n + 1) k) found

  pub is_first : (items : List A) (k : ℕ) → Some k ≡ position test items → IsFirst items k
  is_first items k found =
      let f = found_from items 0 k (sym (position_from-zero test items) ∙ sym found) in
      let e : f.place ≡ k = omega (arith, f.place_is) in
      subst (IsFirst items) e f.first

  none_cons : (x : A) (xs : List A) (n : ℕ) (t : Bool) → test x ≡ t
      → (position_from test (n + 1) xs ≡ None → find test xs ≡ None) → cond t (Some n) (position_from test (n + 1) xs)
      ≡ None → cond t (Some x) (find test xs) ≡ None
  none_cons x xs n true e rest none = absurd (cc)
  none_cons x xs n false e rest none = rest none

  none_from : (items : List A) (n : ℕ) → position_from test n items ≡ None → find test items ≡ None
  none_from [] n none = refl
  none_from (x ∷ xs) n none = none_cons x xs n (test x) refl (none_from xs (n + 1)) none

  pub is_none : (items : List A) → None ≡ position test items → find test items ≡ None
  is_none items none = none_from items 0 (sym (position_from-zero test items) ∙ sym none)

  -- where none passes the test, none is counted
  count_cons : (x : A) (xs : List A) (t : Bool) → (find test xs ≡ None → total (λ y. cond (test y) 1 0) xs ≡ 0)
      → cond t (Some x) (find test xs) ≡ None → cond t 1 0 + total (λ y. cond (test y) 1 0) xs ≡ 0
  count_cons x xs true rest none = absurd (cc)
  count_cons x xs false rest none = omega (arith, rest none)

  pub count_none : (items : List A) → find test items ≡ None → total (λ y. cond (test y) 1 0) items ≡ 0
  count_none [] none = refl
  count_none (x ∷ xs) none = count_cons x xs (test x) (count_none xs) none

-- the item that was read where a look-up found it, and the sums over the list round it
module _ {A : Type 0} (test : A → Bool) (items : List A) (k : ℕ) (item : A) where
  pub record IsThere : Type 1 where
    pub rest : List A
    pub passes : test item ≡ true
    pub near : k < length items
    pub here : (d : A) → get_or items k d ≡ item
    pub found : find test items ≡ Some item
    pub whole : (weight : A → ℕ) → total weight items ≡ weight item + total weight rest
    pub changed : (other : A) (weight : A → ℕ) → total weight (set items k other) ≡ weight other + total weight rest
    pub removed : (weight : A → ℕ) → total weight (remove items k) ≡ total weight rest
    pub each : (P : A → Type 0) → Each P items → P item × Each P rest
    pub each_changed : (P : A → Type 0) (other : A) → P other → Each P items → Each P (set items k other)
    pub each_removed : (P : A → Type 0) → Each P items → Each P (remove items k)

  there_from : (f : IsFirst test items k) → f.item ≡ item → IsThere
  there_from f e =
      let rest : List A = f.before ++ f.behind in
      let sum : (weight : A → ℕ) → total weight items ≡ weight item + total weight rest =
      λ weight. omega (
        arith,
        ap (total weight) f.whole,
        total-append weight f.before (f.item ∷ f.behind),
        total-append
            weight f.before f.behind,
        ap weight e,
      )
      in
      let in_rest : (P : A → Type 0) → Each P items → P f.item × Each P rest =
      λ P each. let whole = subst (Each P) f.whole each in
      let back = each-back P f.before (f.item ∷ f.behind) whole in
      (back.0, each-append P f.before f.behind (each-front P f.before (f.item ∷ f.behind) whole) back.1)
      in
      record {
        rest = rest;
        passes = ap test (sym e) ∙ f.passes;
        near = f.near;
        here = λ d. f.here d ∙ e;
        found = f.found ∙ ap Some e;
        whole = sum;
        changed = λ other weight. omega (
          arith,
          ap (total weight) (f.changed other),
          total-append weight f.before (other ∷ f.behind),
          total-append
              weight f.before f.behind,
        );
        removed = λ weight. ap (total weight) f.removed;
        each = λ P each. let parts = in_rest P each in (subst P e parts.0, parts.1);
        each_changed = λ P other new each. each-set P items k other new each;
        each_removed = λ P each. subst (Each P) (sym f.removed) (in_rest P each).1;
      }

  pub is_there : Some k ≡ position test items → item ≡ get_or items k item → IsThere
  is_there place read = let f = is_first test items k place in there_from f (sym (read ∙ f.here item))

-- a look-up among what is shown of the items
module _ {A B : Type 0} (test : B → Bool) (g : A → B) where
  map_some : (x y : A) (xs : List A) (t : Bool)
      → (find (λ z. test (g z)) xs ≡ Some y → find test (map g xs) ≡ Some (g y))
      → cond t (Some x) (find (λ z. test (g z)) xs) ≡ Some y → cond t (Some (g x)) (find test (map g xs)) ≡ Some (g y)
  map_some x y xs true rest found = ap (λ o. option_map g o) found
  map_some x y xs false rest found = rest found

  pub find-map-some : (y : A) (xs : List A) → find (λ z. test (g z)) xs ≡ Some y → find test (map g xs) ≡ Some (g y)
  find-map-some y [] found = absurd (cc)
  find-map-some y (x ∷ xs) found = map_some x y xs (test (g x)) (find-map-some y xs) found

  map_none : (x : A) (xs : List A) (t : Bool) → (find (λ z. test (g z)) xs ≡ None → find test (map g xs) ≡ None)
      → cond t (Some x) (find (λ z. test (g z)) xs) ≡ None → cond t (Some (g x)) (find test (map g xs)) ≡ None
  map_none x xs true rest found = absurd (cc)
  map_none x xs false rest found = rest found

  pub find-map-none : (xs : List A) → find (λ z. test (g z)) xs ≡ None → find test (map g xs) ≡ None
  find-map-none [] found = refl
  find-map-none (x ∷ xs) found = map_none x xs (test (g x)) (find-map-none xs) found

pub get_or-append_left : {A : Type 0} (front back : List A) (k : ℕ) (d : A) → k < length front
    → get_or (front ++ back) k d ≡ get_or front k d
get_or-append_left [] back k d lt = absurd (omega arith)
get_or-append_left (x ∷ xs) back zero d lt = refl
get_or-append_left (x ∷ xs) back (suc k) d lt = get_or-append_left xs back k d (omega arith)

-- the item that a look-up finds, among the others
pub record IsOne {A : Type 0} (test : A → Bool) (items : List A) (item : A) : Type 0 where
  pub rest : List A
  pub passes : test item ≡ true
  pub whole : (weight : A → ℕ) → total weight items ≡ weight item + total weight rest

module _ {A : Type 0} (test : A → Bool) where
  some_item : (a b : A) → Some a ≡ Some b → a ≡ b
  some_item a b e = cc

  one_cons : (x y : A) (xs : List A) (t : Bool) → test x ≡ t → (find test xs ≡ Some y → IsOne test xs y)
      → cond t (Some x) (find test xs) ≡ Some y → IsOne test (x ∷ xs) y
  one_cons x y xs true e rest found = let same = some_item x y found in
      record { rest = xs; passes = ap test (sym same) ∙ e; whole = λ weight. omega (arith, ap weight same) }
  one_cons x y xs false e rest found = let one = rest found in record {
    rest = x ∷ one.rest;
    passes = one.passes;
    whole = λ weight. omega (arith, one.whole weight);
  }

  pub one_of_find : (items : List A) (y : A) → find test items ≡ Some y → IsOne test items y
  one_of_find [] y found = absurd (cc)
  one_of_find (x ∷ xs) y found = one_cons x y xs (test x) refl (one_of_find xs y) found
