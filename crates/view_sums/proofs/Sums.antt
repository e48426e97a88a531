-- Sums over lists that change at one place or at two: all of them go by what stands before the place and behind it.
use Rattle.std.proofs.Common.{◌≡◌, ℕ, zero, suc, ◌+◌, ◌≤◌, ◌≢◌, List, [], ◌∷◌, ◌++◌, length, map, set, sym, refl, ap}
use Rattle.std.proofs.Common.{◌∙◌, arith}
use mathlib.Core.Option.{some, some-injective, some-ne-none}
use lib.ListN.{get_elem?}
use Rattle.view_sums.specs.Total.{total}
use Rattle.view_sums.specs.Changes.{OneChanged, TwoChanged, OneAdded}

module _ {A : Type 0} where
  -- the list round the item at a place
  pub record Around (items : List A) (place : ℕ) (item : A) : Type 0 where
    pub before : List A
    pub behind : List A
    pub whole : items ≡ before ++ item ∷ behind
    pub changed : (other : A) → set items place other ≡ before ++ other ∷ behind
    pub place_is : length before ≡ place

  pub around : (items : List A) (place : ℕ) (item : A) → get_elem? items place ≡ some item → Around items place item
  around [] place item found = absurd (some-ne-none item (sym found))
  around (first ∷ rest) zero item found =
      record {
        before = [];
        behind = rest;
        whole = ap (λ x. x ∷ rest) (some-injective first item found);
        changed = λ other. refl;
        place_is = refl;
      }
  around (first ∷ rest) (suc place) item found =
      let inner = around rest place item found in
      record {
        before = first ∷ inner.before;
        behind = inner.behind;
        whole = ap (λ xs. first ∷ xs) inner.whole;
        changed = λ other. ap (λ xs. first ∷ xs) (inner.changed other);
        place_is = ap suc inner.place_is;
      }

  -- a change leaves what stands elsewhere
  pub get_elem?-set : (items : List A) (place elsewhere : ℕ) (item : A) → elsewhere ≢ place
      → get_elem? (set items place item) elsewhere ≡ get_elem? items elsewhere
  get_elem?-set [] place elsewhere item away = refl
  get_elem?-set (first ∷ rest) zero zero item away = absurd (away refl)
  get_elem?-set (first ∷ rest) zero (suc elsewhere) item away = refl
  get_elem?-set (first ∷ rest) (suc place) zero item away = refl
  get_elem?-set (first ∷ rest) (suc place) (suc elsewhere) item away = get_elem?-set rest place elsewhere item
      (λ e. away (ap suc e))

  pub total-map : {B : Type 0} (weight : B → ℕ) (g : A → B) (items : List A) → total weight (map g items)
      ≡ total (λ x. weight (g x)) items
  total-map weight g [] = refl
  total-map weight g (x ∷ xs) = omega (arith, total-map weight g xs)

  pub total-cong : (f g : A → ℕ) → ((x : A) → f x ≡ g x) → (items : List A) → total f items ≡ total g items
  total-cong f g equal [] = refl
  total-cong f g equal (x ∷ xs) = omega (arith, equal x, total-cong f g equal xs)

  pub total-le : (f g : A → ℕ) → ((x : A) → f x ≤ g x) → (items : List A) → total f items ≤ total g items
  total-le f g below [] = omega arith
  total-le f g below (x ∷ xs) = omega (arith, below x, total-le f g below xs)

  pub total-add : (f g : A → ℕ) (items : List A) → total (λ x. f x + g x) items ≡ total f items + total g items
  total-add f g [] = refl
  total-add f g (x ∷ xs) = omega (arith, total-add f g xs)

  pub total-zero : (items : List A) → total (λ _. 0) items ≡ 0
  total-zero [] = refl
  total-zero (x ∷ xs) = omega (arith, total-zero xs)

  module _ (weight : A → ℕ) where
    pub total-append : (front back : List A) → total weight (front ++ back) ≡ total weight front + total weight back
    total-append [] back = omega arith
    total-append (first ∷ rest) back = omega (arith, total-append rest back)

    -- the sum round the item at a place
    pub round : {items : List A} {place : ℕ} {item : A} (a : Around items place item) → total weight items
        ≡ total weight a.before + weight item + total weight a.behind
    round {item = item} a = omega (arith, ap (total weight) a.whole, total-append a.before (item ∷ a.behind))

    pub total-set : (items : List A) (place : ℕ) (old new : A) → get_elem? items place ≡ some old
        → total weight (set items place new) + weight old ≡ total weight items + weight new
    total-set items place old new found =
        let a = around items place old found in
        omega (arith, round a, ap (total weight) (a.changed new), total-append a.before (new ∷ a.behind))

    pub term-le : (items : List A) (place : ℕ) (item : A) → get_elem? items place ≡ some item
        → weight item ≤ total weight items
    term-le items place item found = omega (arith, round (around items place item found))

    -- two items at two places
    pub terms-le : (items : List A) (place elsewhere : ℕ) (item other : A) → elsewhere ≢ place → get_elem? items place
        ≡ some item → get_elem? items elsewhere ≡ some other → weight item + weight other ≤ total weight items
    terms-le [] place elsewhere item other away found there = absurd (some-ne-none item (sym found))
    terms-le (first ∷ rest) zero zero item other away found there = absurd (away refl)
    terms-le (first ∷ rest) zero (suc elsewhere) item other away found there =
        omega (arith, ap weight (some-injective first item found), term-le rest elsewhere other there)
    terms-le (first ∷ rest) (suc place) zero item other away found there =
        omega (arith, ap weight (some-injective first other there), term-le rest place item found)
    terms-le (first ∷ rest) (suc place) (suc elsewhere) item other away found there =
        omega (arith, terms-le rest place elsewhere item other (λ e. away (ap suc e)) found there)

    pub total-all_zero : (items : List A) → ((k : ℕ) (u : A) → get_elem? items k ≡ some u → weight u ≡ 0)
        → total weight items ≡ 0
    total-all_zero [] none = refl
    total-all_zero (x ∷ xs) none = omega (arith, none 0 x refl, total-all_zero xs (λ k u e. none (suc k) u e))

    -- of a list in which all but one weigh nothing
    pub total-alone : (items : List A) (place : ℕ) (item : A) → get_elem? items place ≡ some item
        → ((k : ℕ) (u : A) → k ≢ place → get_elem? items k ≡ some u → weight u ≡ 0) → total weight items ≡ weight item
    total-alone [] place item found none = absurd (some-ne-none item (sym found))
    total-alone (x ∷ xs) zero item found none =
        omega (
          arith,
          ap weight (some-injective x item found),
          total-all_zero xs
              (λ k u d. none (suc k) u (λ h. omega arith) d),
        )
    total-alone (x ∷ xs) (suc place) item found none =
        omega (
          arith,
          none 0 x (λ h. omega arith) refl,
          total-alone xs place item found
              (λ k u ne d. none (suc k) u (λ h. ne (omega arith)) d),
        )

    pub total-two_set : (items : List A) (place elsewhere : ℕ) (old old' new new' : A) → elsewhere ≢ place
        → get_elem? items place ≡ some old → get_elem? items elsewhere ≡ some old'
        → total weight (set (set items place new) elsewhere new') + (weight old + weight old') ≡ total weight items
        + (weight new + weight new')
    total-two_set items place elsewhere old old' new new' away found there =
        omega (
          arith,
          total-set items place old new found,
          total-set (set items place new) elsewhere old' new'
              (get_elem?-set items place elsewhere new away ∙ there),
        )

    pub total-set_push : (items : List A) (place : ℕ) (old new added : A) → get_elem? items place ≡ some old
        → total weight (set items place new ++ added ∷ []) + weight old ≡ total weight items
        + (weight new + weight added)
    total-set_push items place old new added found =
        omega (arith, total-set items place old new found, total-append (set items place new) (added ∷ []))

  -- for f at most g, all items but one keep the order
  pub rest-le : (f g : A → ℕ) → ((x : A) → f x ≤ g x) → (items : List A) (place : ℕ) (item : A) → get_elem? items place
      ≡ some item → total f items + g item ≤ total g items + f item
  rest-le f g below items place item found =
      let a = around items place item found in
      omega (arith, round f a, round g a, total-le f g below a.before, total-le f g below a.behind)

  -- the three changes as laws
  pub one_changed : OneChanged A
  one_changed = total-set

  pub two_changed : TwoChanged A
  two_changed = total-two_set

  pub one_added : OneAdded A
  one_added = total-set_push
