-- The holds that keys mean, and the lists that they are taken out of.
use Rattle.std.proofs.Common.{◌≡◌, ℕ, ◌+◌, ◌<◌, ◌≤◌, List, [], ◌∷◌, ◌++◌, map, Bool, true, false, not, cond, eqb, refl}
use Rattle.std.proofs.Common.{ap, ◌∙◌, eq-eqb, arith}
use Rattle.std.proofs.lemmas.Bool.{eqb-true}
use Rattle.view_sums.specs.Total.{total, Each}
use Rattle.view_sums.proofs.Sums.{total-append, total-le}
use Rattle.view_sums.proofs.Eachs.{each-append}
use Rattle.pin_core.specs.Holding.{Holding, Key, at}
use Rattle.pinned_pool.specs.Moves.{means, same_key, hold_key, first_hold, without, holds_for, without_keys}
use Rattle.pinned_pool.specs.Moves.{meant_count, HasHolds}

same_bools : (t x y : Bool) → cond t (cond x y (not y)) false ≡ true → (t ≡ true) × (y ≡ x)
same_bools true true true e = (refl, refl)
same_bools true true false e = absurd (cc)
same_bools true false true e = absurd (cc)
same_bools true false false e = (refl, refl)
same_bools false x y e = absurd (cc)

same_bool : (x : Bool) → cond x x (not x) ≡ true
same_bool true = refl
same_bool false = refl

-- it has the buffer and the pin that were asked for
pub means-true : (k : Key) (h : Holding) → means k h ≡ true → hold_key h ≡ k
means-true k h e = let t = same_bools (eqb h.buffer k.buffer) k.pinned h.pinned e in
    λ j. record { buffer = eqb-true h.buffer k.buffer t.0 j; pinned = t.1 j }

pub same_key-refl : (k : Key) → same_key k k ≡ true
same_key-refl k = ap (λ t. cond t (cond k.pinned k.pinned (not k.pinned)) false) (eq-eqb k.buffer k.buffer refl)
    ∙ same_bool k.pinned

meant_le : (x y : Bool) → cond (cond x y false) 1 0 ≤ cond x 1 0
meant_le true true = omega arith
meant_le true false = omega arith
meant_le false y = omega arith

-- a hold that is meant is one of its buffer
pub times-at : (k : Key) (hs : List Holding) → meant_count k hs ≤ total (at k.buffer) hs
times-at k hs = total-le (λ h. cond (means k h) 1 0) (at k.buffer)
    (λ h. meant_le (eqb h.buffer k.buffer) (cond k.pinned h.pinned (not h.pinned))) hs

pub some-at : (k : Key) (hs : List Holding) → 0 < meant_count k hs → 0 < total (at k.buffer) hs
some-at k hs some = omega (arith, times-at k hs)

-- what is taken out and what is left
module _ (weight : Holding → ℕ) where
  parts_here : (t : Bool) (h : Holding) (hs xs ys : List Holding) → total weight xs + total weight ys ≡ total weight hs
      → total weight (cond t (h ∷ []) xs) + total weight (cond t hs (h ∷ ys)) ≡ weight h + total weight hs
  parts_here true h hs xs ys e = omega arith
  parts_here false h hs xs ys e = omega (arith, e)

  pub total-without : (k : Key) (hs : List Holding) → total weight (first_hold k hs) + total weight (without k hs)
      ≡ total weight hs
  total-without k [] = refl
  total-without k (h ∷ hs) = parts_here (means k h) h hs (first_hold k hs) (without k hs) (total-without k hs)

  pub total-left_by : (ks : List Key) (hs : List Holding) → total weight (holds_for ks hs)
      + total weight (without_keys ks hs) ≡ total weight hs
  total-left_by [] hs = omega arith
  total-left_by (k ∷ ks) hs =
      omega (
        arith,
        total-append weight (first_hold k hs) (holds_for ks (without k hs)),
        total-left_by ks
            (without k hs),
        total-without k hs,
      )

-- the hold that is meant
pub record Found (k : Key) (hs : List Holding) : Type 0 where
  pub hold : Holding
  pub here : first_hold k hs ≡ hold ∷ []
  pub key : hold_key hold ≡ k

found_here : (k : Key) (h : Holding) (hs : List Holding) (t : Bool) → means k h ≡ t
    → (0 < meant_count k hs → Found k hs) → 0 < cond t 1 0 + meant_count k hs → Found k (h ∷ hs)
found_here k h hs true e more some = record {
  hold = h;
  here = ap (λ t. cond t (h ∷ []) (first_hold k hs)) e;
  key = means-true k h e;
}
found_here k h hs false e more some = let f = more (omega arith) in
    record { hold = f.hold; here = ap (λ t. cond t (h ∷ []) (first_hold k hs)) e ∙ f.here; key = f.key }

pub found : (k : Key) (hs : List Holding) → 0 < meant_count k hs → Found k hs
found k [] some = absurd (omega arith)
found k (h ∷ hs) some = found_here k h hs (means k h) refl (found k hs) some

-- a hold that is meant is taken out once
pub times-without : (j k : Key) (hs : List Holding) → 0 < meant_count k hs → meant_count j (without k hs)
    + cond (same_key j k) 1 0 ≡ meant_count j hs
times-without j k hs some =
    let f = found k hs some in
    let one : total (λ h. cond (means j h) 1 0) (first_hold k hs) ≡ cond (same_key j k) 1 0 =
    ap (total (λ h. cond (means j h) 1 0)) f.here ∙ omega (arith, ap {B = ℕ} (λ c. cond (same_key j c) 1 0) f.key)
    in
    omega (arith, one, total-without (λ h. cond (means j h) 1 0) k hs)

pub has_first : (k : Key) (ks : List Key) (hs : List Holding) → HasHolds (k ∷ ks) hs → 0 < meant_count k hs
has_first k ks hs has = omega (arith, has k, ap {B = ℕ} (λ t. cond t 1 0) (same_key-refl k))

-- after the first of them the others are still there
pub has_rest : (k : Key) (ks : List Key) (hs : List Holding) → HasHolds (k ∷ ks) hs → HasHolds ks (without k hs)
has_rest k ks hs has = λ j. omega (arith, has j, times-without j k hs (has_first k ks hs has))

-- what is taken out for some keys has exactly these keys
pub taken_by-keys : (ks : List Key) (hs : List Holding) → HasHolds ks hs → map hold_key (holds_for ks hs) ≡ ks
taken_by-keys [] hs has = refl
taken_by-keys (k ∷ ks) hs has =
    let f = found k hs (has_first k ks hs has) in
    ap (λ xs. map hold_key (xs ++ holds_for ks (without k hs))) f.here
    ∙ ap (λ c. c ∷ map hold_key (holds_for ks (without k hs))) f.key
    ∙ ap (λ cs. k ∷ cs) (taken_by-keys ks (without k hs) (has_rest k ks hs has))

-- a fact of each hold
module _ (P : Holding → Type 0) where
  cut_first : (t : Bool) (h : Holding) (xs : List Holding) → P h → Each P xs → Each P (cond t (h ∷ []) xs)
  cut_first true h xs p all = (p, tt)
  cut_first false h xs p all = all

  pub each-first : (k : Key) (hs : List Holding) → Each P hs → Each P (first_hold k hs)
  each-first k [] all = tt
  each-first k (h ∷ hs) all = cut_first (means k h) h (first_hold k hs) all.0 (each-first k hs all.1)

  cut_rest : (t : Bool) (h : Holding) (hs xs : List Holding) → P h → Each P hs → Each P xs → Each P (cond t hs (h ∷ xs))
  cut_rest true h hs xs p all rest = all
  cut_rest false h hs xs p all rest = (p, rest)

  pub each-without : (k : Key) (hs : List Holding) → Each P hs → Each P (without k hs)
  each-without k [] all = tt
  each-without k (h ∷ hs) all = cut_rest (means k h) h hs (without k hs) all.0 all.1 (each-without k hs all.1)

  pub each-taken_by : (ks : List Key) (hs : List Holding) → Each P hs → Each P (holds_for ks hs)
  each-taken_by [] hs all = tt
  each-taken_by (k ∷ ks) hs all = each-append P (first_hold k hs) (holds_for ks (without k hs)) (each-first k hs all)
      (each-taken_by ks (without k hs) (each-without k hs all))

  pub each-left_by : (ks : List Key) (hs : List Holding) → Each P hs → Each P (without_keys ks hs)
  each-left_by [] hs all = all
  each-left_by (k ∷ ks) hs all = each-left_by ks (without k hs) (each-without k hs all)
