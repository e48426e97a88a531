-- Results in the slots of their jobs.
use Rattle.std.proofs.Common.{
  ◌≡◌,
  ◌≢◌,
  ℕ,
  zero,
  suc,
  ◌<◌,
  List,
  [],
  ◌∷◌,
  ◌++◌,
  Option,
  Some,
  None,
  All,
  IsSome,
  IsSomeAnd,
  length,
  map,
  set,
  get_or,
  replicate,
  slice_index_or,
  take,
  drop,
  sym,
  refl,
  ap,
  subst,
  ◌∙◌,
  arith,
  cond,
  eq-eqb,
  ne_eqb,
  length-set,
  append_assoc,
  append-nil,
}
use mathlib.Core.Logic.{dite}
use native.Mathlib.Decide.{ℕ_discrete}
use Rattle.std.specs.List.{AllZip}
use Rattle.std.proofs.lemmas.List.{get_or-set_same, get_or-set_other, length-replicate}
use Rattle.std.proofs.lemmas.List.Elements.{All-nil, All-cons, All-head, All-tail}
use Rattle.std.proofs.lemmas.Slice.Zip.{AllZip-long}
use Rattle.std.proofs.Math.Seq.{take-append_seam}
use Rattle.view_sums.specs.Total.{same}
use Rattle.work_queue.specs.declared.hand.Done.{Done}
use Rattle.work_queue.specs.Dealt.{times_listed, once_below, IsAt, Given}
use Rattle.work_queue.specs.Slots.{filled_slots, IsFilled, Filled, AllFilled}
use Rattle.work_queue.proofs.Deals.{times-append}

module _ {A : Type 0} where
  pub all-first : (P : A → Type 0) (xs ys : List A) (x : A) → All P xs → xs ≡ x ∷ ys → P x
  all-first P xs ys x all is = All-head P x ys (subst (All P) is all)

  -- what is true of each is true of the one at a number
  pub all-at : (P : A → Type 0) (xs : List A) (n : ℕ) (x : A) → All P xs → IsAt xs n x → P x
  all-at P [] n x all at = absurd (omega (arith, at.0))
  all-at P (y ∷ ys) zero x all at = subst P (at.1 y) (All-head P y ys all)
  all-at P (y ∷ ys) (suc n) x all at = all-at P ys n x (All-tail P y ys all) (omega (arith, at.0), at.1)

  pub all-always : (P : A → Type 0) → ((x : A) → P x) → (xs : List A) → All P xs
  all-always P h [] = All-nil P
  all-always P h (x ∷ xs) = All-cons P x xs (h x) (all-always P h xs)

  pub zip-at : (R : A → A → Type 0) (xs ys : List A) → length ys ≡ length xs
      → ((k : ℕ) (d : A) → k < length xs → R (slice_index_or xs k d) (slice_index_or ys k d)) → AllZip R xs ys
  zip-at R [] [] long each = tt
  zip-at R [] (y ∷ ys) long each = absurd (omega (arith, long))
  zip-at R (x ∷ xs) [] long each = absurd (omega (arith, long))
  zip-at R (x ∷ xs) (y ∷ ys) long each = (
    each 0 x (omega arith),
    zip-at R xs ys (omega (arith, long)) (λ k d below. each (suc k) d (omega (arith, below))),
  )

  -- a whole list that was lent and written
  pub lent-back : (now before : List A) (n : ℕ) → length now ≡ length before → n ≡ length before
      → take n (now ++ drop (length now) before) ≡ now
  lent-back now before n long is =
      ap (λ k. take k (now ++ drop (length now) before)) (is ∙ sym long)
      ∙ take-append_seam now (drop (length now) before)

module _ {X : Type 0} where
  pub placed-more : (slots : List (Option X)) (ds : List (Done X)) (d : Done X)
      → filled_slots slots (ds ++ d ∷ []) ≡ set (filled_slots slots ds) d.number (Some d.result)
  placed-more slots [] d = refl
  placed-more slots (e ∷ es) d = placed-more (set slots e.number (Some e.result)) es d

  pub placed-both : (slots : List (Option X)) (ds es : List (Done X))
      → filled_slots slots (ds ++ es) ≡ filled_slots (filled_slots slots ds) es
  placed-both slots [] es = refl
  placed-both slots (d ∷ ds) es = placed-both (set slots d.number (Some d.result)) ds es

  pub placed-length : (slots : List (Option X)) (ds : List (Done X)) → length (filled_slots slots ds) ≡ length slots
  placed-length slots [] = refl
  placed-length slots (d ∷ ds) =
      placed-length (set slots d.number (Some d.result)) ds ∙ length-set slots d.number (Some d.result)

-- a number that isn't j
same-other : (j k : ℕ) → j ≢ k → same j k ≡ 0
same-other j k other = ap (λ t. cond t 1 0) (ne_eqb j k other)

same-itself : (j k : ℕ) → j ≡ k → same j k ≡ 1
same-itself j k e = ap (λ t. cond t 1 0) (eq-eqb j k e)

once-there : (j n : ℕ) → j < n → 0 < once_below j n
once-there j zero below = absurd (omega (arith, below))
once-there j (suc n) below = dite (ℕ_discrete j n)
    (λ e. omega (arith, same-itself j n e))
    (λ other. omega (arith, once-there j n (omega (arith, below, other))))

module _ {T X : Type 0} (gives : T → X → Type 0) where
  pub filled-none : (all : List T) (slots : List (Option X)) → slots ≡ replicate (length all) None
      → Filled gives all [] slots
  filled-none all slots is = record {
    len = ap length is ∙ length-replicate (length all) None;
    each = λ j below some. absurd (omega (arith, some));
  }

  filled-more : (all : List T) (numbers : List ℕ) (slots : List (Option X)) (n : ℕ) (x : T) (r : X)
      → Filled gives all numbers slots → IsAt all n x → gives x r
      → Filled gives all (numbers ++ n ∷ []) (set slots n (Some r))
  filled-more all numbers slots n x r h at is = record {
    len = length-set slots n (Some r) ∙ h.len;
    each = λ j below some.
        let now = set slots n (Some r) in
        dite (ℕ_discrete j n)
        (λ (e : j ≡ n).
        let there = sym (get_or-set_same slots n (Some r) None (omega (arith, h.len, at.0))) in
        subst (λ k. IsFilled gives all k (get_or now k None)) (sym e) (subst (IsFilled gives all n) there (x, at, is)))
        (λ (other : j ≢ n).
        let kept = sym (get_or-set_other slots n j (Some r) None other) in
        let before : 0 < times_listed j numbers =
        omega (arith, some, times-append j numbers (n ∷ []), same-other j n other) in
        subst (IsFilled gives all j) kept (h.each j below before));
  }

  pub filled-all : (all : List T) (numbers : List ℕ) (slots : List (Option X)) (ds : List (Done X))
      → Filled gives all numbers slots → Given gives all ds
      → Filled gives all (numbers ++ map (λ (d : Done X). d.number) ds) (filled_slots slots ds)
  filled-all all numbers slots [] h given = subst (λ t. Filled gives all t slots) (sym (append-nil numbers)) h
  filled-all all numbers slots (d ∷ ds) h given =
      let now = set slots d.number (Some d.result) in
      let this = filled-more all numbers slots d.number given.0.0 d.result h given.0.1 given.0.2 in
      subst (λ t. Filled gives all t (filled_slots now ds))
      (append_assoc numbers (d.number ∷ []) (map (λ (d : Done X). d.number) ds))
      (filled-all all (numbers ++ d.number ∷ []) now ds this given.1)

  first-filled : (x : T) (xs : List T) (slot : Option X) → IsFilled gives (x ∷ xs) 0 slot → IsSomeAnd slot (gives x)
  first-filled x xs None h = h
  first-filled x xs (Some r) h = subst (λ z. gives z r) (sym (h.1.1 x)) h.2

  later-filled : (x : T) (xs : List T) (j : ℕ) (slot : Option X) → IsFilled gives (x ∷ xs) (suc j) slot
      → IsFilled gives xs j slot
  later-filled x xs j None h = h
  later-filled x xs j (Some r) h = (h.0, (omega (arith, h.1.0), h.1.1), h.2)

  each-filled : (all : List T) (slots : List (Option X)) → length slots ≡ length all
      → ((j : ℕ) → j < length all → IsFilled gives all j (get_or slots j None)) → AllFilled gives all slots
  each-filled [] [] long h = tt
  each-filled [] (s ∷ ss) long h = absurd (omega (arith, long))
  each-filled (x ∷ xs) [] long h = absurd (omega (arith, long))
  each-filled (x ∷ xs) (s ∷ ss) long h = (
    first-filled x xs s (h 0 (omega arith)),
    each-filled xs ss (omega (arith, long))
        (λ j below. later-filled x xs j (get_or ss j None) (h (suc j) (omega (arith, below)))),
  )

  -- each number stands among these
  pub all-filled : (all : List T) (numbers : List ℕ) (slots : List (Option X)) → Filled gives all numbers slots
      → ((j : ℕ) → times_listed j numbers ≡ once_below j (length all)) → AllFilled gives all slots
  all-filled all numbers slots h once = each-filled all slots h.len
      (λ j below. h.each j below (omega (arith, once-there j (length all) below, once j)))

  pub all-some : (all : List T) (slots : List (Option X)) → AllFilled gives all slots → All IsSome slots
  all-some [] [] h = All-nil IsSome
  all-some [] (s ∷ ss) h = absurd h
  all-some (x ∷ xs) [] h = absurd h
  all-some (x ∷ xs) (None ∷ ss) h = absurd h.0
  all-some (x ∷ xs) (Some r ∷ ss) h = All-cons IsSome (Some r) ss refl (all-some xs ss h.1)

  -- a row of empty slots that was lent and filled
  pub row-back : (all : List T) (now before : List (Option X)) (n : ℕ) → AllFilled gives all now
      → before ≡ replicate (length all) None → n ≡ length before → take n (now ++ drop (length now) before) ≡ now
  row-back all now before n h is long =
      let empty = ap length is ∙ length-replicate (length all) None in
      lent-back now before n (AllZip-long _ all now h ∙ sym empty) long

  each-held : (all : List T) (rs : List X) → AllFilled gives all (map (λ (x : X). Some x) rs) → AllZip gives all rs
  each-held [] [] h = tt
  each-held [] (r ∷ rs) h = absurd h
  each-held (x ∷ xs) [] h = absurd h
  each-held (x ∷ xs) (r ∷ rs) h = (h.0, each-held xs rs h.1)

  -- the results are what the slots hold
  pub each-result : (all : List T) (slots : List (Option X)) (rs : List X) → map (λ (x : X). Some x) rs ≡ slots
      → AllFilled gives all slots → AllZip gives all rs
  each-result all slots rs is h = each-held all rs (subst (AllFilled gives all) (sym is) h)
