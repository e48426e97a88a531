-- The deeds of all pages, merged by their ranks.
use Rattle.std.proofs.Common.{◌≡◌, ℕ, suc, ◌+◌, ◌<◌, ◌≤◌, Bool, true, false, cond, nat_le, List, [], ◌∷◌, Some}
use Rattle.std.proofs.Common.{slice_get, refl, ap, sym, ◌∙◌, subst, ⊎_elim, arith}
use Rattle.std.specs.List.{filter}
use Rattle.std.proofs.lemmas.Bool.{leb-true, le-leb, true≢false, cases_lt}
use Rattle.std.specs.Prelude.{⊤}
use Rattle.view_sums.specs.Total.{Each}
use Rattle.view_sums.proofs.Eachs.{each-imp}
use Rattle.order_book.specs.Pages.{Ranked, Page}
use Rattle.order_book.specs.Rule.{Rises}

abbrev pub into : Ranked → (List Ranked → List Ranked) → List Ranked → List Ranked
into x rest [] = x ∷ rest []
into x rest (y ∷ ys) = cond (nat_le x.rank y.rank) (x ∷ rest (y ∷ ys)) (y ∷ into x rest ys)

abbrev pub merge : List Ranked → List Ranked → List Ranked
merge [] ys = ys
merge (x ∷ xs) ys = into x (λ zs. merge xs zs) ys

abbrev pub merged : List Page → List Ranked
merged [] = []
merged (p ∷ ps) = merge p.deeds (merged ps)

-- what holds of each
module _ (P : Ranked → Type 0) where
  into_all : (x : Ranked) (rest : List Ranked → List Ranked) → P x → ((zs : List Ranked) → Each P zs → Each P (rest zs))
      → (ys : List Ranked) → Each P ys → Each P (into x rest ys)
  into_all x rest here all [] each = (here, all [] tt)
  into_all x rest here all (y ∷ ys) each = by (nat_le x.rank y.rank) (all (y ∷ ys) each)
      (into_all x rest here all ys each.1) where
        by : (b : Bool) → Each P (rest (y ∷ ys)) → Each P (into x rest ys)
            → Each P (cond b (x ∷ rest (y ∷ ys)) (y ∷ into x rest ys))
        by true more later = (here, more)
        by false more later = (each.0, later)

  pub all_merge : (xs ys : List Ranked) → Each P xs → Each P ys → Each P (merge xs ys)
  all_merge [] ys first each = each
  all_merge (x ∷ xs) ys first each = into_all x (λ zs. merge xs zs) first.0
      (λ zs all. all_merge xs zs first.1 all) ys each

  pub all_merged : (ps : List Page) → Each (λ (p : Page). Each P p.deeds) ps → Each P (merged ps)
  all_merged [] each = tt
  all_merged (p ∷ ps) each = all_merge p.deeds (merged ps) each.0 (all_merged ps each.1)

-- what a test leaves
module _ (f : Ranked → Bool) where
  none_left : (ys : List Ranked) → Each (λ y. f y ≡ false) ys → filter f ys ≡ []
  none_left [] each = refl
  none_left (y ∷ ys) each = let gone = each.0 in rw gone (none_left ys each.1)

  into_yes : (x : Ranked) (xs : List Ranked) (rest : List Ranked → List Ranked) → f x ≡ true
      → ((zs : List Ranked) → Each (λ z. f z ≡ false) zs → filter f (rest zs) ≡ xs)
      → (ys : List Ranked) → Each (λ y. f y ≡ false) ys → filter f (into x rest ys) ≡ x ∷ xs
  into_yes x xs rest kept all [] each = rw kept (ap (λ l. x ∷ l) (all [] tt))
  into_yes x xs rest kept all (y ∷ ys) each = by (nat_le x.rank y.rank) (all (y ∷ ys) each)
      (into_yes x xs rest kept all ys each.1) where
        by : (b : Bool) → filter f (rest (y ∷ ys)) ≡ xs → filter f (into x rest ys) ≡ x ∷ xs
            → filter f (cond b (x ∷ rest (y ∷ ys)) (y ∷ into x rest ys)) ≡ x ∷ xs
        by true more later = rw kept (ap (λ l. x ∷ l) more)
        by false more later = let gone = each.0 in rw gone later

  pub filter_yes : (xs ys : List Ranked) → Each (λ x. f x ≡ true) xs → Each (λ y. f y ≡ false) ys
      → filter f (merge xs ys) ≡ xs
  filter_yes [] ys kept gone = none_left ys gone
  filter_yes (x ∷ xs) ys kept gone = into_yes x xs (λ zs. merge xs zs) kept.0
      (λ zs none. filter_yes xs zs kept.1 none) ys gone

  into_no : (x : Ranked) (rest : List Ranked → List Ranked) → f x ≡ false
      → ((zs : List Ranked) → filter f (rest zs) ≡ filter f zs) → (ys : List Ranked)
      → filter f (into x rest ys) ≡ filter f ys
  into_no x rest gone all [] = rw gone (all [])
  into_no x rest gone all (y ∷ ys) = by (nat_le x.rank y.rank) (all (y ∷ ys)) (into_no x rest gone all ys) where
    by : (b : Bool) → filter f (rest (y ∷ ys)) ≡ filter f (y ∷ ys) → filter f (into x rest ys) ≡ filter f ys
        → filter f (cond b (x ∷ rest (y ∷ ys)) (y ∷ into x rest ys)) ≡ filter f (y ∷ ys)
    by true more later = rw gone more
    by false more later = ap (λ l. cond (f y) (y ∷ l) l) later

  pub filter_no : (xs ys : List Ranked) → Each (λ x. f x ≡ false) xs → filter f (merge xs ys) ≡ filter f ys
  filter_no [] ys gone = refl
  filter_no (x ∷ xs) ys gone = into_no x (λ zs. merge xs zs) gone.0 (λ zs. filter_no xs zs gone.1) ys

-- not of a higher rank, and not the same
abbrev pub Goes : Ranked → Ranked → Type 0
Goes x y = (x.rank ≤ y.rank) × (x ≡ y → ⊥)

-- each goes before those behind it
abbrev pub Pairs : List Ranked → Type 0
Pairs [] = ⊤
Pairs (x ∷ xs) = Each (Goes x) xs × Pairs xs

abbrev pub IsOf : ℕ → Ranked → Type 0
IsOf n x = x.shard ≡ n

abbrev pub IsAway : ℕ → Ranked → Type 0
IsAway n y = y.shard ≡ n → ⊥

two_shards : (n : ℕ) (x y : Ranked) → IsOf n x → IsAway n y → x ≡ y → ⊥
two_shards n x y of away same = away (ap (λ (u : Ranked). u.shard) (sym same) ∙ of)

-- x is not above y, and so not above those that y goes before
goes_on : (n : ℕ) (x y : Ranked) → IsOf n x → x.rank ≤ y.rank → (ys : List Ranked) → Each (IsAway n) (y ∷ ys)
    → Each (Goes y) ys → Each (Goes x) (y ∷ ys)
goes_on n x y of below ys away goes = ((below, two_shards n x y of away.0), rest ys away.1 goes) where
  rest : (zs : List Ranked) → Each (IsAway n) zs → Each (Goes y) zs → Each (Goes x) zs
  rest [] away goes = tt
  rest (z ∷ zs) away goes = ((omega (arith, goes.0.0), two_shards n x z of away.0), rest zs away.1 goes.1)

-- and the other way round
goes_over : (n : ℕ) (y x : Ranked) → IsAway n y → y.rank ≤ x.rank → (xs : List Ranked) → Each (IsOf n) (x ∷ xs)
    → Each (Goes x) xs → Each (Goes y) (x ∷ xs)
goes_over n y x away below xs of goes = (
  (below, λ same. two_shards n x y of.0 away (sym same)),
  rest xs of.1 goes,
) where
  rest : (zs : List Ranked) → Each (IsOf n) zs → Each (Goes x) zs → Each (Goes y) zs
  rest [] of goes = tt
  rest (z ∷ zs) of goes = (
    (omega (arith, goes.0.0), λ same. two_shards n z y of.0 away (sym same)),
    rest zs of.1 goes.1,
  )

not_above : (x y : Ranked) → nat_le x.rank y.rank ≡ false → y.rank ≤ x.rank
not_above x y is = ⊎_elim (λ less. absurd (true≢false (sym (le-leb x.rank y.rank (omega arith)) ∙ is))) (λ not. not)
    (cases_lt x.rank y.rank)

pairs_into : (n : ℕ) (x : Ranked) (xs : List Ranked) → Each (IsOf n) (x ∷ xs) → Pairs (x ∷ xs)
    → ((zs : List Ranked) → Each (IsAway n) zs → Pairs zs → Pairs (merge xs zs))
    → (ys : List Ranked) → Each (IsAway n) ys → Pairs ys → Pairs (into x (λ zs. merge xs zs) ys)
pairs_into n x xs of pairs all [] away more = (all_merge (Goes x) xs [] pairs.0 tt, all [] tt tt)
pairs_into n x xs of pairs all (y ∷ ys) away more = by (nat_le x.rank y.rank) refl (all (y ∷ ys) away more)
    (pairs_into n x xs of pairs all ys away.1 more.1) where
      by : (b : Bool) → nat_le x.rank y.rank ≡ b → Pairs (merge xs (y ∷ ys)) → Pairs (into x (λ zs. merge xs zs) ys)
          → Pairs (cond b (x ∷ merge xs (y ∷ ys)) (y ∷ into x (λ zs. merge xs zs) ys))
      by true is rest later =
          let below : x.rank ≤ y.rank = leb-true x.rank y.rank is in
          (all_merge (Goes x) xs (y ∷ ys) pairs.0 (goes_on n x y of.0 below ys away more.0), rest)
      by false is rest later =
          let below : y.rank ≤ x.rank = not_above x y is in
          let over = goes_over n y x away.0 below xs of pairs.0 in
          (all_merge (Goes y) (x ∷ xs) ys over more.0, later)

pub pairs_merge : (n : ℕ) (xs ys : List Ranked) → Each (IsOf n) xs → Pairs xs → Each (IsAway n) ys → Pairs ys
    → Pairs (merge xs ys)
pairs_merge n [] ys of pairs away more = more
pairs_merge n (x ∷ xs) ys of pairs away more = pairs_into n x xs of pairs
    (λ zs gone rest. pairs_merge n xs zs of.1 pairs.1 gone rest) ys away more

above : (r : ℕ) (xs : List Ranked) → Rises r xs → Each (λ (y : Ranked). r < y.rank) xs
above r [] rises = tt
above r (x ∷ xs) rises = (
  rises.0,
  each-imp (λ (y : Ranked). x.rank < y.rank) (λ (y : Ranked). r < y.rank)
      (λ y less. omega (arith, rises.0)) xs (above x.rank xs rises.1),
)

pub rising_pairs : (r : ℕ) (xs : List Ranked) → Rises r xs → Pairs xs
rising_pairs r [] rises = tt
rising_pairs r (x ∷ xs) rises = (
  each-imp (λ (y : Ranked). x.rank < y.rank) (Goes x) (λ y less.
      (omega arith, λ same. let no : ⊥ = omega (arith, ap (λ (u : Ranked). u.rank) same) in no)) xs
      (above x.rank xs rises.1),
  rising_pairs x.rank xs rises.1,
)

-- the numbers of the pages go up by one, from n on
abbrev pub IsRow : ℕ → List Page → Type 0
IsRow n [] = ⊤
IsRow n (p ∷ ps) = (p.number ≡ n) × IsRow (n + 1) ps

pub row_of : (n : ℕ) (ps : List Page) → ((k : ℕ) (p : Page) → slice_get ps k ≡ Some p → p.number ≡ n + k) → IsRow n ps
row_of n [] at = tt
row_of n (p ∷ ps) at = (omega (arith, at 0 p refl), row_of (n + 1) ps (λ k q is. omega (arith, at (suc k) q is)))

abbrev pub AreNamed : List Page → Type 0
AreNamed ps = Each (λ (p : Page). Each (IsOf p.number) p.deeds) ps

-- of pages from m on no deed is in a shard below
pub away_from : (n m : ℕ) (ps : List Page) → n < m → IsRow m ps → AreNamed ps → Each (IsAway n) (merged ps)
away_from n m ps less row named = all_merged (IsAway n) ps (pages m ps less row named) where
  pages : (m : ℕ) (ps : List Page) → n < m → IsRow m ps → AreNamed ps → Each (λ (p : Page). Each (IsAway n) p.deeds) ps
  pages m [] less row named = tt
  pages m (p ∷ ps) less row named = (
    each-imp (IsOf p.number) (IsAway n) (λ x of same. let no : ⊥ = omega (arith, of, same, row.0) in
        no) p.deeds named.0,
    pages (m + 1) ps (omega arith) row.1 named.1,
  )

pub merged_pairs : (n : ℕ) (ps : List Page) → IsRow n ps → AreNamed ps → Each (λ (p : Page). Rises 0 p.deeds) ps
    → Pairs (merged ps)
merged_pairs n [] row named rises = tt
merged_pairs n (p ∷ ps) row named rises =
    pairs_merge p.number p.deeds (merged ps) named.0 (rising_pairs 0 p.deeds rises.0)
    (subst (λ m. Each (IsAway m) (merged ps)) (sym row.0) (away_from n (n + 1) ps (omega arith) row.1 named.1))
    (merged_pairs (n + 1) ps row.1 named.1 rises.1)
