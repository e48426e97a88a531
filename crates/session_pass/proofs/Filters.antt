-- Parts of a rising list that tests pick out.
use Rattle.std.proofs.Common.{◌≡◌, ℕ, zero, suc, ◌<◌, ◌⊎◌, inl, inr, ⊎_elim, List, [], ◌∷◌, take, drop, Bool, true}
use Rattle.std.proofs.Common.{false, cond, ◌||◌, sym, refl, ap, ◌∙◌, arith}
use Rattle.std.specs.Prelude.{◌==◌}
use Rattle.std.specs.List.{filter, list_any}
use Rattle.view_sums.specs.Total.{Each}
use Rattle.reply_planner.specs.Stages.{IsAbove, IsRising, inserted, merged}
use Rattle.reply_planner.proofs.Merged.{inserted-on, inserted-here}

pub same_or_not : (t : Bool) → (t ≡ true) ⊎ (t ≡ false)
same_or_not true = inl refl
same_or_not false = inr refl

pub filter-yes : (p : ℕ → Bool) (x : ℕ) (xs : List ℕ) → p x ≡ true → filter p (x ∷ xs) ≡ x ∷ filter p xs
filter-yes p x xs passes = ap (λ t. cond t (x ∷ filter p xs) (filter p xs)) passes

pub filter-no : (p : ℕ → Bool) (x : ℕ) (xs : List ℕ) → p x ≡ false → filter p (x ∷ xs) ≡ filter p xs
filter-no p x xs fails = ap (λ t. cond t (x ∷ filter p xs) (filter p xs)) fails

pub filter_same : (p q : ℕ → Bool) (xs : List ℕ) → Each (λ x. p x ≡ q x) xs → filter p xs ≡ filter q xs
filter_same p q [] same = refl
filter_same p q (x ∷ xs) same =
    ap (λ t. cond t (x ∷ filter p xs) (filter p xs)) same.0 ∙ ap (λ l. cond (q x) (x ∷ l) l) (filter_same p q xs same.1)

pub filter_all : (p : ℕ → Bool) (xs : List ℕ) → Each (λ x. p x ≡ true) xs → filter p xs ≡ xs
filter_all p [] all = refl
filter_all p (x ∷ xs) all = filter-yes p x xs all.0 ∙ ap (λ l. x ∷ l) (filter_all p xs all.1)

pub filter_none : (p : ℕ → Bool) (xs : List ℕ) → Each (λ x. p x ≡ false) xs → filter p xs ≡ []
filter_none p [] none = refl
filter_none p (x ∷ xs) none = filter-no p x xs none.0 ∙ filter_none p xs none.1

pub each_all : (P : ℕ → Type 0) → ((x : ℕ) → P x) → (xs : List ℕ) → Each P xs
each_all P all [] = tt
each_all P all (x ∷ xs) = (all x, each_all P all xs)

pub each-imp : (P Q : ℕ → Type 0) → ((x : ℕ) → P x → Q x) → (xs : List ℕ) → Each P xs → Each Q xs
each-imp P Q then [] each = tt
each-imp P Q then (x ∷ xs) each = (then x each.0, each-imp P Q then xs each.1)

module _ (P : ℕ → Type 0) where
  each-cond : (t : Bool) (x : ℕ) (xs : List ℕ) → P x → Each P xs → Each P (cond t (x ∷ xs) xs)
  each-cond true x xs here each = (here, each)
  each-cond false x xs here each = each

  pub each-filter : (p : ℕ → Bool) (xs : List ℕ) → Each P xs → Each P (filter p xs)
  each-filter p [] each = tt
  each-filter p (x ∷ xs) each = each-cond (p x) x (filter p xs) each.0 (each-filter p xs each.1)

  pub each-take : (n : ℕ) (xs : List ℕ) → Each P xs → Each P (take n xs)
  each-take zero xs each = tt
  each-take (suc n) [] each = tt
  each-take (suc n) (x ∷ xs) each = (each.0, each-take n xs each.1)

pub above_weaken : (a b : ℕ) (cs : List ℕ) → a < b → IsAbove b cs → IsAbove a cs
above_weaken a b [] less above = tt
above_weaken a b (c ∷ cs) less above = (omega arith, above.1)

pub above-each : (a : ℕ) (cs : List ℕ) → IsAbove a cs → Each (λ c. a < c) cs
above-each a [] above = tt
above-each a (c ∷ cs) above = (above.0, above-each a cs (above_weaken a c cs above.0 above.1))

pub rising-rest : (x : ℕ) (xs : List ℕ) → IsRising (x ∷ xs) → IsRising xs
rising-rest x [] rises = tt
rising-rest x (y ∷ xs) rises = rises.1

-- the number stands in the list
abbrev pub has : List ℕ → ℕ → Bool
has ys x = list_any (λ y. y == x) ys

pub not-same : (x y : ℕ) → x < y → (y == x) ≡ false
not-same x y less = grind arith

pub not-same' : (x y : ℕ) → x < y → (x == y) ≡ false
not-same' x y less = grind arith

pub same-self : (x : ℕ) → (x == x) ≡ true
same-self x = grind arith

-- what is less than each isn't there
pub has-none : (x : ℕ) (ys : List ℕ) → Each (λ y. x < y) ys → has ys x ≡ false
has-none x [] above = refl
has-none x (y ∷ ys) above = ap (λ t. t || has ys x) (not-same x y above.0) ∙ has-none x ys above.1

take_nil : (m : ℕ) → take {A = ℕ} m [] ≡ []
take_nil zero = refl
take_nil (suc m) = refl

drop_nil : (m : ℕ) → drop {A = ℕ} m [] ≡ []
drop_nil zero = refl
drop_nil (suc m) = refl

-- the first numbers that pass a test are those of the list that stand among them
pub take-filter : (g : ℕ → Bool) (n : ℕ) (xs : List ℕ) → IsRising xs
    → take n (filter g xs) ≡ filter (has (take n (filter g xs))) xs
take-filter g n [] rises = take_nil n
take-filter g zero (x ∷ xs) rises =
    sym (filter_none (has []) (x ∷ xs) (each_all (λ y. has [] y ≡ false) (λ y. refl) (x ∷ xs)))
take-filter g (suc n) (x ∷ xs) rises =
    ⊎_elim
    (λ passes.
    let above = above-each x xs rises in
    let t = take n (filter g xs) in
    let whole : take (suc n) (filter g (x ∷ xs)) ≡ x ∷ t = ap (take (suc n)) (filter-yes g x xs passes) in
    let here : has (x ∷ t) x ≡ true = ap (λ b. b || has t x) (same-self x) in
    let others : Each (λ y. has t y ≡ has (x ∷ t) y) xs =
    each-imp (λ y. x < y) (λ y. has t y ≡ has (x ∷ t) y) (λ y less. sym (ap (λ b. b || has t y) (not-same' x y less)))
    xs above in
    whole
    ∙ ap (λ l. x ∷ l) (take-filter g n xs (rising-rest x xs rises) ∙ filter_same (has t) (has (x ∷ t)) xs others)
    ∙ sym (filter-yes (has (x ∷ t)) x xs here)
    ∙ ap (λ l. filter (has l) (x ∷ xs)) (sym whole))
    (λ fails.
    let above = above-each x xs rises in
    let t = take (suc n) (filter g xs) in
    let whole : take (suc n) (filter g (x ∷ xs)) ≡ t = ap (take (suc n)) (filter-no g x xs fails) in
    let absent : has t x ≡ false =
    has-none x t (each-take (λ y. x < y) (suc n) (filter g xs) (each-filter (λ y. x < y) g xs above)) in
    whole ∙ take-filter g (suc n) xs (rising-rest x xs rises) ∙ sym (filter-no (has t) x xs absent)
    ∙ ap (λ l. filter (has l) (x ∷ xs)) (sym whole))
    (same_or_not (g x))

either : (t s : Bool) → s ≡ false → cond t false s ≡ false
either true s fails = refl
either false s fails = fails

-- and the others are those that don't
pub drop-filter : (g : ℕ → Bool) (n : ℕ) (xs : List ℕ) → IsRising xs
    → drop n (filter g xs) ≡ filter (λ x. cond (has (take n (filter g xs)) x) false (g x)) xs
drop-filter g n [] rises = drop_nil n
drop-filter g zero (x ∷ xs) rises = filter_same g (λ y. cond (has [] y) false (g y)) (x ∷ xs)
    (each_all (λ y. g y ≡ g y) (λ y. refl) (x ∷ xs))
drop-filter g (suc n) (x ∷ xs) rises =
    ⊎_elim
    (λ passes.
    let above = above-each x xs rises in
    let t = take n (filter g xs) in
    let rest : List ℕ → ℕ → Bool = λ l y. cond (has l y) false (g y) in
    let whole : filter g (x ∷ xs) ≡ x ∷ filter g xs = filter-yes g x xs passes in
    let here : rest (x ∷ t) x ≡ false = ap (λ b. cond (b || has t x) false (g x)) (same-self x) in
    let others : Each (λ y. rest t y ≡ rest (x ∷ t) y) xs =
    each-imp (λ y. x < y) (λ y. rest t y ≡ rest (x ∷ t) y)
    (λ y less. sym (ap (λ b. cond (b || has t y) false (g y)) (not-same' x y less))) xs above in
    ap (drop (suc n)) whole
    ∙ drop-filter g n xs (rising-rest x xs rises)
    ∙ filter_same (rest t) (rest (x ∷ t)) xs others
    ∙ sym (filter-no (rest (x ∷ t)) x xs here)
    ∙ ap (λ l. filter (rest (take (suc n) l)) (x ∷ xs)) (sym whole))
    (λ fails.
    let above = above-each x xs rises in
    let t = take (suc n) (filter g xs) in
    let rest : List ℕ → ℕ → Bool = λ l y. cond (has l y) false (g y) in
    let whole : filter g (x ∷ xs) ≡ filter g xs = filter-no g x xs fails in
    let absent : rest t x ≡ false = either (has t x) (g x) fails in
    ap (drop (suc n)) whole ∙ drop-filter g (suc n) xs (rising-rest x xs rises) ∙ sym (filter-no (rest t) x xs absent)
    ∙ ap (λ l. filter (rest (take (suc n) l)) (x ∷ xs)) (sym whole))
    (same_or_not (g x))

-- what is less than all that come before stays in front
pub merged-front : (x : ℕ) (bs cs : List ℕ) → Each (λ a. x < a) bs → merged bs (x ∷ cs) ≡ x ∷ merged bs cs
merged-front x [] cs above = refl
merged-front x (a ∷ bs) cs above =
    ap (inserted a) (merged-front x bs cs above.1) ∙ inserted-on a x (merged bs cs) above.0

inserted-least : (x : ℕ) (cs : List ℕ) → Each (λ c. x < c) cs → inserted x cs ≡ x ∷ cs
inserted-least x [] above = refl
inserted-least x (c ∷ cs) above = inserted-here x c cs (omega (arith, above.0))

-- each number passes one of two tests, where it passes the third, and none where it doesn't
abbrev pub Splits : (a b c : ℕ → Bool) → ℕ → Type 0
Splits a b c x = ((a x ≡ true) × (c x ≡ true)) ⊎ ((a x ≡ false) × (b x ≡ c x))

merged_step : (a b c : ℕ → Bool) (x : ℕ) (xs : List ℕ) → Each (λ y. x < y) xs → ((y : ℕ) → a y ≡ true → b y ≡ false)
    → Splits a b c x → merged (filter a xs) (filter b xs) ≡ filter c xs
    → merged (filter a (x ∷ xs)) (filter b (x ∷ xs)) ≡ filter c (x ∷ xs)
merged_step a b c x xs above apart splits before =
    ⊎_elim
    (λ first.
    ap (λ l. merged l (filter b (x ∷ xs))) (filter-yes a x xs first.0)
    ∙ ap (λ l. inserted x (merged (filter a xs) l)) (filter-no b x xs (apart x first.0))
    ∙ ap (inserted x) before
    ∙ inserted-least x (filter c xs) (each-filter (λ y. x < y) c xs above)
    ∙ sym (filter-yes c x xs first.1))
    (λ second.
    ap (λ l. merged l (filter b (x ∷ xs))) (filter-no a x xs second.0)
    ∙ ⊎_elim
    (λ passes.
    ap (merged (filter a xs)) (filter-yes b x xs passes)
    ∙ merged-front x (filter a xs) (filter b xs) (each-filter (λ y. x < y) a xs above)
    ∙ ap (λ l. x ∷ l) before
    ∙ sym (filter-yes c x xs (sym second.1 ∙ passes)))
    (λ fails.
    ap (merged (filter a xs)) (filter-no b x xs fails) ∙ before ∙ sym (filter-no c x xs (sym second.1 ∙ fails)))
    (same_or_not (b x)))
    splits

-- what two tests pick out of a rising list, in order
pub merged-filters : (a b c : ℕ → Bool) (xs : List ℕ) → IsRising xs
    → ((x : ℕ) → a x ≡ true → b x ≡ false) → Each (Splits a b c) xs
    → merged (filter a xs) (filter b xs) ≡ filter c xs
merged-filters a b c [] rises apart splits = refl
merged-filters a b c (x ∷ xs) rises apart splits =
    merged_step a b c x xs (above-each x xs rises) apart splits.0
    (merged-filters a b c xs (rising-rest x xs rises) apart splits.1)

-- what a test picks out passes it
passes_step : (g : ℕ → Bool) (t : Bool) (x : ℕ) (xs : List ℕ) → g x ≡ t → Each (λ y. g y ≡ true) xs
    → Each (λ y. g y ≡ true) (cond t (x ∷ xs) xs)
passes_step g true x xs e each = (e, each)
passes_step g false x xs e each = each

pub each-passes : (g : ℕ → Bool) (xs : List ℕ) → Each (λ y. g y ≡ true) (filter g xs)
each-passes g [] = tt
each-passes g (x ∷ xs) = passes_step g (g x) x (filter g xs) refl (each-passes g xs)

same_number : (y b : ℕ) → (y == b) ≡ true → y ≡ b
same_number y b same = grind arith

found_step : (g : ℕ → Bool) (t : Bool) (y b : ℕ) (s : Bool) → (y == b) ≡ t → g y ≡ true → (s ≡ true → g b ≡ true)
    → (t || s) ≡ true → g b ≡ true
found_step g true y b s same here others found = ap g (sym (same_number y b same)) ∙ here
found_step g false y b s same here others found = others found

pub has-passes : (g : ℕ → Bool) (b : ℕ) (ys : List ℕ) → Each (λ y. g y ≡ true) ys → has ys b ≡ true → g b ≡ true
has-passes g b [] each found = cc
has-passes g b (y ∷ ys) each found = found_step g (y == b) y b (has ys b) refl each.0 (has-passes g b ys each.1) found
