-- Sums over lists, by weights.
use Rattle.std.specs.Prelude.{◌≡◌, ℕ, ◌+◌, List, [], ◌∷◌, cond, eqb, ⊤}

-- the weight of each, added up
abbrev pub total : {A : Type 0} → (A → ℕ) → List A → ℕ
total weight [] = 0
total weight (x ∷ xs) = weight x + total weight xs

-- 1 where the numbers are equal
abbrev pub same : ℕ → ℕ → ℕ
same a b = cond (eqb a b) 1 0

-- P holds of each
abbrev pub Each : {A : Type 0} → (A → Type 0) → List A → Type 0
Each P [] = ⊤
Each P (x ∷ xs) = P x × Each P xs

-- both lists have the same items, each as often: no weight tells them apart
abbrev pub SameItems : {A : Type 0} → List A → List A → Type 0
SameItems {A} xs ys = (weight : A → ℕ) → total weight xs ≡ total weight ys

-- the second list has the item once more than the first
abbrev pub Adds : {A : Type 0} → A → List A → List A → Type 0
Adds x less more = SameItems more (x ∷ less)
