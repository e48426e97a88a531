-- What all views have, where a view goes by the number of its place.
use Rattle.std.specs.Prelude.{ℕ, suc, List, [], ◌∷◌, ◌++◌}

-- the parts of the views, whose numbers begin at n, one after the other
abbrev pub by_number : {V B : Type 0} → (ℕ → V → List B) → ℕ → List V → List B
by_number part n [] = []
by_number part n (v ∷ vs) = part n v ++ by_number part (suc n) vs
