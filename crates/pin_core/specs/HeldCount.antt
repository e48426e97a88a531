-- How many buffers have a hold.
use Rattle.std.specs.Prelude.{ℕ, zero, suc, ◌+◌, ◌==◌, if◌then◌else◌}
use Rattle.pin_core.specs.Holding.{Holding, at}

-- of so many buffers from the first on, by what each weight of the holds adds up to
abbrev pub held_in : ((Holding → ℕ) → ℕ) → ℕ → ℕ → ℕ
held_in weighs first zero = 0
held_in weighs first (suc n) = held_in weighs first n + (if weighs (at (first + n)) == 0 then 0 else 1)
