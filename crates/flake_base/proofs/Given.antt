-- The end of a source in memory.
use Rattle.std.proofs.Common.{rules, ◌≡◌, ℕ, ◌==◌, ◌&&◌, Bool, true, false, List, [], ◌∷◌, length, refl, arith}
use Rattle.flake_base.specs.MemorySource.{is_nil}

none_behind : (left : List ℕ) → length left ≡ 0 → left ≡ []
none_behind [] none = refl
none_behind (x ∷ xs) none = absurd (omega (arith, none))

zero_of : (n : ℕ) → (n == 0) ≡ true → n ≡ 0
zero_of n is = grind (arith, is)

only_then : (zero : Bool) (left : List ℕ) → (zero ≡ true → left ≡ []) → (zero && is_nil left) ≡ zero
only_then true left none = rw (none refl) refl
only_then false left none = refl

-- a read that gave none left none
pub end_is : (n : ℕ) (left : List ℕ) → (n ≡ 0 → length left ≡ 0) → ((n == 0) && is_nil left) ≡ (n == 0)
end_is n left none = only_then (n == 0) left (λ is. none_behind left (none (zero_of n is)))
