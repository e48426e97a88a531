-- How many decimal digits a number has.
use Rattle.std.proofs.Common.{◌≡◌, ℕ, suc, zero, ◌+◌, ◌*◌, ◌^◌, ◌/◌, ◌%◌, ◌<◌, ◌≤◌, List, [], ◌∷◌, ◌++◌, length, arith}
use Rattle.std.proofs.Common.{length-append}
use Rattle.std.proofs.Math.Nat.{one-le-pow}
use Rattle.std.specs.Fmt.{decimal}
use Rattle.std.proofs.lemmas.Fmt.{decimal_by_steps}

-- a number from a power of ten up, and below the next, has one digit more than that power has zeros
pub length-decimal : (n k : ℕ) → n < 2 ^ 64 → 10 ^ k ≤ n → n < 10 * 10 ^ k → length (decimal n) ≡ k + 1
length-decimal n k small low high =
    decimal_by_steps (λ m ds. (j : ℕ) → 10 ^ j ≤ m → m < 10 * 10 ^ j → length ds ≡ j + 1) one more n small k low high
  where
    one : (m : ℕ) → m < 10 → (j : ℕ) → 10 ^ j ≤ m → m < 10 * 10 ^ j → length ((48 + m) ∷ []) ≡ j + 1
    one m l zero a b = omega arith
    one m l (suc j) a b = absurd (omega (arith, one-le-pow j 10 (omega arith)))

    more : (m : ℕ) (ds : List ℕ) → 10 ≤ m → ((j : ℕ) → 10 ^ j ≤ m / 10 → m / 10 < 10 * 10 ^ j → length ds ≡ j + 1)
        → (j : ℕ) → 10 ^ j ≤ m → m < 10 * 10 ^ j → length (ds ++ ((48 + m % 10) ∷ [])) ≡ j + 1
    more m ds l h zero a b = absurd (omega arith)
    more m ds l h (suc j) a b = omega (arith, length-append ds ((48 + m % 10) ∷ []), h j (omega arith) (omega arith))
