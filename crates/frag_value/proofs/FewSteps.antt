-- Fragments in different buffers are at most as many as there are buffers.
use Rattle.std.proofs.Common.{◌≡◌, ℕ, zero, suc, ◌+◌, ◌<◌, ◌≤◌, Bool, true, false, cond, eqb, [], ◌∷◌, length, refl}
use Rattle.std.proofs.Common.{arith}
use Rattle.std.proofs.lemmas.Bool.{eqb-false}
use Rattle.view_sums.specs.Total.{Each, same}
use Rattle.frag_value.specs.Values.{Frags, uses}

-- those in other buffers
besides : ℕ → Frags → Frags
besides n [] = []
besides n (p ∷ v) = cond (eqb p.0 n) (besides n v) (p ∷ besides n v)

count : (n : ℕ) (v : Frags) → length v ≡ length (besides n v) + uses n v
unfolding besides
count n [] = refl
count n (p ∷ v) = by_test (eqb p.0 n) (count n v) where
  by_test : (t : Bool) → length v ≡ length (besides n v) + uses n v
      → suc (length v) ≡ length (cond t (besides n v) (p ∷ besides n v)) + (cond t 1 0 + uses n v)
  by_test true rest = omega (arith, rest)
  by_test false rest = omega (arith, rest)

fewer : (b n : ℕ) (v : Frags) → uses b (besides n v) ≤ uses b v
unfolding besides
fewer b n [] = omega arith
fewer b n (p ∷ v) = by_test (eqb p.0 n) (fewer b n v) where
  by_test : (t : Bool) → uses b (besides n v) ≤ uses b v → uses b (cond t (besides n v) (p ∷ besides n v)) ≤ same p.0
      b + uses b v
  by_test true rest = omega (arith, rest)
  by_test false rest = omega (arith, rest)

below : (n : ℕ) (v : Frags) → Each (λ (p : ℕ × ℕ). p.0 < suc n) v → Each (λ (p : ℕ × ℕ). p.0 < n) (besides n v)
unfolding besides
below n [] all = tt
below n (p ∷ v) all = by_test (eqb p.0 n) refl (below n v all.1) where
  by_test : (t : Bool) → eqb p.0 n ≡ t → Each (λ (q : ℕ × ℕ). q.0 < n) (besides n v)
      → Each (λ (q : ℕ × ℕ). q.0 < n) (cond t (besides n v) (p ∷ besides n v))
  by_test true is rest = rest
  by_test false is rest = (let apart = eqb-false p.0 n is in omega (arith, apart, all.0), rest)

pub are_few : (n : ℕ) (v : Frags) → Each (λ (p : ℕ × ℕ). p.0 < n) v → ((b : ℕ) → uses b v ≤ 1) → length v ≤ n
are_few zero [] all once = omega arith
are_few zero (p ∷ v) all once = absurd (omega (arith, all.0))
are_few (suc n) v all once =
    let rest = are_few n (besides n v) (below n v all) (λ b. omega (arith, fewer b n v, once b)) in
    omega (arith, rest, count n v, once n)
