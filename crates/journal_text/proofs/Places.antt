-- Where a byte stands first.
use Rattle.std.proofs.Common.{◌≡◌, ◌≢◌, ◌∙◌, refl, sym, ap, subst, ℕ, zero, suc, ◌+◌, ◌-◌, ◌<◌, ◌≤◌, true, nat_eq, List}
use Rattle.std.proofs.Common.{[], ◌∷◌, ◌++◌, arith, length, take, drop, get_or, length-drop}
use Rattle.std.proofs.Math.Seq.{drop-cons}
use Rattle.std.specs.List.{AllByRecursion}
use Rattle.std.specs.Fmt.{decimal}
use Rattle.std.specs.Char.{digit_value}
use Rattle.std.specs.Str.Parse.{AllDigits}
use Rattle.std.proofs.lemmas.List.{take-append-drop, take_all}
use Rattle.std.proofs.lemmas.Bool.{eq-eqb}
use Rattle.std.proofs.lemmas.Bool.Decides.{nat_tests}
use Rattle.memchr.specs.Find.{Nowhere, Passes, is_byte}
use Rattle.flake_model.proofs.Decimals.{all_digits}

-- the byte doesn't stand among these
abbrev pub HasNo : ℕ → List ℕ → Type 0
HasNo byte bytes = AllByRecursion (λ other. other ≢ byte) bytes

-- what stands before its first place is determined, and so is what stands behind
pub before_byte : (byte : ℕ) (some others more rest : List ℕ) → HasNo byte some → HasNo byte others
    → some ++ byte ∷ more ≡ others ++ byte ∷ rest → (some ≡ others) × (more ≡ rest)
before_byte byte [] [] more rest clear none is = (refl, cc)
before_byte byte [] (other ∷ others) more rest clear none is = absurd (none.0 cc)
before_byte byte (first ∷ some) [] more rest clear none is = absurd (clear.0 cc)
before_byte byte (first ∷ some) (other ∷ others) more rest clear none is =
    let behind : some ++ byte ∷ more ≡ others ++ byte ∷ rest = cc in
    let same = before_byte byte some others more rest clear.1 none.1 behind in
    (cc, same.1)

pub HasNo-append : (byte : ℕ) (some others : List ℕ) → HasNo byte some → HasNo byte others → HasNo byte (some ++ others)
HasNo-append byte [] others clear none = none
HasNo-append byte (first ∷ some) others clear none = (clear.0, HasNo-append byte some others clear.1 none)

-- it stands there
pub stands : (byte : ℕ) (front rest : List ℕ) → HasNo byte (front ++ byte ∷ rest) → ⊥
stands byte [] rest clear = clear.0 refl
stands byte (first ∷ front) rest clear = stands byte front rest clear.1

HasNo-digits : (byte : ℕ) (digits : List ℕ) → 10 ≤ digit_value byte → AllDigits 10 digits → HasNo byte digits
HasNo-digits byte [] other all = tt
HasNo-digits byte (digit ∷ digits) other all =
    (λ is. absurd (omega (arith, subst (λ b. digit_value b < 10) is all.0)), HasNo-digits byte digits other all.1)

pub HasNo-decimal : (byte n : ℕ) → 10 ≤ digit_value byte → HasNo byte (decimal n)
HasNo-decimal byte n other = HasNo-digits byte (decimal n) other (all_digits n)

-- no place before the end has it
pub none_before : (byte : ℕ) (bytes : List ℕ) (end : ℕ) → Nowhere (Passes (is_byte byte) bytes) 0 end
    → HasNo byte (take end bytes)
none_before byte [] zero nowhere = tt
none_before byte [] (suc end) nowhere = tt
none_before byte (first ∷ bytes) zero nowhere = tt
none_before byte (first ∷ bytes) (suc end) nowhere = (
  λ is. nowhere 0 (omega arith) (omega arith) (eq-eqb first byte is),
  none_before byte bytes end (λ k low high passes. nowhere (suc k) (omega arith) (omega arith) passes),
)

pub none_at_all : (byte : ℕ) (bytes : List ℕ) → Nowhere (Passes (is_byte byte) bytes) 0 (length bytes)
    → HasNo byte bytes
none_at_all byte bytes nowhere = subst (HasNo byte) (take_all (length bytes) bytes (omega arith))
    (none_before byte bytes (length bytes) nowhere)

same_byte : (a b : ℕ) → nat_eq a b ≡ true → a ≡ b
same_byte a b same = grind (arith, nat_tests)

-- what stands behind a place, as a slice is written
abbrev pub behind : ℕ → List ℕ → List ℕ
behind end bytes = take (length bytes - (end + 1)) (drop (end + 1) bytes)

-- what stands before it, it, and what stands behind it
pub parts_at : (byte : ℕ) (bytes : List ℕ) (end : ℕ) → end < length bytes → Passes (is_byte byte) bytes end
    → bytes ≡ take end bytes ++ byte ∷ behind end bytes
parts_at byte bytes end within passes =
    let next : end + 1 ≡ suc end = omega arith in
    let here : get_or bytes end 0 ≡ byte = same_byte (get_or bytes end 0) byte passes in
    let rest : behind end bytes ≡ drop (suc end) bytes = take_all (length bytes - (end + 1)) (drop (end + 1) bytes)
    (omega (arith, length-drop (end + 1) bytes)) ∙ ap (λ k. drop k bytes) next in
    sym (take-append-drop end bytes) ∙ ap (λ b. take end bytes ++ b)
    (drop-cons bytes end 0 within ∙ ap (λ b. b ∷ drop (suc end) bytes) here ∙ ap (λ b. byte ∷ b) (sym rest))
