-- What stands in a plain decimal.
use Rattle.std.proofs.Common.{◌≡◌, ◌≢◌, ◌∙◌, sym, ap, subst, ℕ, suc, ◌+◌, ◌*◌, ◌<◌, ◌≤◌, ◌^◌, List, [], ◌∷◌, ◌++◌}
use Rattle.std.proofs.Common.{arith, append_assoc, lit<, length, take, drop, get_or}
use Rattle.std.proofs.Math.Seq.{drop-cons}
use Rattle.std.proofs.lemmas.List.{take-append-drop, take_all}
use Rattle.std.specs.Fmt.{decimal}
use Rattle.std.specs.Char.{digit_value}
use Rattle.std.specs.Str.Parse.{AllDigits, digits_value}
use Rattle.std.proofs.lemmas.Bool.Decides.{nat_tests}
use Rattle.std.proofs.lemmas.Fmt.{decimal_digit}
use Rattle.flake_model.specs.Fronts.{NoNumber}
use Rattle.flake_model.proofs.Decimals.{all_digits, digits_value-push}
use Rattle.flake_model.proofs.Digits.{behind_zero, too_large}

-- what stands behind digits is a digit
front_digits : (front : List ℕ) (byte : ℕ) (more : List ℕ) → AllDigits 10 (front ++ byte ∷ more) → digit_value byte < 10
front_digits [] byte more all = all.0
front_digits (first ∷ front) byte more all = front_digits front byte more all.1

-- only digits stand in it
pub no_other_byte : (n : ℕ) (front : List ℕ) (byte : ℕ) (more : List ℕ) → 10 ≤ digit_value byte → decimal n ≡ front
    ++ byte ∷ more → ⊥
no_other_byte n front byte more other is =
    omega (arith, front_digits front byte more (subst (AllDigits 10) is (all_digits n)))

-- the same of a number and its line end
with_line_end : (limit n : ℕ) (front : List ℕ) (byte : ℕ) (more : List ℕ) → NoNumber limit front byte → n ≤ limit
    → decimal n ≡ front ++ byte ∷ more → ⊥
with_line_end limit n front byte more refused within is =
    refused n [] (more ++ 13 ∷ 10 ∷ []) within
    (ap (λ digits. digits ++ 13 ∷ 10 ∷ []) is ∙ append_assoc front (byte ∷ more) (13 ∷ 10 ∷ []))

-- no digit stands behind a first 0
pub behind_first_zero : (n byte : ℕ) (more : List ℕ) → n < 2 ^ 64 → byte ≢ 13 → decimal n ≡ decimal 0 ++ byte ∷ more → ⊥
behind_first_zero n byte more small digit is =
    with_line_end n n (48 ∷ []) byte more (behind_zero n byte small digit) (omega arith)
    (is ∙ ap (λ front. front ++ byte ∷ more) (decimal_digit 0 (lit< tt)))

digit_is : (digit : ℕ) → digit < 10 → digit_value (48 + digit) ≡ digit
digit_is digit small = grind (arith, nat_tests)

-- digits that are a larger number don't begin a smaller one
pub larger_front : (m n digit : ℕ) (more : List ℕ) → n < 2 ^ 64 → digit < 10 → m < 2 ^ 64 → m < n * 10 + digit
    → decimal m ≡ decimal n ++ (48 + digit) ∷ more → ⊥
larger_front m n digit more small is_digit small_m less is =
    let value : digits_value 10 (decimal n ++ (48 + digit) ∷ []) ≡ n * 10 + digit =
    digits_value-push n (48 + digit) small ∙ ap (λ d. n * 10 + d) (digit_is digit is_digit) in
    with_line_end m m (decimal n) (48 + digit) more
    (too_large m (decimal n) (48 + digit) small_m (all_digits n) (omega arith) (omega arith)) (omega arith) is

-- where no number goes on behind the first digits of a word, the word is none
pub no_more_at : (limit : ℕ) (word rest : List ℕ) (first n i : ℕ) → first ∷ rest ≡ word → i < length rest
    → decimal n ≡ take (i + 1) word
    → ((m : ℕ) (more : List ℕ) → m < limit → decimal m ≡ decimal n ++ get_or rest i 0 ∷ more → ⊥) → (m : ℕ) → m < limit
    → word ≡ decimal m → ⊥
no_more_at limit word rest first n i all within came refused m below is =
    let next : i + 1 ≡ suc i = omega arith in
    let behind : drop (i + 1) (first ∷ rest) ≡ get_or rest i 0 ∷ drop (suc i) rest =
    ap (λ k. drop k (first ∷ rest)) next ∙ drop-cons rest i 0 within in
    let word_is : word ≡ decimal n ++ get_or rest i 0 ∷ drop (suc i) rest =
    sym (take-append-drop (i + 1) word) ∙ ap (λ front. front ++ drop (i + 1) word) (sym came)
    ∙ ap (λ b. decimal n ++ b) (ap (drop (i + 1)) (sym all) ∙ behind) in
    refused m (drop (suc i) rest) below (sym is ∙ word_is)

-- all digits of a word
pub whole_word : (word rest : List ℕ) (first n i : ℕ) → first ∷ rest ≡ word → length rest ≤ i
    → decimal n ≡ take (i + 1) word → decimal n ≡ word
whole_word word rest first n i all end came = came ∙ take_all (i + 1) word (omega (arith, ap length all))
