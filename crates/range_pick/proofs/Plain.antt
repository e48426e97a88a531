-- The number of a plain decimal, digit by digit.
use Rattle.std.proofs.Common.{◌≡◌, ◌∙◌, sym, ap, ℕ, ◌+◌, ◌-◌, ◌*◌, ◌<◌, ◌≤◌, ◌^◌, List, [], ◌∷◌, length, take, drop}
use Rattle.std.proofs.Common.{get_or, Bool, true, false, if◌then◌else◌, Some, None, arith, refl, lit<}
use Rattle.std.specs.List.{fold}
use Rattle.std.specs.Fmt.{decimal}
use Rattle.std.specs.Str.{bytes_eq}
use Rattle.std.proofs.lemmas.List.{take-append-drop}
use Rattle.std.proofs.lemmas.List.Sums.{fold_more, fold-append}
use Rattle.std.specs.Option.{option_and_then}
use Rattle.std.specs.Prelude.{◌==◌}
use Rattle.std.proofs.lemmas.Fmt.{decimal_digit}
use Rattle.std.proofs.lemmas.Bool.Decides.{nat_tests}
use Rattle.flake_model.specs.Range.{number_of, plain_of, positive_of, negative_of, signed_of}

abbrev pub with_digit : ℕ → ℕ → ℕ
with_digit n digit = n * 10 + (digit - 48)

-- one digit more
pub number_more : (word : List ℕ) (i : ℕ) → i < length word → number_of (take (i + 1) word)
    ≡ number_of (take i word) * 10 + (get_or word i 0 - 48)
number_more word i within = fold_more with_digit 0 word i 0 within

grows : (n : ℕ) (word : List ℕ) → n ≤ fold with_digit n word
grows n [] = omega arith
grows n (digit ∷ word) = omega (arith, grows (with_digit n digit) word)

-- more digits make no smaller number
at_least : (word : List ℕ) (i : ℕ) → number_of (take i word) ≤ number_of word
at_least word i =
    let whole : number_of word ≡ fold with_digit (number_of (take i word)) (drop i word) =
    ap number_of (sym (take-append-drop i word)) ∙ fold-append with_digit 0 (take i word) (drop i word) in
    omega (arith, grows (number_of (take i word)) (drop i word))

-- a plain decimal is the number of its digits
plain_number : (word : List ℕ) (number : ℕ) → plain_of word ≡ Some number → number ≡ number_of word
plain_number word number is = by_test (bytes_eq (decimal (number_of word)) word) is where
  by_test : (same : Bool) → (if same then Some (number_of word) else None) ≡ Some number → number ≡ number_of word
  by_test true is = cc
  by_test false is = absurd (cc)

-- digits of which the first ones are too many for 64 bits
pub too_large : (word : List ℕ) (i : ℕ) → 2 ^ 64 ≤ number_of (take i word) → (number : ℕ) → plain_of word ≡ Some number
    → 2 ^ 64 ≤ number
too_large word i large number is = omega (arith, at_least word i, plain_number word number is)

-- the number of 64 bits that the digits so far and one more would make isn't one
pub no_more : (word : List ℕ) (i n : ℕ) → i < length word → n ≡ number_of (take i word)
    → 2 ^ 64 ≤ n * 10 + (get_or word i 0 - 48) → (number : ℕ) → plain_of word ≡ Some number → 2 ^ 64 ≤ number
no_more word i n within is large = too_large word (i + 1) (omega (arith, number_more word i within))

minus_test : (byte : ℕ) (begins : Bool) → bytes_eq (byte ∷ []) (45 ∷ []) ≡ begins → (byte == 45) ≡ begins
minus_test byte true is = grind (arith, nat_tests)
minus_test byte false is = grind (arith, nat_tests)

-- a word that begins with a `-`, and one that doesn't
pub with_minus : (word : List ℕ) → bytes_eq (take 1 word) (45 ∷ []) ≡ true → signed_of word
    ≡ option_and_then negative_of (plain_of (drop 1 word))
with_minus [] begins = absurd (cc)
with_minus (byte ∷ word) begins = let test = minus_test byte true begins in rw test refl

pub without_minus : (word : List ℕ) → bytes_eq (take 1 word) (45 ∷ []) ≡ false → signed_of word
    ≡ option_and_then positive_of (plain_of word)
without_minus [] begins = let zero_text = decimal_digit 0 (lit< tt) in rw zero_text refl
without_minus (byte ∷ word) begins = let test = minus_test byte false begins in rw test refl
