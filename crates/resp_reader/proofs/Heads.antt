-- The lines that begin arrays and words, byte by byte.
use Rattle.std.proofs.Common.{◌≡◌, ◌≢◌, ℕ, ◌+◌, ◌-◌, ◌*◌, ◌<◌, ◌≤◌, ◌^◌, ◌⊎◌, inl, inr, suc, true, nat_eq, get_or, take}
use Rattle.std.proofs.Common.{drop, List, [], ◌∷◌, ◌++◌, length, arith, ap, sym, ◌∙◌, subst, append_assoc, lit<, lit≤}
use Rattle.std.specs.Fmt.{decimal}
use Rattle.std.specs.Char.{digit_value}
use Rattle.std.specs.Str.Parse.{AllDigits, digits_value}
use Rattle.std.proofs.Math.Seq.{drop-cons}
use Rattle.std.proofs.lemmas.List.{take-append-drop, length-take-le}
use Rattle.std.proofs.lemmas.Bool.{cases_lt}
use Rattle.std.proofs.lemmas.Bool.Decides.{nat_tests}
use Rattle.std.proofs.lemmas.Str.Parse.{digit_from_value}
use Rattle.std.proofs.lemmas.Fmt.{decimal_is_IsNumeral, decimal_digit}
use Rattle.flake_model.specs.Fronts.{NoNumber, NoNull}
use Rattle.flake_model.proofs.Decimals.{digits_value-push}
use Rattle.flake_model.proofs.Digits.{not_a_digit, no_digits, behind_zero, too_large, no_minus}
use Rattle.flake_model.proofs.Fronts.{not_null_mark, not_null_one, not_null_line_end, not_null_digits}
use Rattle.resp_reader.specs.declared.head.Head.{Head}
use Rattle.resp_reader.specs.declared.head.Head.TheVariants.{Count, Length}
use Rattle.resp_reader.specs.declared.head.Digits.{Digits}
use Rattle.resp_reader.specs.declared.head.Digits.TheVariants.{Nothing, Minus, MinusOne}
use Rattle.resp_reader.specs.Head.{number_limit, digits_text, IsDigits, NoLine, LineFault}

-- what isn't a digit has no value as one
pub no_digit : (byte : ℕ) → ((digit : ℕ) → digit < 10 → byte ≢ 48 + digit) → 10 ≤ digit_value byte
no_digit byte other = elim (cases_lt (digit_value byte) 10) [
  | inl small ↦ (let range = digit_from_value byte small in
      absurd (other (byte - 48) (omega (arith, range)) (omega (arith, range))))
  | inr large ↦ large
]

digit_is : (digit : ℕ) → digit < 10 → digit_value (48 + digit) ≡ digit
digit_is digit small = grind (arith, nat_tests)

small_limit : (head : Head) → number_limit head < 2 ^ 64
small_limit Count = lit< tt
small_limit Length = lit< tt

-- a line that goes on neither as a number nor as the null array
no_line : (head : Head) (line : List ℕ) (byte : ℕ) → NoNumber (number_limit head) line byte → NoNull line byte
    → NoLine head line byte
no_line Count line byte no_number no_null = (no_number, no_null)
no_line Length line byte no_number no_null = no_number

pub minus_in_length : NoLine Length [] 45
minus_in_length = not_a_digit 1048576 [] 45 (lit< tt) tt (omega arith) (lit≤ tt)

pub no_first : (head : Head) (byte : ℕ) → byte ≢ 13 → byte ≢ 45 → ((digit : ℕ) → digit < 10 → byte ≢ 48 + digit)
    → NoLine head [] byte
no_first head byte inside no_mark other =
    no_line head [] byte (not_a_digit (number_limit head) [] byte (small_limit head) tt inside (no_digit byte other))
    (not_null_mark byte no_mark)

pub some_digits : (n : ℕ) → n < 2 ^ 64 → (0 < length (decimal n)) × AllDigits 10 (decimal n)
some_digits n small = (decimal_is_IsNumeral n small).0

pub no_more : (head : Head) (n byte : ℕ) → n ≤ number_limit head → byte ≢ 13
    → ((digit : ℕ) → digit < 10 → byte ≢ 48 + digit) → NoLine head (decimal n) byte
no_more head n byte small inside other =
    let within : n < 2 ^ 64 = omega (arith, small_limit head) in
    no_line head (decimal n) byte
    (not_a_digit (number_limit head) (decimal n) byte (small_limit head) (some_digits n within).1 inside
    (no_digit byte other))
    (not_null_digits (decimal n) byte (some_digits n within).0 (some_digits n within).1)

pub behind_first_zero : (head : Head) (byte : ℕ) → byte ≢ 13 → NoLine head (decimal 0) byte
behind_first_zero head byte inside = subst (λ line. NoLine head line byte) (sym (decimal_digit 0 (lit< tt)))
    (no_line head (48 ∷ []) byte (behind_zero (number_limit head) byte (small_limit head) inside)
    (not_null_digits (48 ∷ []) byte (lit< tt) (lit< tt, tt)))

pub past_limit : (head : Head) (n digit : ℕ) → n ≤ number_limit head → digit < 10 → number_limit head < n * 10 + digit
    → NoLine head (decimal n) (48 + digit)
past_limit head n digit small is_digit large =
    let within : n < 2 ^ 64 = omega (arith, small_limit head) in
    let value : digits_value 10 (decimal n ++ (48 + digit) ∷ []) ≡ n * 10 + digit =
    digits_value-push n (48 + digit) within ∙ ap (λ d. n * 10 + d) (digit_is digit is_digit) in
    no_line head (decimal n) (48 + digit)
    (too_large (number_limit head) (decimal n) (48 + digit) (small_limit head) (some_digits n within).1 (omega arith)
    (omega arith))
    (not_null_digits (decimal n) (48 + digit) (some_digits n within).0 (some_digits n within).1)

pub behind_minus : (head : Head) (byte : ℕ) → IsDigits head Minus → byte ≢ 49 → NoLine head (45 ∷ []) byte
behind_minus Count byte allowed other = (no_minus 1024 [] byte (lit< tt), not_null_one byte other)
behind_minus Length byte allowed other = absurd allowed

pub behind_minus_one : (head : Head) (byte : ℕ) → IsDigits head MinusOne → byte ≢ 13 → NoLine head (45 ∷ 49 ∷ []) byte
behind_minus_one Count byte allowed inside = (no_minus 1024 (49 ∷ []) byte (lit< tt), not_null_line_end byte inside)
behind_minus_one Length byte allowed inside = absurd allowed

-- the line can't end before its digits
pub no_end_yet : (head : Head) → NoLine head [] 13
no_end_yet head = no_line head [] 13 (no_digits (number_limit head) (small_limit head)) (not_null_mark 13 (omega arith))

pub no_end_at_minus : (head : Head) → IsDigits head Minus → NoLine head (45 ∷ []) 13
no_end_at_minus head allowed = behind_minus head 13 allowed (omega arith)

-- a byte that the line can't have, with more bytes behind
pub fault_in_front : (head : Head) (digits : Digits) (bytes front rest : List ℕ) (place : ℕ) → bytes ≡ front ++ rest
    → LineFault head digits front place → LineFault head digits bytes place
fault_in_front head digits bytes front rest place is fault = record {
  now = fault.now;
  front = fault.front;
  byte = fault.byte;
  more = fault.more ++ rest;
  allowed = fault.allowed;
  bytes_are = is ∙ ap (λ b. b ++ rest) fault.bytes_are ∙ append_assoc fault.front (fault.byte ∷ fault.more) rest;
  place_is = fault.place_is;
  now_is = fault.now_is;
  refused = fault.refused;
}

-- a byte behind those that the line has
pub fault_behind : (head : Head) (digits now : Digits) (bytes : List ℕ) (place byte : ℕ) (front more : List ℕ)
    → IsDigits head now → bytes ≡ front ++ byte ∷ more → place ≡ length front
    → digits_text now ≡ digits_text digits ++ front → NoLine head (digits_text now) byte
    → LineFault head digits bytes place
fault_behind head digits now bytes place byte front more allowed bytes_are place_is now_is refused = record {
  now = now;
  front = front;
  byte = byte;
  more = more;
  allowed = allowed;
  bytes_are = bytes_are;
  place_is = place_is;
  now_is = now_is;
  refused = refused;
}

-- a byte at a place, where the line has those before it
pub fault_at : (head : Head) (digits now : Digits) (bytes : List ℕ) (place : ℕ) → IsDigits head now
    → place < length bytes → digits_text now ≡ digits_text digits ++ take place bytes
    → NoLine head (digits_text now) (get_or bytes place 0) → LineFault head digits bytes place
fault_at head digits now bytes place allowed below now_is refused =
    fault_behind head digits now bytes place (get_or bytes place 0) (take place bytes) (drop (suc place) bytes) allowed
    (sym (take-append-drop place bytes) ∙ ap (λ rest. take place bytes ++ rest) (drop-cons bytes place 0 below))
    (sym (length-take-le place bytes (omega arith))) now_is refused

-- a CR where the line has no number yet
pub no_number_yet : (head : Head) (now : Digits) → IsDigits head now → (now ≡ Nothing) ⊎ (now ≡ Minus)
    → NoLine head (digits_text now) 13
no_number_yet head now allowed (inl nothing) = subst (λ d. NoLine head (digits_text d) 13) (sym nothing)
    (no_end_yet head)
no_number_yet head now allowed (inr minus) = subst (λ d. NoLine head (digits_text d) 13) (sym minus)
    (no_end_at_minus head (subst (IsDigits head) minus allowed))

pub byte_is : (a b : ℕ) → nat_eq a b ≡ true → a ≡ b
byte_is a b same = grind (arith, nat_tests)
