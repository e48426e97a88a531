-- The line that begins an array or a word, as far as it came.
use Rattle.std.specs.Prelude.{◌≡◌, ℕ, ◌≤◌, List, [], ◌∷◌, ◌++◌, length, ⊤}
use Rattle.std.specs.Fmt.{decimal}
use Rattle.resp_reader.specs.declared.head.Head.{Head}
use Rattle.resp_reader.specs.declared.head.Head.TheVariants.{Count, Length}
use Rattle.resp_reader.specs.declared.head.Digits.{Digits}
use Rattle.resp_reader.specs.declared.head.Digits.TheVariants.{Nothing, Number, Minus, MinusOne}
use Rattle.flake_model.specs.Fronts.{NoNumber, NoNull}

abbrev pub number_limit : Head → ℕ
number_limit Count = 1024
number_limit Length = 1048576

-- what came behind the mark
abbrev pub digits_text : Digits → List ℕ
digits_text Nothing = []
digits_text (Number n) = decimal n
digits_text Minus = 45 ∷ []
digits_text MinusOne = 45 ∷ 49 ∷ []

-- only a count may be -1
abbrev pub IsDigits : Head → Digits → Type 0
IsDigits head Nothing = ⊤
IsDigits head (Number n) = n ≤ number_limit head
IsDigits Count Minus = ⊤
IsDigits Count MinusOne = ⊤
IsDigits Length Minus = ⊥
IsDigits Length MinusOne = ⊥

-- the line may end here
abbrev pub MayEnd : Digits → Type 0
MayEnd Nothing = ⊥
MayEnd (Number n) = ⊤
MayEnd Minus = ⊥
MayEnd MinusOne = ⊤

-- no line of the head has this front and this byte behind it
abbrev pub NoLine : Head → List ℕ → ℕ → Type 0
NoLine Count line byte = NoNumber 1024 line byte × NoNull line byte
NoLine Length line byte = NoNumber 1048576 line byte

-- what of the bytes came before the first that the line can't have, at this place
pub record LineFault (head : Head) (digits : Digits) (bytes : List ℕ) (place : ℕ) : Type 0 where
  pub now : Digits
  pub front : List ℕ
  pub byte : ℕ
  pub more : List ℕ
  pub allowed : IsDigits head now
  pub bytes_are : bytes ≡ front ++ byte ∷ more
  pub place_is : place ≡ length front
  pub now_is : digits_text now ≡ digits_text digits ++ front
  pub refused : NoLine head (digits_text now) byte
