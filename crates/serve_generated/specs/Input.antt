-- A source in memory, of which no read fails.
use Rattle.std.specs.Prelude.{◌≡◌, ℕ, Bool, true, false, List, [], ◌++◌}
use Rattle.std.proofs.Common.{refl, sym, true≢false}

pub record InputState : Type 0 where
  -- the bytes that reads gave, and those behind them
  pub given : List ℕ
  pub left : List ℕ
  -- whether the last read gave none
  pub ended : Bool

-- what is still to come: nothing behind a read that gave none
abbrev pub to_come : Bool → List ℕ → List ℕ
to_come true left = []
to_come false left = left

pub none_to_come : (ended : Bool) (left : List ℕ) → ended ≡ true → to_come ended left ≡ []
none_to_come true left is = refl
none_to_come false left is = absurd (true≢false (sym is))

-- all bytes of the input
abbrev pub bytes_held : InputState → List ℕ
bytes_held input = input.given ++ to_come input.ended input.left

-- an input that wasn't read yet
abbrev pub new_input : List ℕ → InputState
new_input bytes = record { given = []; left = bytes; ended = false }

-- it wasn't opened under a name
abbrev pub no_name : InputState → List ℕ
no_name input = []
