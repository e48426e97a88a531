-- The lines of a text.
use Rattle.std.specs.Prelude.{ℕ, ◌==◌, if◌then◌else◌, List, [], ◌∷◌, ◌++◌}
use Rattle.std.specs.List.{flat_map}

-- a byte at the front of the first line; of a text that has no line yet it is one
abbrev pub with_line_byte : ℕ → List (List ℕ) → List (List ℕ)
with_line_byte byte [] = (byte ∷ []) ∷ []
with_line_byte byte (line ∷ lines) = (byte ∷ line) ∷ lines

-- Each line ends in LF, which the last one may lack. An empty text has no lines.
abbrev pub lines_of : List ℕ → List (List ℕ)
lines_of [] = []
lines_of (byte ∷ bytes) = if byte == 10 then [] ∷ lines_of bytes else with_line_byte byte (lines_of bytes)

-- lines end to end, each with its LF
abbrev pub joined_lines : List (List ℕ) → List ℕ
joined_lines lines = flat_map (λ line. line ++ 10 ∷ []) lines
