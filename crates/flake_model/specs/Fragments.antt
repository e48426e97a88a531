-- The fragments of a value: its bytes cut after each 4,096.
use Rattle.std.specs.Prelude.{ℕ, zero, suc, ◌+◌, ◌/◌, List, [], ◌∷◌, length, take, drop}

-- the most bytes of one fragment
abbrev pub fragment_limit : ℕ
fragment_limit = 4096

-- bytes cut after each 4,096, by at most so many cuts
abbrev pub cuts : ℕ → List ℕ → List (List ℕ)
cuts zero bytes = []
cuts (suc more) [] = []
cuts (suc more) (byte ∷ bytes) = take fragment_limit (byte ∷ bytes) ∷ cuts more (drop fragment_limit (byte ∷ bytes))

-- a value's fragments: its bytes, cut after each 4,096; the last may be shorter, and none is empty
abbrev pub fragments_of : List ℕ → List (List ℕ)
fragments_of bytes = cuts (length bytes) bytes

-- so many fragments has a value of n bytes
abbrev pub fragment_count : ℕ → ℕ
fragment_count n = (n + 4095) / fragment_limit

-- the fragments that have as many bytes as fit
abbrev pub full_fragments : List ℕ → ℕ
full_fragments bytes = length bytes / fragment_limit
