-- A wire that keeps only a count.
use Rattle.std.specs.Prelude.{ℕ, ◌-◌, ◌^◌, min, List, length}

-- how many bytes these are: the count stands still at the last value of a `u64`
abbrev pub shown_count : List ℕ → ℕ
shown_count bytes = min (length bytes) (2 ^ 64 - 1)
