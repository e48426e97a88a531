-- Lengths that are counted in 64 bits.
use Rattle.std.specs.Prelude.{ℕ, ◌-◌, ◌^◌, min}

-- a length, or the last value where it is greater
abbrev pub fitted : ℕ → ℕ
fitted n = min n (2 ^ 64 - 1)
