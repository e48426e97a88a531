-- Sizes that every layer keeps to.
use Rattle.std.specs.Prelude.{ℕ}

-- the most bytes of a value
abbrev pub value_limit : ℕ
value_limit = 65536
