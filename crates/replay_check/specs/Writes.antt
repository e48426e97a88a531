-- The parts that may have no entry.
use Rattle.std.specs.Prelude.{Bool, true, false}
use Rattle.flake_model.specs.Store.{Operation, set, append}

abbrev pub writes : Operation → Bool
writes (set when asks key bytes) = true
writes (append key bytes) = true
writes operation = false
