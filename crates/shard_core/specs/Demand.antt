-- How many buffers of a class a part may claim.
use Rattle.std.specs.Prelude.{ℕ, ◌+◌, ◌/◌, List, [], ◌∷◌, length}
use Rattle.pin_core.specs.declared.class.Class.{Class}
use Rattle.pin_core.specs.declared.class.Class.TheVariants.{Small, Large}
use Rattle.flake_model.specs.Store.{Operation, get, set, append, del, exists, str_len, get_range}
use Rattle.frag_value.specs.Fragments.{frag_limit, stored_fragments, fragments_in}

-- The fragments behind the full ones of any value, with bytes behind it: at most one is small, and the partial one that
-- is written anew has up to 4,095 bytes.
abbrev pub append_row : Class → List ℕ → ℕ
append_row class [] = 0
append_row Small (byte ∷ bytes) = 1
append_row Large (byte ∷ bytes) = (4095 + length (byte ∷ bytes) + 4095) / frag_limit

abbrev pub part_row : Class → Operation → ℕ
part_row class (get key) = 0
part_row class (set when asks key bytes) = fragments_in class (stored_fragments bytes)
part_row class (append key bytes) = append_row class bytes
part_row class (del key) = 0
part_row class (exists key) = 0
part_row class (str_len key) = 0
part_row class (get_range key first last) = 0
