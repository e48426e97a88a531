-- Keys are compared by their bytes.
use Rattle.std.specs.Prelude.{ℕ, Bool, List, nat_eq}
use Rattle.std.specs.Global.{Vec}
use Rattle.std.specs.Cmp.Lexicographic.{pointwise}

abbrev pub same_bytes : List ℕ → List ℕ → Bool
same_bytes = pointwise nat_eq

abbrev pub key_eq : Vec ℕ → Vec ℕ → Bool
key_eq x y = same_bytes x.items y.items

-- whether a stored key has these bytes
abbrev pub is_key : List ℕ → Vec ℕ → Bool
is_key key k = same_bytes key k.items
