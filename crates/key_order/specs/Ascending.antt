-- The entries of a map by byte strings, and when they are those of a finite map in its order.
use Rattle.std.specs.Prelude.{◌≡◌, ℕ, Bool, List, map, Option, nat_eq}
use Rattle.std.specs.Global.{Vec}
use Rattle.std.specs.Map.{lookup}
use Rattle.std.specs.Option.{option_map}
use Rattle.std.specs.Ordering.{nat_cmp}
use Rattle.std.specs.Cmp.Lexicographic.{pointwise, slice_cmp}
use Rattle.std.specs.FinMap as finite

-- whether a stored key has these bytes
abbrev pub is_stored_key : List ℕ → Vec ℕ → Bool
is_stored_key key stored = pointwise nat_eq key stored.items

-- the value at a key
abbrev pub value_for : {X : Type 0} → List ℕ → List (Vec ℕ × X) → Option X
value_for key entries = lookup (is_stored_key key) entries

-- the entries' keys, each with what its value shows
abbrev pub pairs_of : {X Y : Type 0} → (X → Y) → List (Vec ℕ × X) → List (List ℕ × Y)
pairs_of shows entries = map (λ e. (e.0.items, shows e.1)) entries

-- they are the pairs of each finite map that has the same at each key, in ascending byte order of the keys
abbrev pub IsAscending : {X : Type 0} → List (Vec ℕ × X) → Type 0
IsAscending {X} entries = (shows : X → List ℕ) (store : finite.FinMap (slice_cmp nat_cmp) (List ℕ))
    → ((key : List ℕ) → option_map shows (value_for key entries) ≡ finite.get store key)
    → pairs_of shows entries ≡ finite.entries store
