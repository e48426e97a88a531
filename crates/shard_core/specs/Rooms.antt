-- Room in which the values of a map are pinned.
use Rattle.std.specs.Prelude.{◌≡◌, ℕ, ◌≤◌, List, [], ◌∷◌, length, map, ⊤}
use Rattle.std.specs.Global.{Vec}
use Rattle.frag_value.specs.Values.{Frags}
use Rattle.frag_value.specs.Pins.{KeyFrags}
use Rattle.shard_core.specs.Kept.{Entries}

-- the keys' bytes with the values' fragments
abbrev pub key_frags : Entries → List KeyFrags
key_frags entries = map (λ (e : Vec ℕ × Frags). (e.0.items, e.1)) entries

-- a room, seen as a key and how many fragments fit, for each entry
abbrev pub FitRooms : List (List ℕ × ℕ) → Entries → Type 0
FitRooms [] [] = ⊤
FitRooms [] (e ∷ es) = ⊥
FitRooms (r ∷ rs) [] = ⊥
FitRooms (r ∷ rs) (e ∷ es) = (r.0 ≡ e.0.items) × (length e.1 ≤ r.1) × FitRooms rs es
