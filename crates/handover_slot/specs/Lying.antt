-- The rule of a place: one word, which says where its value is, and one slot.
use Rattle.std.specs.Prelude.{◌≡◌, ℕ, List, [], ◌∷◌, Option, None, Some, length, slice_index}
use mathlib.Core.Option as home
use lib.ListN.{get_elem?}
use Rattle.atomic_table.specs.Table.{Me}
use Rattle.atomic_table.specs.Seated.{TableId}

module _ {T : Type 0} where
  -- where the word is 0 the slot is at home and empty, and where it is 2 it is at home with a value that fits
  pub record IsKept (fits : T → Type 0) (words : List ℕ) (homes : List (home.Option (Option T))) : Type 0 where
    pub one : length words ≡ 1
    pub empty : slice_index words 0 ≡ 0 → get_elem? homes 0 ≡ home.some (home.some None)
    pub full : slice_index words 0 ≡ 2
        → (value : T) × (get_elem? homes 0 ≡ home.some (home.some (Some value))) × fits value

  module _ {V : Type 0} where
    -- the slot is out, with this in it
    abbrev pub HasOnly : Option T → Me (Option T) V → Type 0
    HasOnly held me = me.1 ≡ (0, held) ∷ []

    -- where the word was found to be as it was expected, the slot was at home, and is out now
    pub record Takes (fits : T → Type 0) (expected found : ℕ) (after : Me (Option T) V) : Type 0 where
      pub empty : found ≡ expected → expected ≡ 0 → HasOnly None after
      pub full : found ≡ expected → expected ≡ 2 → (value : T) × HasOnly (Some value) after × fits value

    -- the seat of this table has the slot
    pub record IsLoan (table seated : TableId) (me : Me (Option T) V) : Type 0 where
      pub words : table.words ≡ 1
      pub slots : table.slots ≡ 1
      pub fits : seated ≡ table
      pub held : Option T
      pub only : HasOnly held me
