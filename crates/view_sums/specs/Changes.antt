-- What a change of one or two views does to a sum.
use Rattle.std.specs.Prelude.{◌≡◌, ◌≢◌, ℕ, ◌+◌, List, [], ◌∷◌, ◌++◌, slice_set}
use mathlib.Core.Option.{some}
use lib.ListN.{get_elem?}
use Rattle.view_sums.specs.Total.{total}

abbrev pub OneChanged : Type 0 → Type 0
OneChanged V = (weight : V → ℕ) (views : List V) (seat : ℕ) (old new : V) → get_elem? views seat ≡ some old
    → total weight (slice_set views seat new) + weight old ≡ total weight views + weight new

abbrev pub TwoChanged : Type 0 → Type 0
TwoChanged V =
    (weight : V → ℕ) (views : List V) (seat other : ℕ) (old old' new new' : V) → other ≢ seat
    → get_elem? views seat ≡ some old → get_elem? views other ≡ some old'
    → total weight (slice_set (slice_set views seat new) other new') + (weight old + weight old')
    ≡ total weight views + (weight new + weight new')

abbrev pub OneAdded : Type 0 → Type 0
OneAdded V =
    (weight : V → ℕ) (views : List V) (seat : ℕ) (old new added : V) → get_elem? views seat ≡ some old
    → total weight (slice_set views seat new ++ added ∷ []) + weight old
    ≡ total weight views + (weight new + weight added)
