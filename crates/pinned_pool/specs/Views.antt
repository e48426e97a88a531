-- What a seat knows, and what all seats have together.
use Rattle.std.specs.Prelude.{◌≡◌, ℕ, ◌≤◌, List, []}
use Rattle.view_sums.specs.Total.{total, same, Each}
use Rattle.pin_core.specs.Holding.{Holding, loose_at}
use Rattle.pinned_pool.specs.declared.view.View.{View}

abbrev pub view : List Holding → ℕ → List ℕ → List (ℕ × ℕ) → ℕ → List ℕ → View
view holds credits claims looks returns lasts =
    record { holds = holds; credits = credits; claims = claims; looks = looks; returns = returns; lasts = lasts }

-- a spent seat has nothing
abbrev pub nobody : View
nobody = view [] 0 [] [] 0 []

-- the first seat has all credits
abbrev pub opener : ℕ → View
opener credits = view [] credits [] [] 0 []

-- how often the buffer stands in a list, and in a list of looks
abbrev pub among : ℕ → List ℕ → ℕ
among b bs = total (λ c. same c b) bs

abbrev pub looked_at : ℕ → List (ℕ × ℕ) → ℕ
looked_at b looks = total (λ (l : ℕ × ℕ). same l.0 b) looks

-- the weight of the holds of all seats
abbrev pub all_holds : (Holding → ℕ) → List View → ℕ
all_holds weight views = total (λ (v : View). total weight v.holds) views

-- how often the buffer was won, was found held, and had its last hold given back
abbrev pub all_claims : ℕ → List View → ℕ
all_claims b views = total (λ (v : View). among b v.claims) views

abbrev pub all_looks : ℕ → List View → ℕ
all_looks b views = total (λ (v : View). looked_at b v.looks) views

abbrev pub all_lasts : ℕ → List View → ℕ
all_lasts b views = total (λ (v : View). among b v.lasts) views

-- of each buffer one hold at most is not pinned
abbrev pub IsLoose : View → Type 0
IsLoose v = (b : ℕ) → total (loose_at b) v.holds ≤ 1

-- all holds of one buffer have the same front
abbrev pub OneFront : View → Type 0
OneFront v = (fronts : ℕ → List ℕ) × Each (λ (h : Holding). h.front ≡ fronts h.buffer) v.holds
