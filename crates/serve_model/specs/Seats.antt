-- What seats of the pool have together, and what a session's seat has at its end.
use Rattle.std.specs.Prelude.{◌≡◌, ℕ, ◌≤◌, List, [], ◌∷◌, ⊤}
use Rattle.view_sums.specs.Total.{total, SameItems}
use Rattle.pin_core.specs.Holding.{Holding}
use Rattle.pin_core.specs.declared.class.Class.{Class}
use Rattle.pin_core.specs.declared.sizes.Sizes.{Sizes}
use Rattle.pinned_pool.specs.Moves.{joined_views}
use Rattle.pinned_pool.specs.Sought.{Sought}
use Rattle.pinned_pool.specs.Views.{nobody, looked_at}
use Rattle.pinned_pool.specs.declared.view.View.{View}
use Rattle.shard_core.specs.Stock.{IsIdle}
use Rattle.serve_model.specs.Demand.{session_row}
use Rattle.serve_model.specs.Misses.{SoughtByRun}
use Rattle.serve_model.specs.Runs.{Run, calls_pins}

-- the seat has what these seats have together
pub record HasAll (seats : List View) (all : View) : Type 0 where
  pub holds : (weight : Holding → ℕ) → total weight all.holds ≡ total (λ (v : View). total weight v.holds) seats
  pub credits : all.credits ≡ total (λ (v : View). v.credits) seats
  pub claims : (weight : ℕ → ℕ) → total weight all.claims ≡ total (λ (v : View). total weight v.claims) seats
  pub looks : (b : ℕ) → looked_at b all.looks ≡ total (λ (v : View). looked_at b v.looks) seats
  pub returns : all.returns ≡ total (λ (v : View). v.returns) seats

-- a join adds a seat
abbrev pub JoinsAdd : Type 0
JoinsAdd = (seats : List View) (all seat : View) → HasAll seats all → HasAll (seat ∷ seats) (joined_views all seat)

-- a seat has what it has
abbrev pub OneSeat : Type 0
OneSeat = (seat : View) → HasAll (seat ∷ []) seat

-- in whatever order
abbrev pub AnyOrder : Type 0
AnyOrder = (seats others : List View) (all : View) → HasAll seats all → SameItems seats others → HasAll others all

-- from a seat that never claimed it is as from no seat
abbrev pub IdleStarts : Type 0
IdleStarts = (z : Sizes) (rows : Class → ℕ) (requests : ℕ) (idle seat : View) → IsIdle idle
    → Sought z rows requests idle seat → Sought z rows requests nobody seat

-- a seat that never claimed, and holds nothing
pub record IsSpare (seat : View) : Type 0 where
  pub holds : seat.holds ≡ []
  pub idle : IsIdle seat

-- A session's seat at its end: within the rows of its stage and its commands, and with a pinned hold given back for
-- each piece of its answers that has the threshold's bytes.
pub record IsSpentSeat (z : Sizes) (threshold : ℕ) (run : Run) (seat : View) : Type 0 where
  pub holds : seat.holds ≡ []
  pub sought : SoughtByRun z (λ (class : Class). session_row class run.commands) run nobody seat
  pub returned : calls_pins threshold run.commands run.calls ≤ seat.returns

-- each session has its seat
abbrev pub AreSpentSeats : Sizes → ℕ → List Run → List View → Type 0
AreSpentSeats z threshold [] [] = ⊤
AreSpentSeats z threshold [] (seat ∷ seats) = ⊥
AreSpentSeats z threshold (run ∷ runs) [] = ⊥
AreSpentSeats z threshold (run ∷ runs) (seat ∷ seats) =
    IsSpentSeat z threshold run seat × AreSpentSeats z threshold runs seats
