-- What the sessions of a run hand up, one by one and together.
use Rattle.std.specs.Prelude.{◌≡◌, ℕ, ◌+◌, Bool, List, [], ◌∷◌, ◌++◌, map, ⊤}
use Rattle.view_sums.specs.Total.{Each}
use Rattle.flake_base.specs.declared.session.SessionEnd.{SessionEnd}
use Rattle.pin_core.specs.declared.sizes.Sizes.{Sizes}
use Rattle.pinned_pool.specs.Ends.{LooksClaimed}
use Rattle.pinned_pool.specs.Named.{ClaimsAreNearby}
use Rattle.pinned_pool.specs.Views.{IsLoose}
use Rattle.pinned_pool.specs.declared.view.View.{View}
use Rattle.flake_model.specs.Session.{Session, IsSession}
use Rattle.order_book.specs.Pages.{SessionList}
use Rattle.serve_model.specs.Runs.{Run, IsRun, run_texts, session_of, list_of, lists_told}
use Rattle.serve_model.specs.Seats.{HasAll, IsSpare, IsSpentSeat, AreSpentSeats}

-- One session ran, on these bytes: its end, its list, its seat, and the texts of its replies.
pub record SessionHasRun (z : Sizes) (threshold shards session : ℕ) (given : List ℕ) (ended : Bool)
    (end : SessionEnd) (list : SessionList) (seat : View) (texts : List (List ℕ)) : Type 0 where
  pub run : Run
  pub is_run : IsRun run
  pub is_session : IsSession (session_of given ended run)
  pub end_is : end ≡ run.end
  pub list_is : list ≡ list_of shards session run
  pub seat_is : IsSpentSeat z threshold run seat
  pub texts_are : texts ≡ run_texts run

-- what comes of one session: what its source gave, its end, its list, its seat, and its replies' texts
pub record OneRun : Type 0 where
  pub given : List ℕ
  pub ended : Bool
  pub end : SessionEnd
  pub list : SessionList
  pub seat : View
  pub texts : List (List ℕ)

-- each session ran, from a number on
abbrev pub AllRun : Sizes → ℕ → ℕ → ℕ → List OneRun → Type 0
AllRun z threshold shards session [] = ⊤
AllRun z threshold shards session (one ∷ others) =
    SessionHasRun z threshold shards session one.given one.ended one.end one.list one.seat one.texts
    × AllRun z threshold shards (session + 1) others

-- the run of one session, with what its source gave, and whether it gave none at last
pub record SessionRun : Type 0 where
  pub given : List ℕ
  pub ended : Bool
  pub run : Run

abbrev pub session_in : SessionRun → Session
session_in ran = session_of ran.given ran.ended ran.run

abbrev pub runs_in : List SessionRun → List Run
runs_in all = map (λ (ran : SessionRun). ran.run) all

-- All sessions were served, by what each of them did.
pub record AreServed (z : Sizes) (threshold shards : ℕ) (givens : List (List ℕ)) (endeds : List Bool)
    (ends : List SessionEnd) (sessions : List SessionList) (seats : List View) : Type 0 where
  pub all : List SessionRun
  pub givens_are : givens ≡ map (λ (ran : SessionRun). ran.given) all
  pub endeds_are : endeds ≡ map (λ (ran : SessionRun). ran.ended) all
  pub ends_are : ends ≡ map (λ (ran : SessionRun). ran.run.end) all
  pub sessions_are : Each (λ (ran : SessionRun). IsSession (session_in ran)) all
  pub runs_are : Each IsRun (runs_in all)
  pub told : sessions ≡ lists_told shards 0 (runs_in all)
  pub seats_are : AreSpentSeats z threshold (runs_in all) seats

-- The last seat of a pool: that of the store, those of the sessions, and others that never claimed and hold nothing.
pub record IsLastSeat (z : Sizes) (store : View) (spare seats : List View) (last : View) : Type 0 where
  pub all : HasAll (store ∷ spare ++ seats) last
  pub spare_is : Each IsSpare spare
  -- what closing the pool says
  pub loose : IsLoose last
  pub looked : LooksClaimed last
  pub nearby : ClaimsAreNearby z last
