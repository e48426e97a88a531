-- A dump of all shards that a session takes between two of its calls.
use Rattle.std.specs.Prelude.{◌≡◌, ℕ, ◌+◌, ◌*◌, ◌<◌, ◌≤◌, [], Option, Some, None, Result, Ok, Err, ⊤}
use Rattle.view_sums.specs.Total.{Each}
use Rattle.pin_core.specs.Buffers.{buffers}
use Rattle.pin_core.specs.declared.sizes.Sizes.{Sizes}
use Rattle.pinned_pool.specs.declared.view.View.{View}
use Rattle.flake_model.specs.Deed.{Deed}
use Rattle.order_book.specs.Pages.{SessionList}
use Rattle.dump_model.specs.Seen.{HasSeen}
use Rattle.pin_dump.specs.Dumps.{DumpView, HasTakenHolds, IsSameSeat, KeepsDeeds}
use Rattle.session_pass.specs.Views.{SessionView}
use Rattle.session_serve.specs.declared.dump.DumpPlan.{DumpPlan}

-- the seat can keep all values of a pool
abbrev pub CanKeepAll : Sizes → ℕ → View → Type 0
CanKeepAll z shards seat = (seat.holds ≡ []) × (shards * buffers z + 4 ≤ seat.credits)

abbrev pub CanTake : {P : Type 0} → Sizes → ℕ → Option (DumpPlan P) → Type 0
CanTake z shards None = ⊤
CanTake z shards (Some plan) = CanKeepAll z shards plan.seat

-- only what the session has seen of the shards may have grown
pub record IsSeeing (old new : SessionView) : Type 0 where
  pub rest : new ≡ record old { pass = record old.pass { list = new.pass.list } }
  pub deeds : KeepsDeeds old.pass.list new.pass.list

-- a session that has seen of the shards what this list has
abbrev pub as_seeing : SessionList → SessionView → SessionView
as_seeing list first =
    record first { pass = record first.pass { list = record first.pass.list { looks = list.looks } } }

-- the dump was taken before this call, or behind the last one, and is kept by the seat that was handed over
pub record WasTaken {P : Type 0} (shards : ℕ) (plan : DumpPlan P) (list : SessionList) (dump : DumpView) : Type 0 where
  pub seen : HasSeen shards plan.before list dump.points dump.text
  pub holds : HasTakenHolds plan.seat dump.seat

-- What came of what a session was asked for, by its list then: a dump; or the seat, where memory was wanting. One that
-- was asked for none has seen no more than at first.
abbrev pub DumpCame : {P : Type 0} → ℕ → Option (DumpPlan P) → Option (Result DumpView View) → SessionList → SessionList
    → Type 0
DumpCame shards None None first list = list.looks ≡ first.looks
DumpCame shards None (Some taken) first list = ⊥
DumpCame shards (Some plan) None first list = ⊥
DumpCame shards (Some plan) (Some (Ok dump)) first list = WasTaken shards plan list dump
DumpCame shards (Some plan) (Some (Err seat)) first list = IsSameSeat plan.seat seat

-- the same between its calls: it may still wait for its turn, and then all deeds are of calls before that
abbrev pub Stands : {P : Type 0} → ℕ → Option (DumpPlan P) → Option (DumpPlan P) → Option (Result DumpView View)
    → SessionList → SessionList → Type 0
Stands shards asked None taken first list = DumpCame shards asked taken first list
Stands shards asked (Some plan) None first list =
    (asked ≡ Some plan) × Each (λ (own : ℕ × Deed). own.1.entry.call < plan.before) list.told
Stands shards asked (Some plan) (Some taken) first list = ⊥

-- so many calls don't pass the one that it waits for; once it was tried they have come to that
abbrev pub IsInTime : {P : Type 0} → Option (DumpPlan P) → Option (DumpPlan P) → ℕ → Type 0
IsInTime asked (Some plan) calls = calls ≤ plan.before
IsInTime None None calls = ⊤
IsInTime (Some plan) None calls = plan.before ≤ calls

-- and one call more may be made
abbrev pub MayCall : {P : Type 0} → Option (DumpPlan P) → Option (DumpPlan P) → ℕ → Type 0
MayCall asked (Some plan) calls = calls < plan.before
MayCall None None calls = ⊤
MayCall (Some plan) None calls = plan.before ≤ calls
