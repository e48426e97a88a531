-- Sessions that were driven to their ends.
use Rattle.std.specs.Prelude.{◌≡◌, ℕ, Bool, false, List, length, map, slice_get, Some}
use Rattle.std.specs.Borrow.{Bor}
use Rattle.std.specs.List.{flat_map}
use Rattle.flake_base.specs.Told.{HostTold}
use Rattle.flake_base.specs.declared.session.SessionEnd.{SessionEnd}
use Rattle.pin_core.specs.declared.sizes.Sizes.{Sizes}
use Rattle.command_pump.specs.Pump.{PumpState}
use Rattle.order_book.specs.Pages.{SessionList}
use Rattle.pinned_pool.specs.declared.view.View.{View}
use Rattle.schedule_text.specs.declared.line.Line.{Line}
use Rattle.transcript_model.specs.Lines.{EventLine, line_of, transcript_line}
use Rattle.transcript_model.specs.Sessions.{events_of}
use Rattle.drive_script.specs.Driving.{Driving}
use Rattle.drive_script.specs.Connections.{sends_by}
use Rattle.drive_script.specs.Left.{HasLeft}
use Rattle.drive_script.specs.Ran.{HasDriven}
use Rattle.drive_script.specs.Says.{PrintsText}

-- what contracts see of what a session leaves
pub record Leaving (W : Type 0) : Type 0 where
  pub end : SessionEnd
  pub mine : SessionList
  pub seat : View
  pub pump : PumpState
  pub wire : W

abbrev pub leaving_of : {W : Type 0} → SessionEnd → SessionList → View → PumpState → W → Leaving W
leaving_of end mine seat pump wire = record { end = end; mine = mine; seat = seat; pump = pump; wire = wire }

module _
    {W : Type 0}
    (put_may : W → Bor (List ℕ) → (W × Bool) → Type 0)
    (flush_may : W → (W × Bool) → Type 0)
    (z : Sizes)
    (shards : ℕ) where
  -- Each line of the schedule was answered by a line, and the lines were said; after a say that failed a front of them
  -- was said. What was said of each session is right from its first line to its last, and the session ran.
  pub record DroveAll (firsts : List (Driving W)) (schedule : List Line) (lasts : List (Leaving W)) (failed : Bool)
      (old new : HostTold) : Type 0 where
    pub lines : List EventLine
    pub answers : map line_of lines ≡ schedule
    pub said : PrintsText false failed (flat_map transcript_line lines) old new
    pub as_many : length lasts ≡ length firsts
    pub left : (session : ℕ) (first : Driving W) (last : Leaving W) → slice_get firsts session ≡ Some first
        → slice_get lasts session ≡ Some last
        → HasDriven put_may flush_may z shards first (events_of session lines) last.end last.mine last.seat last.pump
        last.wire
    -- and which end was said, whatever more its input asks for
    pub ends : (session : ℕ) (first : Driving W) (last : Leaving W) → slice_get firsts session ≡ Some first
        → slice_get lasts session ≡ Some last
        → HasLeft (sends_by put_may flush_may) z first (events_of session lines) last.end last.mine last.pump last.wire
