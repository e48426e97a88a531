-- Sessions that are driven, each with its device, its input and its wire.
use Rattle.std.specs.Prelude.{◌≡◌, ℕ, ◌-◌, ◌^◌, ◌<◌, Bool, false, List, [], length, map, slice_get}
use Rattle.std.specs.Prelude.{Option, None, Some, IsSome}
use Rattle.std.specs.List.{flat_map}
use Rattle.atomic_table.specs.Seated.{TableId}
use Rattle.view_sums.specs.Total.{Each}
use Rattle.flake_base.specs.Told.{HostTold}
use Rattle.flake_base.specs.declared.session.End.{End}
use Rattle.flake_model.specs.Command.{Command}
use Rattle.pin_core.specs.declared.sizes.Sizes.{Sizes}
use Rattle.command_pump.specs.Pump.{PumpState, IsPump}
use Rattle.tx_descriptor.specs.declared.framed.Framed.{Ghosts}
use Rattle.tx_ring.specs.Shown.{ring_size, device_ring}
use Rattle.tx_ring.specs.declared.device.DeviceEnd.{DeviceEnd}
use Rattle.reply_planner.specs.Parcels.{Sent}
use Rattle.reply_planner.specs.Places.{buffer_addresses}
use Rattle.session_pass.specs.Views.{SessionView}
use Rattle.session_pass.specs.Fresh.{IsFresh}
use Rattle.schedule_text.specs.declared.line.Line.{Line}
use Rattle.transcript_model.specs.Lines.{LineEvent, EventLine, line_of, transcript_line}
use Rattle.any_wire.specs.Texts.{Sending}
use Rattle.transcript_model.specs.Sessions.{events_of}
use Rattle.drive_script.specs.Views.{DeviceShown}
use Rattle.drive_script.specs.Asked.{IsAsked}
use Rattle.drive_script.specs.Connections.{Fixed, IsConnection}
use Rattle.drive_script.specs.Running.{IsRunning}
use Rattle.drive_script.specs.Says.{PrintsText}
use Rattle.drive_script.specs.Shown.{session_shown, device_shown}

-- what contracts see of one
pub record Driving (W : Type 0) : Type 0 where
  pub session : SessionView
  -- its device, and the ring of that
  pub ring : TableId
  pub device : DeviceShown
  -- the command that was kept back, the end that was said, and where commands come from
  pub kept : Option Command
  pub end : Option End
  pub pump : PumpState
  pub wire : Option W

module _ {g : Ghosts Sent} where
  abbrev pub driving_of : {W : Type 0} → SessionView → Bool → DeviceEnd Sent g → Option Command → Option End → PumpState
      → Option W → Driving W
  driving_of session failed device kept end pump wire = record {
    session = session;
    ring = device_ring device;
    device = device_shown failed device;
    kept = kept;
    end = end;
    pump = pump;
    wire = wire;
  }

-- what no line changes
abbrev pub fixed_at : Sizes → SessionView → Fixed
fixed_at z s = record {
  number = s.pass.list.number;
  sizes = z;
  ring = ring_size s.ring;
  threshold = s.pass.threshold;
  stage = buffer_addresses z s.pass.stage;
}

-- a line can be done
pub record IsAble {W : Type 0} (z : Sizes) (now : Driving W) : Type 0 where
  pub ring : now.ring ≡ now.session.ring
  pub small : Each (λ buffer. buffer < z.small) now.session.pass.stage
  pub few : length now.session.posted < 2 ^ 32 - 1
  pub wire : IsSome now.wire

-- no line was done yet, and the session's list and its input are untouched
pub record IsNew {W : Type 0} (z : Sizes) (d : Driving W) : Type 0 where
  pub ring : d.ring ≡ d.session.ring
  pub small : Each (λ buffer. buffer < z.small) d.session.pass.stage
  pub none_posted : d.session.posted ≡ []
  pub none_reaped : d.session.reaped ≡ []
  pub none_told : d.session.pass.list.told ≡ []
  pub told : d.session.told ≡ 0
  pub none_completed : d.device.completed ≡ []
  pub unfailed : d.device.failed ≡ false
  pub device_told : d.device.told ≡ 0
  pub none_kept : d.kept ≡ None
  pub none_ended : d.end ≡ None
  pub unread : IsPump d.pump.origin d.pump.faults [] d.pump
  pub wire : W
  pub wire_is : d.wire ≡ Some wire

module _ {W : Type 0} (sends : Sending W) (z : Sizes) (shards : ℕ) where
  -- These events have led from there, where no call was made, to here, and are right by what is known now.
  pub record IsUnderWay (first : Driving W) (events : List LineEvent) (now : Driving W) : Type 0 where
    pub ring : now.ring ≡ now.session.ring
    pub small : Each (λ buffer. buffer < z.small) now.session.pass.stage
    pub start : W
    pub start_is : first.wire ≡ Some start
    pub wire : W
    pub wire_is : now.wire ≡ Some wire
    pub given : List Command
    pub asked : IsAsked first.pump.origin first.pump.faults given (length now.session.posted) now.kept now.end now.pump
    pub connection : IsConnection sends (fixed_at z first.session) start given now.end events
        (session_shown z now.session) now.device wire
    pub fresh : IsFresh z first.session first.pump
    pub running : IsRunning z shards first.session given now.end now.session

  -- so are the lines of each session
  abbrev pub AreUnderWay : List (Driving W) → List EventLine → List (Driving W) → Type 0
  AreUnderWay firsts lines nows = (session : ℕ) (first now : Driving W) → slice_get firsts session ≡ Some first
      → slice_get nows session ≡ Some now → IsUnderWay first (events_of session lines) now

  -- before the first line
  abbrev pub AreFresh : List (Driving W) → Type 0
  AreFresh firsts = (session : ℕ) (first : Driving W) → slice_get firsts session ≡ Some first
      → IsUnderWay first [] first

  -- The lines of this schedule were done and said. After a say that failed a front of them was said.
  pub record WereDriven (firsts : List (Driving W)) (schedule : List Line) (nows : List (Driving W)) (failed : Bool)
      (old new : HostTold) : Type 0 where
    pub lines : List EventLine
    pub answers : map line_of lines ≡ schedule
    pub said : PrintsText false failed (flat_map transcript_line lines) old new
    pub as_many : length nows ≡ length firsts
    pub are : AreUnderWay firsts lines nows
