-- What the calls that a line is made of have to promise, so that the line is right.
use Rattle.std.specs.Prelude.{◌≡◌, ℕ, ◌+◌, ◌<◌, ◌≤◌, Bool, true, false, not, List, [], ◌∷◌, ◌++◌, length, slice_get}
use Rattle.std.specs.Prelude.{Option, None, Some}
use Rattle.std.specs.List.{AllByRecursion, flat_map}
use Rattle.std.specs.Option.{option_to_list}
use Rattle.view_sums.specs.Total.{Each}
use Rattle.flake_base.specs.declared.segment.Seg.{Seg}
use Rattle.flake_model.specs.Store.{Operation, IsWrite}
use Rattle.flake_model.specs.Command.{Command, parts}
use Rattle.flake_model.specs.Reply.{reply_text}
use Rattle.flake_model.specs.Deed.{Deed}
use Rattle.reply_layout.specs.Frames.{frame_from}
use Rattle.reply_layout.specs.Need.{need_of}
use Rattle.reply_layout.specs.Pieces.{reply_from}
use Rattle.reply_planner.specs.Parcels.{Sent}
use Rattle.shard_core.specs.Parts.{IsInBuffer}
use Rattle.command_exec.specs.Executed.{frame_shown}
use Rattle.transcript_model.specs.Standing.{ring_room, free, FitsStanding}
use Rattle.transcript_model.specs.Frames.{fragments_stored}
use Rattle.drive_script.specs.Views.{SessionShown, DeviceShown, InOrder, waiting_behind}

-- the outcome of a part: its deed, or none where it found no buffer
pub record IsDeedOf (session call part : ℕ) (operation : Operation) (deed : Deed) : Type 0 where
  pub entry : deed.entry ≡ record { session = session; call = call; part = part }
  pub operation_is : deed.operation ≡ operation

abbrev pub IsPartDone : ℕ → ℕ → ℕ → Operation → Option Deed → Type 0
IsPartDone session call part operation None = IsWrite operation
IsPartDone session call part operation (Some deed) = IsDeedOf session call part operation deed

-- the outcomes of a call's parts, in order
abbrev pub AreDone : ℕ → ℕ → ℕ → List Operation → List (Option Deed) → Type 0
AreDone session call part [] outcomes = outcomes ≡ []
AreDone session call part (operation ∷ operations) [] = ⊥
AreDone session call part (operation ∷ operations) (outcome ∷ outcomes) =
    IsPartDone session call part operation outcome × AreDone session call (part + 1) operations outcomes

abbrev pub done_deeds : List (Option Deed) → List Deed
done_deeds outcomes = flat_map option_to_list outcomes

-- `call` posted the command's frame
pub record ShowsPost (command : Command) (old new : SessionShown) (call freed : ℕ) (sent stored : List Seg)
    : Type 0 where
  pub outcomes : List (Option Deed)
  pub parcel : Sent
  -- its deeds, in order, without a part that found no buffer
  pub outcomes_are : AreDone old.number (length old.posted) 0 (parts command) outcomes
  pub deeds : new.deeds ≡ old.deeds ++ done_deeds outcomes
  -- it reaped so many of the oldest frames, as long as the need wasn't there
  pub gone : List Sent
  pub freed_is : length gone ≡ freed
  pub reaped : new.reaped ≡ old.reaped ++ gone
  pub fits : FitsStanding old.ring old.stage (waiting_behind old freed) (need_of command)
  pub least : (fewer : ℕ) → fewer < freed → FitsStanding old.ring old.stage (waiting_behind old fewer) (need_of command)
      → ⊥
  -- one frame more is posted: the reply, laid out over the free staging buffers
  pub posted : new.posted ≡ old.posted ++ parcel ∷ []
  pub call_is : call ≡ length old.posted
  pub numbered : parcel.call ≡ call
  pub laid_out : frame_shown old.sizes parcel
      ≡ frame_from old.threshold (free old.stage (waiting_behind old freed)) command outcomes
  pub text : parcel.text ≡ reply_text (reply_from command outcomes)
  pub sent_is : sent ≡ parcel.segments
  pub stored_is : stored ≡ flat_map fragments_stored outcomes
  pub in_buffers : Each (IsInBuffer old.sizes) stored
  -- all else is as before
  pub number : new.number ≡ old.number
  pub sizes : new.sizes ≡ old.sizes
  pub ring : new.ring ≡ old.ring
  pub threshold : new.threshold ≡ old.threshold
  pub stage : new.stage ≡ old.stage

-- `reap_one` gave the oldest frame back
pub record ShowsOneReap (old new : SessionShown) (call recycled : ℕ) : Type 0 where
  pub parcel : Sent
  pub oldest : slice_get old.posted (length old.reaped) ≡ Some parcel
  pub new_is : new ≡ record old { reaped = old.reaped ++ parcel ∷ [] }
  pub call_is : call ≡ parcel.call
  pub recycles : recycled ≤ parcel.pinned

-- it gave none: all that is known to be completed was reaped before
pub record ShowsNoReap (old new : SessionShown) : Type 0 where
  pub new_is : new ≡ old
  pub told : old.told ≤ length old.reaped

-- `gather` took the next frame, and sent or dropped it: none is sent behind the first that failed
pub record Gathers (old new : DeviceShown) (call bytes : ℕ) (sent : Bool) : Type 0 where
  pub parcel : Sent
  pub completed : new.completed ≡ old.completed ++ parcel ∷ []
  pub told : new.told ≡ old.told
  pub call_is : call ≡ parcel.call
  pub bytes_are : bytes ≡ length parcel.text
  pub failed : new.failed ≡ not sent
  pub stays : sent ≡ true → old.failed ≡ false

-- it found the ring empty; where nothing had failed the flush may have failed now
pub record GathersNone (old new : DeviceShown) : Type 0 where
  pub new_is : new ≡ record old { failed = new.failed }
  pub stays : old.failed ≡ true → new.failed ≡ true
  pub told : old.told ≤ length old.completed

-- `call` reaped, and posted nothing; all that was known to be completed is reaped
pub record ShowsReaps (old new : SessionShown) : Type 0 where
  pub gone : List Sent
  pub new_is : new ≡ record old { reaped = old.reaped ++ gone }
  pub told : old.told ≤ length new.reaped

-- and the ring has less than the command needs
pub record ShowsRingFull (command : Command) (old new : SessionShown) (need_is room_is : ℕ) : Type 0 where
  pub reaps : ShowsReaps old new
  pub needs : need_is ≡ (need_of command).descriptors
  pub has : room_is ≡ ring_room old.ring (waiting_behind new 0)
  pub less : room_is < need_is

-- and the stage has, though not the ring
pub record ShowsStageFull (command : Command) (old new : SessionShown) (need_is free_is : ℕ) : Type 0 where
  pub reaps : ShowsReaps old new
  pub enough : (need_of command).descriptors ≤ ring_room old.ring (waiting_behind new 0)
  pub needs : need_is ≡ (need_of command).stage
  pub has : free_is ≡ length (free old.stage (waiting_behind new 0))
  pub less : free_is < need_is

-- `call` met want of memory: it may have reaped, and run parts of the call, and posted nothing
pub record ShowsRefusal (old new : SessionShown) : Type 0 where
  pub gone : List Sent
  pub done : List Deed
  pub new_is : new ≡ record old { reaped = old.reaped ++ gone; deeds = old.deeds ++ done }
  pub behind : AllByRecursion (λ (deed : Deed). deed.entry.call ≡ length old.posted) done

-- both ends at hand
pub record BothEnds (old_session new_session : SessionShown) (old_device new_device : DeviceShown) : Type 0 where
  pub session : new_session ≡ record old_session { told = length old_device.completed }
  pub device : new_device ≡ record old_device { told = length old_session.posted }
  pub in_order : InOrder new_session new_device
