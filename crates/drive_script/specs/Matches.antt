-- A session and its device stand where the judge has them.
use Rattle.std.specs.Prelude.{◌≡◌, ℕ, ◌<◌, true, false, List, length, slice_get, Some}
use Rattle.std.specs.List.{AllByRecursion}
use Rattle.flake_model.specs.Deed.{Deed}
use Rattle.flake_model.specs.Command.{Command}
use Rattle.flake_model.specs.Reply.{reply_text}
use Rattle.reply_layout.specs.Pieces.{reply_from}
use Rattle.transcript_model.specs.Frames.{deeds_of}
use Rattle.transcript_model.specs.Lines.{LineEvent}
use Rattle.transcript_model.specs.Terms.{Terms}
use Rattle.transcript_model.specs.Standing.{Standing, at_first}
use Rattle.any_wire.specs.Texts.{AreWhole}
use Rattle.reply_planner.specs.Parcels.{Sent}
use Rattle.drive_script.specs.Views.{SessionShown, DeviceShown, InOrder, frames_shown}
use Rattle.transcript_model.specs.Right.{is_known, AreRight}

-- the commands that were given before, and perhaps more
abbrev pub HasMore : List Command → List Command → Type 0
HasMore given commands = (place : ℕ) (command : Command)
    → slice_get given place ≡ Some command → slice_get commands place ≡ Some command

-- what the session shows is what its lines are judged by
pub record IsShownBy (terms : Terms) (session : SessionShown) : Type 0 where
  pub number : session.number ≡ terms.number
  pub sizes : session.sizes ≡ terms.sizes
  pub ring : session.ring ≡ terms.ring
  pub threshold : session.threshold ≡ terms.threshold
  pub stage : session.stage ≡ terms.stage
  pub deeds : session.deeds ≡ terms.deeds

pub record IsReply (terms : Terms) (call : ℕ) (parcel : Sent) : Type 0 where
  pub command : Command
  pub asked : slice_get terms.commands call ≡ Some command
  pub text : parcel.text ≡ reply_text (reply_from command (deeds_of terms call command))

abbrev pub AreReplies : Terms → List Sent → Type 0
AreReplies terms parcels = (call : ℕ) (parcel : Sent) → slice_get parcels call ≡ Some parcel → IsReply terms call parcel

pub record Matches (terms : Terms) (session : SessionShown) (device : DeviceShown) (standing : Standing) : Type 0 where
  pub shown : IsShownBy terms session
  pub frames : standing.frames ≡ frames_shown session
  pub reaped : standing.reaped ≡ length session.reaped
  pub gathered : standing.gathered ≡ length device.completed
  pub whole : AreWhole device.failed terms.whole (length device.completed)
  pub in_order : InOrder session device
  pub told : session.told ≡ length device.completed
  pub device_told : device.told ≡ length session.posted
  -- each frame's text is its call's reply
  pub texts : AreReplies terms session.posted
  -- frames are numbered as they were posted
  pub numbered : (place : ℕ) (parcel : Sent) → slice_get session.posted place ≡ Some parcel → parcel.call ≡ place
  -- where its end was said, it has as many replies as frames
  pub known : standing.ended ≡ true → (length standing.frames ≡ terms.end.replies) × (is_known terms.end.end ≡ true)
  -- until its end is known, the session's deeds are of calls that were posted
  pub earlier : standing.ended ≡ false
      → AllByRecursion (λ (deed : Deed). deed.entry.call < length session.posted) session.deeds

-- what was said of the session so far is right, and leaves it where it stands
pub record IsRightSoFar (terms : Terms) (session : SessionShown) (device : DeviceShown) (events : List LineEvent) : Type
    0 where
  pub standing : Standing
  pub right : AreRight terms at_first events standing
  pub matches : Matches terms session device standing
