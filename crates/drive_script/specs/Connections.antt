-- A session that is driven, with its device and its wire.
use Rattle.std.specs.Prelude.{◌≡◌, ℕ, Bool, false, List, Option, None, Some, is_some, ⊤}
use Rattle.std.specs.Borrow.{Bor}
use Rattle.any_wire.specs.Sends.{Sends}
use Rattle.flake_base.specs.declared.session.End.{End}
use Rattle.flake_model.specs.Command.{Command}
use Rattle.pin_core.specs.declared.sizes.Sizes.{Sizes}
use Rattle.transcript_model.specs.Lines.{LineEvent}
use Rattle.any_wire.specs.Texts.{Sending, WireGrew}
use Rattle.transcript_model.specs.Terms.{Terms}
use Rattle.reply_planner.specs.Parcels.{texts_in}
use Rattle.drive_script.specs.Matches.{IsRightSoFar}
use Rattle.drive_script.specs.Quiet.{says_end}
use Rattle.drive_script.specs.Views.{SessionShown, DeviceShown}

-- a text is sent by puts and flushes, until one of them fails
abbrev pub sends_by : {W : Type 0} → (W → Bor (List ℕ) → (W × Bool) → Type 0) → (W → (W × Bool) → Type 0)
    → Sending W
sends_by put_may flush_may failed text old new = Sends put_may flush_may false failed text old new

-- what stays of a session's terms over all its lines
pub record Fixed : Type 0 where
  pub number : ℕ
  pub sizes : Sizes
  pub ring : ℕ
  pub threshold : ℕ
  pub stage : List ℕ

abbrev pub fixed_of : Terms → Fixed
fixed_of terms = record {
  number = terms.number;
  sizes = terms.sizes;
  ring = terms.ring;
  threshold = terms.threshold;
  stage = terms.stage;
}

-- the end that was said, if one was, is the session's
abbrev pub IsEndSaid : Option End → End → Type 0
IsEndSaid None end = ⊤
IsEndSaid (Some said) end = end ≡ said

-- What was said of the session so far is right by what is known of it now: the commands that its input gave, its end,
-- if that was said, and how many of its replies were sent whole.
pub record IsDriven (fixed : Fixed) (given : List Command) (end : Option End) (whole : ℕ) (events : List LineEvent)
    (session : SessionShown) (device : DeviceShown) : Type 0 where
  pub terms : Terms
  pub fixed_is : fixed_of terms ≡ fixed
  pub given_is : terms.commands ≡ given
  pub whole_is : terms.whole ≡ whole
  pub kept : IsRightSoFar terms session device events
  pub ended_is : says_end events ≡ is_some end
  pub end_is : IsEndSaid end terms.end.end

module _ {W : Type 0} (sends : Sending W) where
  -- and its wire, which was another at the start, was sent the texts of what was gathered
  pub record IsConnection (fixed : Fixed) (start : W) (given : List Command) (end : Option End) (events : List
      LineEvent)
      (session : SessionShown) (device : DeviceShown) (wire : W) : Type 0 where
    pub whole : ℕ
    pub driven : IsDriven fixed given end whole events session device
    pub grew : WireGrew sends device.failed whole (texts_in session.posted) start wire
