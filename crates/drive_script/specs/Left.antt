-- The end of a session that is driven.
use Rattle.std.specs.Prelude.{◌≡◌, ℕ, ◌+◌, ◌≤◌, List, [], ◌∷◌, ◌++◌, Option, Some, is_some, unwrap_or, length}
use Rattle.std.specs.List.{AllByRecursion}
use Rattle.flake_base.specs.declared.session.End.{End}
use Rattle.flake_base.specs.declared.session.End.TheVariants.{Left}
use Rattle.flake_base.specs.declared.session.SessionEnd.{SessionEnd}
use Rattle.flake_model.specs.Command.{Command}
use Rattle.flake_model.specs.Deed.{Deed}
use Rattle.pin_core.specs.declared.sizes.Sizes.{Sizes}
use Rattle.command_pump.specs.Pump.{PumpState}
use Rattle.order_book.specs.Closed.{own_deeds}
use Rattle.order_book.specs.Pages.{SessionList}
use Rattle.transcript_model.specs.Lines.{LineEvent, sent, dropped}
use Rattle.any_wire.specs.Texts.{Sending, WireGrew}
use Rattle.transcript_model.specs.Sessions.{IsRightSession, texts_of}
use Rattle.transcript_model.specs.Terms.{Terms}
use Rattle.drive_script.specs.Matches.{HasMore}
use Rattle.drive_script.specs.Quiet.{IsQuiet, says_end}
use Rattle.drive_script.specs.Asked.{IsAsked}
use Rattle.drive_script.specs.Driving.{Driving, fixed_at, IsUnderWay}
use Rattle.drive_script.specs.Connections.{Fixed}

-- how many replies were gathered
abbrev pub gathers_in : List LineEvent → ℕ
gathers_in [] = 0
gathers_in (sent call bytes ∷ events) = gathers_in events + 1
gathers_in (dropped call bytes ∷ events) = gathers_in events + 1
gathers_in (event ∷ events) = gathers_in events

abbrev pub terms_at : Fixed → List Command → SessionEnd → ℕ → List Deed → Terms
terms_at fixed commands end whole deeds = record {
  number = fixed.number;
  sizes = fixed.sizes;
  ring = fixed.ring;
  threshold = fixed.threshold;
  stage = fixed.stage;
  commands = commands;
  end = end;
  whole = whole;
  deeds = deeds;
}

module _ {W : Type 0} (sends : Sending W) (z : Sizes) (shards : ℕ) where
  -- some line can be behind it
  pub record IsGoing (now : Driving W) : Type 0 where
    pub first : Driving W
    pub events : List LineEvent
    pub is : IsUnderWay sends z shards first events now

  -- at least so many replies were gathered without lines
  pub record GoesQuietly (first : Driving W) (events : List LineEvent) (count : ℕ) (now : Driving W) : Type 0 where
    pub quiet : List LineEvent
    pub are : AllByRecursion IsQuiet quiet
    pub gathered : count ≤ gathers_in quiet
    pub is : IsUnderWay sends z shards first (events ++ quiet) now

  -- all replies were gathered, the last ones without lines
  pub record GathersAll (first : Driving W) (events : List LineEvent) (now : Driving W) : Type 0 where
    pub quiet : List LineEvent
    pub are : AllByRecursion IsQuiet quiet
    pub is : IsUnderWay sends z shards first (events ++ quiet) now
    pub all : now.device.completed ≡ now.session.posted
    pub told : now.session.told ≡ length now.session.posted

module _ {W : Type 0} (sends : Sending W) (z : Sizes) where
  -- What was said of the session is right from its first line to its last, by its own list, whatever more its input
  -- asks for; and its wire was sent the texts of its replies.
  pub record HasLeft (first : Driving W) (events : List LineEvent) (end : SessionEnd) (mine : SessionList)
      (left : PumpState) (new : W) : Type 0 where
    pub given : List Command
    pub whole : ℕ
    pub told : (commands : List Command) → HasMore given commands
        → IsRightSession (terms_at (fixed_at z first.session) commands end whole (own_deeds mine)) events
    pub start : W
    pub start_is : first.wire ≡ Some start
    pub sent : (commands : List Command) → HasMore given commands → WireGrew sends end.failed whole
        (texts_of (terms_at (fixed_at z first.session) commands end whole (own_deeds mine))) start new
    -- its end is the one that was said; or none was, and it was left
    pub said : Option End
    pub end_is : end.end ≡ unwrap_or said Left
    pub says : says_end events ≡ is_some said
    pub kept : Option Command
    pub asked : IsAsked first.pump.origin first.pump.faults given end.replies kept said left
    pub taken : end.taken ≡ left.taken
