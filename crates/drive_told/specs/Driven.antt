-- What driven sessions hand up, one by one and together.
use Rattle.std.specs.Prelude.{◌≡◌, ℕ, ◌+◌, Bool, List, [], ◌∷◌, map, ⊤}
use Rattle.flake_base.specs.declared.session.SessionEnd.{SessionEnd}
use Rattle.flake_model.specs.Command.{Command}
use Rattle.pin_core.specs.declared.sizes.Sizes.{Sizes}
use Rattle.pinned_pool.specs.declared.view.View.{View}
use Rattle.order_book.specs.Closed.{own_deeds}
use Rattle.order_book.specs.Pages.{SessionList}
use Rattle.reply_planner.specs.Stages.{StagesAreApart}
use Rattle.serve_model.specs.Handed.{SessionHasRun}
use Rattle.serve_model.specs.Seats.{HasAll, IsSpare}
use Rattle.transcript_model.specs.Lines.{LineEvent, EventLine}
use Rattle.any_wire.specs.Texts.{Sending, WireGrew}
use Rattle.transcript_model.specs.Sessions.{IsRightSession, events_of, texts_of}
use Rattle.transcript_model.specs.Terms.{Terms}
use Rattle.transcript_model.specs.Transcript.{IsStageShown}

-- what comes of one session: what its source gave, and whether it gave none at last; its end, its list, its seat,
-- its replies' texts, the addresses of its staging buffers, how many replies were sent whole, and its wire before and
-- behind it
pub record OneDriven (W : Type 0) : Type 0 where
  pub given : List ℕ
  pub ended : Bool
  pub end : SessionEnd
  pub list : SessionList
  pub seat : View
  pub texts : List (List ℕ)
  pub stage : List ℕ
  pub whole : ℕ
  pub old : W
  pub new : W

module _ {W : Type 0} (sends : Sending W) (z : Sizes) (shards ring threshold : ℕ) where
  -- what its lines are judged by, where its input asks for these commands
  abbrev pub terms_by : ℕ → List Command → OneDriven W → Terms
  terms_by session commands one = record {
    number = session;
    sizes = z;
    ring = ring;
    threshold = threshold;
    stage = one.stage;
    commands = commands;
    end = one.end;
    whole = one.whole;
    deeds = own_deeds one.list;
  }

  -- The session ran, what was said of it is right by its own list, and its wire was sent the texts of its replies.
  pub record IsDriven (session : ℕ) (events : List LineEvent) (one : OneDriven W) : Type 0 where
    pub ran : SessionHasRun z threshold shards session one.given one.ended one.end one.list one.seat one.texts
    pub stage_is : IsStageShown z one.stage
    pub told : IsRightSession (terms_by session ran.run.commands one) events
    pub grew : WireGrew sends one.end.failed one.whole (texts_of (terms_by session ran.run.commands one)) one.old
        one.new

  -- so did each, from a number on
  abbrev pub AllDriven : ℕ → List EventLine → List (OneDriven W) → Type 0
  AllDriven session lines [] = ⊤
  AllDriven session lines (one ∷ others) =
      IsDriven session (events_of session lines) one × AllDriven (session + 1) lines others

  -- All sessions did, and no two have a staging buffer in common; the lists and the seat are theirs, but for a seat
  -- that has nothing.
  pub record AreDriven (lines : List EventLine) (each : List (OneDriven W)) (lists : List SessionList)
      (main : View) : Type 0
    where
      pub all : AllDriven 0 lines each
      pub stages_apart : StagesAreApart (map (λ (one : OneDriven W). one.stage) each)
      pub lists_are : lists ≡ map (λ (one : OneDriven W). one.list) each
      pub spare : View
      pub spare_is : IsSpare spare
      pub seats : HasAll (spare ∷ map (λ (one : OneDriven W). one.seat) each) main
