-- What driven sessions come to, when book and pool are closed.
use Rattle.std.specs.Prelude.{◌≡◌, ℕ, Bool, List, ◌++◌, map}
use Rattle.std.specs.List.{flat_map}
use Rattle.flake_base.specs.Told.{WireTold}
use Rattle.flake_base.specs.declared.journal.Entry.{Entry}
use Rattle.flake_base.specs.declared.session.SessionEnd.{SessionEnd}
use Rattle.pin_core.specs.declared.sizes.Sizes as pool_sizes
use Rattle.pinned_pool.specs.Ends.{End}
use Rattle.pinned_pool.specs.declared.view.View.{View}
use Rattle.flake_model.specs.Command.{Command}
use Rattle.flake_model.specs.Deed.{Deed}
use Rattle.flake_model.specs.Run.{all_commands, wire_texts}
use Rattle.order_book.specs.Pages.{ShardList, SessionList}
use Rattle.order_book.specs.declared.rule.BookSizes as book_sizes
use Rattle.schedule_text.specs.declared.line.Line.{Line}
use Rattle.serve_model.specs.Replies.{all_replies}
use Rattle.serve_model.specs.Shown.{WasRun}
use Rattle.transcript_model.specs.Lines.{EventLine, line_of}
use Rattle.any_wire.specs.Texts.{Sending}
use Rattle.transcript_model.specs.Sources.{AreSources}
use Rattle.transcript_model.specs.Transcript.{DrivenRun, AreAllApart, transcript_places, IsToldBy, IsTranscript}
use Rattle.any_wire.specs.Sent.{WasSentByPuts}
use Rattle.drive_told.specs.Closed.{WereClosed}
use Rattle.drive_told.specs.Driven.{OneDriven, AreDriven}

-- the run of a transcript
abbrev pub driven_run : pool_sizes.Sizes → ℕ → ℕ → List (List Command) → List SessionEnd → List (List Entry) → End
    → DrivenRun
driven_run z ring threshold sessions ends journal closed = record {
  sizes = z;
  ring = ring;
  threshold = threshold;
  sessions = sessions;
  ends = ends;
  journal = journal;
  small_held = closed.small;
  large_held = closed.large;
}

module _ {W : Type 0} (sends : Sending W) where
  -- The inputs were served as a whole, the returned journal gives the texts of the replies, and what was said is right
  -- by the sessions' own deeds, which are those of the shards' histories.
  pub record HaveDriven (z : pool_sizes.Sizes) (ring threshold : ℕ) (schedule : List Line) (lines : List EventLine)
      (each : List (OneDriven W)) (past : List W) (journal : List (List Entry)) (closed : End) : Type 0 where
    pub ran : WasRun z threshold (map (λ (one : OneDriven W). one.given) each)
        (map (λ (one : OneDriven W). one.ended) each) (map (λ (one : OneDriven W). one.end) each) journal closed
    pub texts_are : wire_texts ran.served.sessions journal
        ≡ map (λ (one : OneDriven W). (one.end.failed, flat_map (λ text. text) one.texts)) each
    pub replies_are : all_replies ran.served.sessions journal
        ≡ map (λ (one : OneDriven W). (one.end.failed, one.texts)) each
    pub own : ℕ → List Deed
    pub shards : List (List Deed)
    pub told_by : IsToldBy sends (driven_run z ring threshold (all_commands ran.served.sessions)
        (map (λ (one : OneDriven W). one.end) each) journal closed) (map (λ (one : OneDriven W). one.old) each ++ past)
        (map (λ (one : OneDriven W). one.new) each ++ past) own schedule lines
    pub sources : AreSources (driven_run z ring threshold (all_commands ran.served.sessions)
        (map (λ (one : OneDriven W). one.end) each) journal closed) shards own told_by.stages
    pub apart : AreAllApart (transcript_places (driven_run z ring threshold (all_commands ran.served.sessions)
        (map (λ (one : OneDriven W). one.end) each) journal closed) lines)

  -- driven sessions and what was closed give that; wires past theirs are as they were
  abbrev pub DrivenTogether : Type 0
  DrivenTogether = (books : book_sizes.BookSizes) (z : pool_sizes.Sizes) (ring threshold : ℕ) (schedule : List Line)
      (lines : List EventLine) (each : List (OneDriven W)) (past : List W) (shards : List ShardList)
      (lists : List SessionList) (journal : List (List Entry)) (main store last : View) (closed : End)
      → map line_of lines ≡ schedule → AreDriven sends z books.shards ring threshold lines each lists main
      → WereClosed books z shards lists journal main store last closed
      → HaveDriven z ring threshold schedule lines each past journal closed

  -- what a wire tells is that it was sent its texts
  abbrev pub AreTold : (W → WireTold) → Type 0
  AreTold tells = (failed : Bool) (text : List ℕ) (old new : W) → sends failed text old new
      → WasSentByPuts failed text (tells old) (tells new)

  -- what is right by the sessions' own deeds is a transcript of wires that tell what they are sent
  abbrev pub TranscriptTold : Type 0
  TranscriptTold = (tells : W → WireTold) → AreTold tells → (run : DrivenRun) (olds news : List W)
      (own : ℕ → List Deed) (schedule : List Line) (lines : List EventLine) (shards : List (List Deed))
      (by_own : IsToldBy sends run olds news own schedule lines) → AreSources run shards own by_own.stages
      → AreAllApart (transcript_places run lines) → IsTranscript run (map tells olds) (map tells news) schedule lines
