-- What driven inputs come to.
use Rattle.std.specs.Prelude.{ℕ, Bool, false, List}
use Rattle.std.specs.Borrow.{Bor}
use Rattle.std.specs.List.{flat_map}
use Rattle.flake_base.specs.Told.{HostTold}
use Rattle.flake_base.specs.declared.journal.Entry.{Entry}
use Rattle.flake_base.specs.declared.session.SessionEnd.{SessionEnd}
use Rattle.flake_model.specs.Deed.{Deed}
use Rattle.flake_model.specs.Run.{all_commands, wire_texts}
use Rattle.pin_core.specs.declared.sizes.Sizes.{Sizes}
use Rattle.pinned_pool.specs.Ends.{End}
use Rattle.schedule_text.specs.declared.line.Line.{Line}
use Rattle.serve_model.specs.Shown.{WasRun}
use Rattle.transcript_model.specs.Lines.{EventLine, transcript_line}
use Rattle.transcript_model.specs.Sources.{AreSources}
use Rattle.transcript_model.specs.Transcript.{AreAllApart, transcript_places, IsToldBy}
use Rattle.drive_script.specs.Connections.{sends_by}
use Rattle.drive_script.specs.Says.{PrintsText}
use Rattle.session_serve.specs.Ran.{AllSent}
use Rattle.drive_told.specs.Together.{driven_run}

module _ {W : Type 0} (put_may : W → Bor (List ℕ) → (W × Bool) → Type 0) (flush_may : W → (W × Bool) → Type 0) where
  -- The inputs were served as a whole, and what was said is right by the sessions' own deeds, which are those of the
  -- shards' histories. After a say that failed a front of it was said.
  pub record DroveInputs (z : Sizes) (ring threshold : ℕ) (schedule : List Line) (failed : Bool)
      (givens : List (List ℕ)) (endeds : List Bool) (ends : List SessionEnd) (journal : List (List Entry))
      (closed : End) (olds news : List W) (old new : HostTold) : Type 0 where
    pub ran : WasRun z threshold givens endeds ends journal closed
    pub sends : AllSent put_may flush_may (wire_texts ran.served.sessions journal) olds news
    pub lines : List EventLine
    pub said : PrintsText false failed (flat_map transcript_line lines) old new
    pub own : ℕ → List Deed
    pub shards : List (List Deed)
    pub told_by : IsToldBy (sends_by put_may flush_may)
        (driven_run z ring threshold (all_commands ran.served.sessions) ends journal closed) olds news own schedule
        lines
    pub sources : AreSources (driven_run z ring threshold (all_commands ran.served.sessions) ends journal closed) shards
        own told_by.stages
    pub apart : AreAllApart
        (transcript_places (driven_run z ring threshold (all_commands ran.served.sessions) ends journal closed) lines)
