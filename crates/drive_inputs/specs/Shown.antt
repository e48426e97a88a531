-- What is shown of a drive.
use Rattle.std.specs.Prelude.{ℕ, Bool, List, map}
use Rattle.std.specs.Borrow.{Bor}
use Rattle.flake_base.specs.Told.{HostTold, WireTold}
use Rattle.flake_base.specs.declared.journal.Entry.{Entry}
use Rattle.flake_base.specs.declared.session.SessionEnd.{SessionEnd}
use Rattle.flake_model.specs.Run.{all_commands}
use Rattle.pin_core.specs.declared.sizes.Sizes.{Sizes}
use Rattle.pinned_pool.specs.Ends.{End}
use Rattle.schedule_text.specs.declared.line.Line.{Line}
use Rattle.transcript_model.specs.Transcript.{IsTranscript}
use Rattle.drive_inputs.specs.Drove.{DroveInputs}
use Rattle.drive_told.specs.Together.{driven_run}
use Rattle.any_wire.specs.Sent.{AreTold}

module _
    {W : Type 0}
    (put_may : W → Bor (List ℕ) → (W × Bool) → Type 0)
    (flush_may : W → (W × Bool) → Type 0)
    (tells : W → WireTold) where
  -- Inputs were driven, and the puts and flushes tell what they do: so the lines are a transcript of the schedule, by
  -- the journal and the wires.
  abbrev pub IsTranscriptTold : Type 0
  IsTranscriptTold = AreTold put_may flush_may tells → (z : Sizes) (ring threshold : ℕ) (schedule : List Line)
      (failed : Bool) (givens : List (List ℕ)) (endeds : List Bool) (ends : List SessionEnd)
      (journal : List (List Entry)) (closed : End) (olds news : List W) (old new : HostTold)
      (d : DroveInputs put_may flush_may z ring threshold schedule failed givens endeds ends journal closed olds news
      old new)
      → IsTranscript (driven_run z ring threshold (all_commands d.ran.served.sessions) ends journal closed)
      (map tells olds) (map tells news) schedule d.lines
