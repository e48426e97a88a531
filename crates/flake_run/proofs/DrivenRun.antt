-- Driven sources are a served run of their sessions, of which the lines are a transcript.
use Rattle.std.proofs.Common.{ℕ, Bool, List, Bor, map, sym, subst}
use Rattle.flake_base.specs.Told.{HostTold, WireTold}
use Rattle.flake_base.specs.declared.journal.Entry.{Entry}
use Rattle.flake_base.specs.declared.session.SessionEnd.{SessionEnd}
use Rattle.flake_model.specs.Run.{all_commands}
use Rattle.pin_core.specs.declared.sizes.Sizes.{Sizes}
use Rattle.pinned_pool.specs.Ends.{End}
use Rattle.schedule_text.specs.declared.line.Line.{Line}
use Rattle.transcript_model.specs.Transcript.{IsTranscript}
use Rattle.drive_inputs.proofs.Told.{transcript_told}
use Rattle.drive_inputs.specs.Drove.{DroveInputs}
use Rattle.drive_told.specs.Together.{driven_run}
use Rattle.any_wire.specs.Sent.{AreTold}
use Rattle.flake_run.specs.Driven.{IsDrivenRun}
use Rattle.flake_run.proofs.Served.{run_told, run_sessions}

module _ {W : Type 0} (put_may : W → Bor (List ℕ) → (W × Bool) → Type 0) (flush_may : W → (W × Bool) → Type 0)
    (told : W → WireTold) (says : AreTold put_may flush_may told) where
  pub driven_to : (z : Sizes) (ring threshold : ℕ) (schedule : List Line) (failed : Bool)
      (givens : List (List ℕ)) (endeds : List Bool) (ends : List SessionEnd) (journal : List (List Entry))
      (closed : End) (olds news : List W) (old new : HostTold)
      → DroveInputs put_may flush_may z ring threshold schedule failed givens endeds ends journal closed olds news old
      new → IsDrivenRun z ring threshold schedule failed givens endeds ends journal closed olds news told old new
  driven_to z ring threshold schedule failed givens endeds ends journal closed olds news old new d = record {
    run = run_told put_may flush_may told says z threshold givens endeds ends journal closed olds news d.ran d.sends;
    lines = d.lines;
    transcript = subst (λ ss. IsTranscript (driven_run z ring threshold (all_commands ss) ends journal closed)
        (map told olds) (map told news) schedule d.lines)
        (sym (run_sessions put_may flush_may told says z threshold givens endeds ends journal closed olds news d.ran
        d.sends))
        (transcript_told put_may flush_may told says z ring threshold schedule failed givens endeds ends journal closed
        olds news old new d);
    said = d.said;
  }
