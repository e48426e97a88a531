-- A transcript, by what wires tell of what was put on them.
use Rattle.std.proofs.Common.{ℕ, Bool, List, Bor}
use Rattle.flake_base.specs.Told.{WireTold}
use Rattle.flake_model.specs.Run.{all_commands}
use Rattle.drive_inputs.specs.Connections.{sends_by}
use Rattle.drive_told.specs.Together.{driven_run}
use Rattle.drive_told.proofs.Wires.{told}
use Rattle.drive_inputs.specs.Shown.{IsTranscriptTold}
use Rattle.any_wire.proofs.Sent.{sent_by_puts}

-- what was said of driven inputs is a transcript
pub transcript_told : {W : Type 0} (put_may : W → Bor (List ℕ) → (W × Bool) → Type 0)
    (flush_may : W → (W × Bool) → Type 0) (tells : W → WireTold) → IsTranscriptTold put_may flush_may tells
transcript_told put_may flush_may tells says z ring threshold schedule failed givens endeds ends journal closed olds
    news old new d =
    told (sends_by put_may flush_may) tells
    (λ failed text before after sends. sent_by_puts put_may flush_may tells says failed text before after sends)
    (driven_run z ring threshold (all_commands d.ran.served.sessions) ends journal closed) olds news d.own schedule
    d.lines d.shards d.told_by d.sources d.apart
