-- The frame of a call, and the fragments that it stored, by the deeds at its entries.
use Rattle.std.specs.Prelude.{ℕ, List, [], map, Option, None, Some}
use Rattle.std.specs.List.{flat_map}
use Rattle.flake_base.specs.declared.segment.Seg.{Seg}
use Rattle.flake_model.specs.Command.{Command, parts}
use Rattle.flake_model.specs.Journal.{call_steps}
use Rattle.flake_model.specs.Deed.{Deed}
use Rattle.reply_layout.specs.Frames.{Frame, frame_from}
use Rattle.shard_core.specs.Pieces.{segs_at, size_stored}
use Rattle.transcript_model.specs.Deeds.{find_deed}
use Rattle.transcript_model.specs.Terms.{Terms}

-- the deeds of a call's parts; a part that found no buffer has none
abbrev pub deeds_of : Terms → ℕ → Command → List (Option Deed)
deeds_of terms call command =
    map (λ step. find_deed step.0 terms.deeds) (call_steps terms.number call 0 (parts command))

abbrev pub frame_of : Terms → List ℕ → ℕ → Command → Frame
frame_of terms free call command = frame_from terms.threshold free command (deeds_of terms call command)

-- the fragments that a deed stored, as segments
abbrev pub fragments_stored : Option Deed → List Seg
fragments_stored None = []
fragments_stored (Some deed) = segs_at deed.stored (size_stored deed.operation deed.answer)

abbrev pub stored_of : Terms → ℕ → Command → List Seg
stored_of terms call command = flat_map fragments_stored (deeds_of terms call command)
