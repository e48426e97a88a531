use Rattle.std.proofs.Common.{◌≤◌, take}
use Rattle.std.specs.Prelude.{vec_capacity}
use Rattle.std.specs.List.{flat_map}
use Rattle.transcript_model.specs.Lines.{segment_text}
use Rattle.drive_script.specs.Says.{PrintsText}
use Rattle.drive_script.proofs.saying.say_segments.Given as goal

abbrev pub invariant-loop-segment : goal.invariant-loop-segment
invariant-loop-segment g l = record {
  said : PrintsText l.fn.failed l.failed (flat_map segment_text (take l.segment-index l.segments))
      (g.H.Host.host_told l.fn.host) (g.H.Host.host_told l.host);
  room : vec_capacity l.fn.text ≤ vec_capacity l.text;
}
