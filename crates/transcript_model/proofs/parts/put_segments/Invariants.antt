use Rattle.std.proofs.Common.{◌≡◌, ◌+◌, ◌*◌, ◌≤◌, ◌++◌, take, vec_len, vec_capacity}
use Rattle.std.specs.List.{flat_map}
use Rattle.transcript_model.specs.Lines.{segment_text}
use Rattle.transcript_model.proofs.parts.put_segments.Given as goal

-- the segments so far
abbrev pub invariant-loop-segment : goal.invariant-loop-segment
invariant-loop-segment l = record {
  items : l.text.items ≡ l.fn.text.items ++ flat_map segment_text (take l.segment-index l.segments);
  len : vec_len l.text ≤ vec_len l.fn.text + 42 * l.segment-index;
  capacity : vec_capacity l.fn.text ≤ vec_capacity l.text;
}
