use Rattle.std.proofs.Common.{◌≡◌, ◌+◌, ◌≤◌, ◌++◌, length, vec_len, vec_capacity}
use Rattle.std.specs.Vec.Iter.{into_iter_items, into_iter_len}
use Rattle.serve_inputs.proofs.results.with_past.Given as goal

abbrev pub invariant-loop-wire : goal.invariant-loop-wire
invariant-loop-wire g l = record {
  all : l.yielded ++ into_iter_items l.wire-iterator ≡ into_iter_items l.fn.past;
  left : into_iter_len l.wire-iterator ≡ length (into_iter_items l.wire-iterator);
  wires : l.wires.items ≡ l.fn.wires.items ++ l.yielded;
  capacity : vec_capacity l.wires ≡ vec_capacity l.fn.wires;
  room : vec_len l.wires + length (into_iter_items l.wire-iterator) ≤ vec_capacity l.wires;
}
