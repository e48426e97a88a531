use Rattle.std.proofs.Common.{◌≡◌, ℕ, List, ◌++◌, false, length}
use Rattle.mtu_frames.specs.Puts.{WasPut}
use Rattle.mtu_frames.proofs.joiner.put_bytes.Given as goal

abbrev pub invariant-loop-rest : goal.invariant-loop-rest
invariant-loop-rest g l =
    (front : List ℕ) × (l.fn.bytes ≡ front ++ l.rest)
    × WasPut false front ((g.dyn-1.0.entry l.initial.wire.now.0).1.wire_told l.initial.wire.now.1)
    ((g.dyn-1.0.entry l.wire.now.0).1.wire_told l.wire.now.1)

abbrev pub decreases-loop-rest : goal.decreases-loop-rest
decreases-loop-rest g l = length l.rest
