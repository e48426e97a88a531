use Rattle.std.proofs.Common.{false}
use Rattle.mtu_frames.specs.Joining.{replies}
use Rattle.mtu_frames.specs.Held.{frames_in}
use Rattle.mtu_frames.specs.Puts.{WasPut}
use Rattle.mtu_frames.proofs.joiner.Joiner.put_all.Given as goal

abbrev pub invariant-loop-call : goal.invariant-loop-call
invariant-loop-call g l =
    WasPut false (replies (frames_in l.self-inside.held.entries) l.call)
    ((g.dyn-1.0.entry l.initial.wire.now.0).1.wire_told l.initial.wire.now.1)
    ((g.dyn-1.0.entry l.wire.now.0).1.wire_told l.wire.now.1)
