use Rattle.std.proofs.Common.{◌≡◌, ◌+◌, ◌-◌, ◌++◌, length}
use Rattle.check_files.proofs.whole.read_whole.Given as goal

abbrev pub invariant-loop-room : goal.invariant-loop-room
invariant-loop-room g l = record {
  gave : g.S.Source.given l.source ≡ g.S.Source.given l.fn.source ++ l.bytes.items;
  faults : g.S.Source.read_faults l.source ≡ g.S.Source.read_faults l.fn.source;
  name : g.S.Source.name l.source ≡ g.S.Source.name l.fn.source;
  whole : g.S.Source.whole l.source ≡ g.S.Source.whole l.fn.source;
}

abbrev pub decreases-loop-room : goal.decreases-loop-room
decreases-loop-room g l = l.limit + 1 - length l.bytes.items
