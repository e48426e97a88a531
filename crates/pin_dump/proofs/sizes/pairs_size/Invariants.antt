use Rattle.std.proofs.Common.{◌≡◌, take}
use Rattle.resp_text.specs.Sizes.{fitted}
use Rattle.pin_dump.specs.Dumps.{pairs_length}
use Rattle.pin_dump.proofs.sizes.pairs_size.Given as goal

abbrev pub invariant-loop-i : goal.invariant-loop-i
invariant-loop-i g l = l.size ≡ fitted (pairs_length (take l.i l.pairs))
