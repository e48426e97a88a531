use Rattle.std.proofs.Common.{◌≡◌, None}
use Rattle.test_text.proofs.requests.read.Given as goal

abbrev pub invariant-loop-piece : goal.invariant-loop-piece
invariant-loop-piece l = l.reader.closed ≡ None
