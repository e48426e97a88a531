use Rattle.std.proofs.Common.{length}
use Rattle.test_text.proofs.requests.lend.Given as goal

abbrev pub decreases-loop-request : goal.decreases-loop-request
decreases-loop-request g l = length l.reader.requests
