use Rattle.file_outside.proofs.Known.{Keeps-Consumes}
use Rattle.file_outside.proofs.again.read_again.Goals as goal

pub returns-in-Ok-clause-bytes : goal.returns-in-Ok-clause-bytes
returns-in-Ok-clause-bytes g c = Keeps-Consumes _ _ _ _ c.tries.invariant c.in-Ok.ensures.bytes.0
