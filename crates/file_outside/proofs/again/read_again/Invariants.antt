use Rattle.std.specs.Io.KnownBytes.{Keeps}
use Rattle.file_outside.proofs.again.read_again.Given as goal

abbrev pub invariant-tries : goal.invariant-tries
invariant-tries g l = Keeps (g.F.Read.remaining l.fn.reader) (g.F.Read.remaining l.reader)
