use Rattle.std.proofs.Common.{◌≤◌, length, take}
use Rattle.std.specs.Io.KnownBytes.{Appends}
use Rattle.file_outside.proofs.again.write_front.Given as goal

-- the bytes so far were written
abbrev pub invariant-writes : goal.invariant-writes
invariant-writes g l = record {
  within : l.count ≤ length l.bytes;
  text : Appends (g.F.Write.contents l.fn.writer) (g.F.Write.contents l.writer) (take l.count l.bytes);
}
