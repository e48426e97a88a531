use Rattle.std.proofs.Common.{◌≡◌, ◌++◌, take}
use Rattle.resp_reader.specs.Head.{digits_text, IsDigits}
use Rattle.resp_reader.proofs.head.all.Given as goal

abbrev pub invariant-loop-i : goal.invariant-loop-i
invariant-loop-i l = record {
  allowed : IsDigits l.head l.line;
  came : digits_text l.line ≡ digits_text l.fn.digits
      ++ take l.i l.bytes;
}
