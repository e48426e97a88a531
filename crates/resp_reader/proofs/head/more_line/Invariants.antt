use Rattle.std.proofs.Common.{◌≡◌, ◌≤◌, ◌++◌, length}
use Rattle.std.specs.Fmt.{decimal}
use Rattle.resp_reader.proofs.head.more_line.Given as goal

-- the digits so far
abbrev pub invariant-loop-byte : goal.invariant-loop-byte
invariant-loop-byte l = record {
  within : l.n ≤ l.limit;
  came : decimal l.fn.n ++ l.bytes ≡ decimal l.n ++ l.rest;
  shorter : length l.rest ≤ length l.bytes;
}

abbrev pub decreases-loop-byte : goal.decreases-loop-byte
decreases-loop-byte l = length l.rest
