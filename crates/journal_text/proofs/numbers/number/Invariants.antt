use Rattle.std.proofs.Common.{◌≡◌, ◌+◌, ◌≤◌, ◌^◌, take}
use Rattle.std.specs.Fmt.{decimal}
use Rattle.journal_text.proofs.numbers.number.Given as goal

-- the digits so far
abbrev pub invariant-loop-byte : goal.invariant-loop-byte
invariant-loop-byte l = record {
  small : l.n ≤ 2 ^ 32;
  came : decimal l.n ≡ take (l.byte-index + 1) l.fn.word;
}
