use Rattle.std.proofs.Common.{◌≡◌, take}
use Rattle.flake_model.specs.Range.{number_of}
use Rattle.range_pick.proofs.signed.read_plain.Given as goal

-- the number that the digits so far make
abbrev pub invariant-loop-byte : goal.invariant-loop-byte
invariant-loop-byte l = l.number ≡ number_of (take l.byte-index l.word)
