use Rattle.std.proofs.Common.{ℕ, ◌<◌}
use Rattle.tx_descriptor.specs.Bytes.{IsInProfile}
use Rattle.tx_descriptor.proofs.legacy.Legacy.of_bytes.Given as goal

abbrev pub invariant-loop-byte : goal.invariant-loop-byte
invariant-loop-byte l = (j : ℕ) → j < l.byte → IsInProfile l.bytes j
