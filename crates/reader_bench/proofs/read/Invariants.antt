use Rattle.std.proofs.Common.{◌≡◌, ◌++◌, ℕ, List, None, length}
use Rattle.flake_model.specs.Resp.{Words}
use Rattle.resp_reader.specs.Reader.{ReadsRequests}
use Rattle.reader_bench.proofs.read.Given as goal

-- what was fed, what was given, and the rest
abbrev pub invariant-loop-rest : goal.invariant-loop-rest
invariant-loop-rest l = record {
  closed : l.reader.closed ≡ None;
  fed : (bytes : List ℕ) × (given : List Words) × (bytes ++ l.rest ≡ l.input) × ReadsRequests bytes given l.reader;
}

abbrev pub decreases-loop-rest : goal.decreases-loop-rest
decreases-loop-rest l = length l.rest
