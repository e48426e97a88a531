use Rattle.std.proofs.Common.{◌≡◌, ◌++◌, ℕ, List, length}
use Rattle.flake_model.specs.Resp.{Words}
use Rattle.resp_reader.specs.Reader.{ReadsRequests}
use Rattle.reader_bench.proofs.take.Given as goal

abbrev pub invariant-loop-request : goal.invariant-loop-request
invariant-loop-request l = record {
  closed : l.reader.closed ≡ l.fn.reader.closed;
  fed : (bytes : List ℕ) (given : List Words) → ReadsRequests bytes given l.fn.reader → (more : List Words)
      × ReadsRequests bytes (given ++ more) l.reader;
}

abbrev pub decreases-loop-request : goal.decreases-loop-request
decreases-loop-request l = length l.reader.requests
