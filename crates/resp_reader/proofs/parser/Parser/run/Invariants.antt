use Rattle.std.proofs.Common.{◌≡◌, ◌≤◌, length}
use Rattle.resp_reader.specs.Begun.{IsBegunSound, IsUnfinished}
use Rattle.resp_reader.specs.Parser.{TakesTo, CanGoBack}
use Rattle.resp_reader.proofs.parser.Parser.run.Given as goal

abbrev pub invariant-loop-rest : goal.invariant-loop-rest
invariant-loop-rest l = record {
  so_far : TakesTo l.fn.self l.self l.bytes l.rest;
  sound : IsBegunSound l.self.begun;
  awaits : IsUnfinished l.self.begun.state;
  back : CanGoBack l.fn.self l.self;
  taken : l.self.taken ≡ l.fn.self.taken;
  shorter : length l.rest ≤ length l.bytes;
}

abbrev pub decreases-loop-rest : goal.decreases-loop-rest
decreases-loop-rest l = length l.rest
