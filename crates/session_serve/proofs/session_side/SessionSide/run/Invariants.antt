use Rattle.std.proofs.Common.{◌≡◌, ◌+◌, ◌-◌, List, length}
use Rattle.flake_model.specs.Command.{Command}
use Rattle.flake_model.specs.Resp.{judged_bytes}
use Rattle.shard_core.specs.Outcomes.{Outcomes}
use Rattle.session_serve.specs.Dumps.{CanTake, IsInTime, Stands, as_seeing}
use Rattle.session_serve.specs.Working.{IsWorking}
use Rattle.session_serve.proofs.session_side.SessionSide.run.Given as goal

abbrev pub invariant-calls : goal.invariant-calls
invariant-calls g l = record {
  ring : l.session_side.session.ring ≡ l.fn.self.session.ring;
  working : (given : List Command) × (calls : List Outcomes)
      × IsWorking g.P.PoolName.sizes g.N.BookName.sizes.shards
      (as_seeing l.session_side.session.pass.list l.fn.self.session) l.fn.self.pump.origin
      l.fn.self.pump.faults given calls l.session_side.session l.session_side.pump;
  plan : CanTake g.P.PoolName.sizes g.N.BookName.sizes.shards l.session_side.dump.plan;
  stands : Stands g.N.BookName.sizes.shards l.fn.self.dump.plan l.session_side.dump.plan l.session_side.dump.taken
      l.fn.self.session.pass.list l.session_side.session.pass.list;
  in_time : IsInTime l.fn.self.dump.plan l.session_side.dump.plan (length l.session_side.session.posted);
}

abbrev pub decreases-calls : goal.decreases-calls
decreases-calls g l = judged_bytes + 2 - length l.session_side.session.posted
