use Rattle.std.proofs.Common.{◌≡◌, false, ◌+◌, ◌-◌, List, [], length}
use Rattle.flake_model.specs.Command.{Command}
use Rattle.flake_model.specs.Resp.{judged_bytes}
use Rattle.shard_core.specs.Outcomes.{Outcomes}
use Rattle.device_model.specs.Devices.{ForwardsAs}
use Rattle.reply_planner.specs.Parcels.{texts_in}
use Rattle.session_serve.specs.Dumps.{CanTake, IsInTime, Stands, as_seeing}
use Rattle.session_serve.specs.Forms.{each_as_sent}
use Rattle.session_serve.specs.Whole.{SentWhole}
use Rattle.session_serve.specs.Working.{IsGathered, IsWorking}
use Rattle.session_serve.proofs.serve.serve_in_turns.Given as goal

abbrev pub invariant-turns : goal.invariant-turns
invariant-turns g l = record {
  gathered : IsGathered l.link.session l.link.device.end;
  unstopped : l.link.session.stopped ≡ false;
  working : (given : List Command) × (calls : List Outcomes)
      × IsWorking g.P.PoolName.sizes g.N.BookName.sizes.shards (as_seeing l.link.session.pass.list l.fn.link.session)
      l.fn.link.pump.origin l.fn.link.pump.faults given calls l.link.session l.link.pump;
  plan : CanTake g.P.PoolName.sizes g.N.BookName.sizes.shards l.link.dump.plan;
  stands : Stands g.N.BookName.sizes.shards l.fn.link.dump.plan l.link.dump.plan l.link.dump.taken
      l.fn.link.session.pass.list l.link.session.pass.list;
  in_time : IsInTime l.fn.link.dump.plan l.link.dump.plan (length l.link.session.posted);
  mtu : l.link.mtu ≡ l.fn.link.mtu;
  forwards : ForwardsAs l.fn.link.mtu (g.C.WireCalls.put_may l.calls) (g.C.WireCalls.flush_may l.calls)
      false l.link.device.failed [] l.link.session.posted l.fn.wire l.wire;
  whole : SentWhole (g.C.WireCalls.put_may l.calls) (g.C.WireCalls.flush_may l.calls) l.link.device.failed
      (each_as_sent l.fn.link.mtu l.link.session.posted) (texts_in l.link.session.posted) l.sent l.fn.wire l.wire;
}

abbrev pub decreases-turns : goal.decreases-turns
decreases-turns g l = judged_bytes + 2 - length l.link.session.posted
