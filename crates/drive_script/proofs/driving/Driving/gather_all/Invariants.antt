use Rattle.std.proofs.Common.{◌≡◌, List}
use Rattle.std.specs.Prelude.{IsSome}
use Rattle.tx_ring.specs.Shown.{device_ring}
use Rattle.transcript_model.specs.Lines.{LineEvent}
use Rattle.drive_script.specs.Driving.{Driving, driving_of, IsUnderWay}
use Rattle.drive_script.specs.Connections.{sends_by}
use Rattle.drive_script.specs.Left.{GoesQuietly}
use Rattle.drive_script.proofs.driving.Driving.gather_all.Given as goal

abbrev pub invariant-loop-i : goal.invariant-loop-i
invariant-loop-i g l = record {
  ring : device_ring l.self.connection.device.end ≡ l.self.connection.session.ring;
  wire : IsSome l.self.wire;
  posted : l.self.connection.session.posted ≡ l.fn.self.connection.session.posted;
  quietly : (first : Driving g.row.W.Denot) (events : List LineEvent)
      → IsUnderWay (sends_by (g.C.WireCalls.put_may l.calls) (g.C.WireCalls.flush_may l.calls))
      g.P.PoolName.sizes g.N.BookName.sizes.shards first events
      (driving_of l.fn.self.connection.session l.fn.self.connection.device.failed l.fn.self.connection.device.end
      l.fn.self.asking.kept
      l.fn.self.asking.end l.fn.self.asking.pump l.fn.self.wire)
      → GoesQuietly (sends_by (g.C.WireCalls.put_may l.calls) (g.C.WireCalls.flush_may l.calls))
      g.P.PoolName.sizes g.N.BookName.sizes.shards first events l.i
      (driving_of l.self.connection.session l.self.connection.device.failed l.self.connection.device.end
      l.self.asking.kept
      l.self.asking.end l.self.asking.pump l.self.wire);
}
