use Rattle.std.proofs.Common.{◌++◌, ◌≡◌, ◌+◌, ◌≤◌, All, List, length, vec_len, vec_capacity}
use Rattle.std.specs.List.{AllZip}
use Rattle.std.specs.Vec.Iter.{into_iter_items, into_iter_len}
use Rattle.transcript_model.specs.Lines.{LineEvent}
use Rattle.drive_script.specs.Driving.{Driving, driving_of, IsUnderWay}
use Rattle.drive_script.specs.Connections.{sends_by}
use Rattle.drive_script.specs.Left.{IsGoing, HasLeft}
use Rattle.drive_script.specs.Ran.{HasDriven}
use Rattle.drive_script.proofs.driven.leave_all.Given as goal

abbrev pub invariant-loop-session : goal.invariant-loop-session
invariant-loop-session g l = record {
  all : l.yielded ++ into_iter_items l.session-iterator ≡ l.fn.sessions.items;
  left : into_iter_len l.session-iterator ≡ length (into_iter_items l.session-iterator);
  done : AllZip (λ d a. (first : Driving g.row.W.Denot) (events : List LineEvent)
      → IsUnderWay (sends_by (g.C.WireCalls.put_may l.calls) (g.C.WireCalls.flush_may l.calls))
      g.P.PoolName.sizes g.N.BookName.sizes.shards first events
      (driving_of d.connection.session d.connection.device.failed d.connection.device.end d.asking.kept d.asking.end
      d.asking.pump d.wire)
      → HasLeft (sends_by (g.C.WireCalls.put_may l.calls) (g.C.WireCalls.flush_may l.calls))
      g.P.PoolName.sizes first events a.end a.mine a.pump a.wire
      × HasDriven (g.C.WireCalls.put_may l.calls) (g.C.WireCalls.flush_may l.calls) g.P.PoolName.sizes
      g.N.BookName.sizes.shards first events a.end a.mine a.seat a.pump a.wire) l.yielded l.accounts.items;
  rest : All (λ d. IsGoing (sends_by (g.C.WireCalls.put_may l.calls) (g.C.WireCalls.flush_may l.calls))
      g.P.PoolName.sizes g.N.BookName.sizes.shards
      (driving_of d.connection.session d.connection.device.failed d.connection.device.end d.asking.kept d.asking.end
      d.asking.pump
      d.wire)) (into_iter_items l.session-iterator);
  room : vec_len l.accounts + length (into_iter_items l.session-iterator) ≤ vec_capacity l.accounts;
}
