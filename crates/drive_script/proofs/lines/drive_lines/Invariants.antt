use Rattle.std.proofs.Common.{◌≤◌, map, take}
use Rattle.std.specs.Prelude.{vec_capacity}
use Rattle.drive_script.specs.Driving.{driving_of, WereDriven}
use Rattle.drive_script.specs.Connections.{sends_by}
use Rattle.drive_script.specs.Says.{text_room}
use Rattle.drive_script.proofs.lines.drive_lines.Given as goal

abbrev pub invariant-loop-line : goal.invariant-loop-line
invariant-loop-line g l = record {
  driven : WereDriven (sends_by (g.C.WireCalls.put_may l.calls) (g.C.WireCalls.flush_may l.calls))
      g.P.PoolName.sizes g.N.BookName.sizes.shards
      (map (λ d. driving_of d.connection.session d.connection.device.failed d.connection.device.end d.asking.kept
      d.asking.end
      d.asking.pump d.wire) l.fn.sessions.items)
      (take l.line-index l.schedule)
      (map (λ d. driving_of d.connection.session d.connection.device.failed d.connection.device.end d.asking.kept
      d.asking.end
      d.asking.pump d.wire) l.sessions.items)
      l.failed (g.H.Host.host_told l.fn.host) (g.H.Host.host_told l.host);
  room : text_room ≤ vec_capacity l.room.text;
}
