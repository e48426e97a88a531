use Rattle.std.proofs.Common.{◌-◌, length}
use Rattle.session_pass.proofs.Rooms.{RoomSoFar}
use Rattle.session_pass.proofs.session.Session.make_room.Given as goal

abbrev pub invariant-reaps : goal.invariant-reaps
invariant-reaps g l = RoomSoFar l.need l.freed l.initial.self l.self

abbrev pub decreases-reaps : goal.decreases-reaps
decreases-reaps g l = length l.self.posted - length l.self.reaped
