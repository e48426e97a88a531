use Rattle.std.proofs.Common.{◌≡◌, length, subst}
use Rattle.reply_layout.specs.Need.{need}
use Rattle.reply_layout.specs.declared.need.Need.{Need}
use Rattle.tx_ring.specs.Shown.{driver_ring, driver_view}
use Rattle.session_pass.specs.Views.{SessionView}
use Rattle.session_pass.specs.Waiting.{waiting, room_left, free_of}
use Rattle.session_pass.proofs.Opening.{left_is}
use Rattle.session_pass.proofs.session.Session.left.Goals as goal

pub returns : goal.returns
returns g c =
    let left : Need = record { descriptors = c.room.result; stage = c.free.result } in
    subst (λ (s : SessionView). left ≡ need (room_left s.ring (waiting s 0))
    (length (free_of s.pass.stage (waiting s 0)))) c.self.view_is
    (left_is c.self.inside.pass c.self.inside.opened.value.seat (driver_ring c.self.inside.driver)
    (driver_view c.self.inside.driver) c.self.inside.stopped
    c.room.result c.free.result c.self.invariant.is c.room.ensures.value c.free.ensures)
