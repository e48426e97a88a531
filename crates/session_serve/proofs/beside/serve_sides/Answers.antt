use Rattle.std.proofs.Common.{refl, ap, ◌∙◌}
use Rattle.tx_ring.specs.Shown.{completed}
use Rattle.session_serve.proofs.Sides.{served-beside, served-as}
use Rattle.session_serve.proofs.beside.serve_sides.Goals as goal

pub returns-in-Ok-went : goal.returns-in-Ok-went
returns-in-Ok-went g c =
    let ran = rw c.in-Ok.is at c.both_sides-went.ensures.ran in
    let out = rw c.in-Ok-went.is at c.both_sides-went.ensures.out in
    let s = c.settled.ensures in
    served-beside _ _ _ _ _ c.args.session_side.session c.args.session_side.pump c.args.session_side.dump.plan _ _ _ _
    _ c.in-Ok.ended.remains.closed c.in-Ok.ended.dump _ _ _ _ _ _ _ _ _ _ _ _ _ _ _ c.requires.fresh ran
    c.requires.unfailed c.requires.none out.2 s.all s.end s.sent s.seat s.mine s.pump s.dump s.wire

pub returns-in-Err-went : goal.returns-in-Err-went
returns-in-Err-went g c =
    let ran = rw c.in-Ok.is at c.both_sides-went.ensures.ran in
    let idle = rw c.in-Err-went.is at c.both_sides-went.ensures.idle in
    let s = c.settled-in-Err-went.ensures in
    served-as _ _ _ _ _ _ _ _ _ _ _ _ _ _ _ _ _ _ _ _ refl refl refl (ap (λ o. o.wire) idle)
    (served-beside _ _ _ _ _ c.args.session_side.session c.args.session_side.pump c.args.session_side.dump.plan _ _ _ _
    _ c.in-Ok.ended.remains.closed c.in-Ok.ended.dump _ _ _ _ _ _ _ _ _ _ _ _ _ _ _ c.requires.fresh ran
    (ap (λ o. o.device.failed) idle ∙ c.requires.unfailed)
    (ap (λ o. completed o.device.end) idle ∙ c.requires.none.0, ap (λ o. o.sent) idle ∙ c.requires.none.1)
    c.forward_all-device_side.ensures.out s.all s.end s.sent s.seat s.mine s.pump s.dump s.wire)

pub returns-in-Err-went-2 : goal.returns-in-Err-went-2
returns-in-Err-went-2 g c =
    let back = rw c.in-Err.is at c.both_sides-went.ensures.back in
    let idle = rw c.in-Err-went-2.is at c.both_sides-went.ensures.idle in
    served-as _ _ _ _ _ _ _ _ _ _ _ _ _ _ _ _ _ _ _ _ (ap (λ i. i.session) back) (ap (λ i. i.pump) back)
    (ap (λ i. i.dump.plan) back) (ap (λ o. o.wire) idle) c.take_turns.ensures
