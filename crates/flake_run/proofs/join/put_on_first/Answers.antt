use Rattle.std.proofs.Common.{◌≡◌, ap, not, subst}
use Rattle.flake_base.specs.Told.{WireTold}
use Rattle.flake_model.specs.Wire.{KeptIs}
use Rattle.mtu_frames.specs.Joining.{replies}
use Rattle.any_wire.specs.Sent.{WasSent}
use Rattle.flake_run.proofs.JoinedAll.{put_first}
use Rattle.flake_run.proofs.join.put_on_first.Goals as goal

pub returns : goal.returns
returns g c =
    let old : WireTold = (g.dyn-1.0.entry c.index_mut.result.now.vtable).1.wire_told c.index_mut.result.now.value in
    let new : WireTold = (g.dyn-1.0.entry c.deref_box_mut-1.result.now.0).1.wire_told c.put_joined.new.wire in
    let same : (g.dyn-1.0.entry c.deref_box_mut-1.result.now.0).1.wire_told c.deref_box_mut-1.result.now.1 ≡ old =
    ap (λ p. (g.dyn-1.0.entry p.0).1.wire_told p.1) c.deref_box_mut-1.ensures.value.1 in
    put_first _ _ c.args.wires.now.items c.index_mut.result.now _
    (λ w. (g.dyn-1.0.entry w.vtable).1.wire_told w.value) c.requires.first c.index_mut.ensures.value
    (subst (λ (told : WireTold). WasSent (not c.put_joined.result)
    (replies c.args.joiner.now.frames c.args.joiner.now.calls) told new) same c.put_joined.ensures.sent)
    (subst (λ (told : WireTold). KeptIs (not c.put_joined.result) told.kept new.kept) same
    c.put_joined.ensures.flushed)
