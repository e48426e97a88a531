use Rattle.std.proofs.Common.{List, ℕ, false, true, arith, ap, sym, subst, ◌≡◌, ◌+◌, ◌≤◌}
use Rattle.mtu_frames.specs.Held.{frames_in}
use Rattle.mtu_frames.specs.Joining.{Joining, HasWhole, replies}
use Rattle.mtu_frames.specs.Puts.{WasPut}
use Rattle.mtu_frames.proofs.Putting.{nothing_put, replies_step, replies_failed}
use Rattle.mtu_frames.proofs.joiner.Joiner.put_all.Goals as goal

pub loop-call-init : goal.loop-call-init
loop-call-init g c = nothing_put _

pub put_reply-requires-clause-kept : goal.put_reply-requires-clause-kept
put_reply-requires-clause-kept g c = c.self.invariant.1

pub put_reply-requires-clause-whole : goal.put_reply-requires-clause-whole
put_reply-requires-clause-whole g c =
    let calls = ap (λ (v : Joining). v.calls) c.self.view_is in
    let test = c.loop-call-test.true in
    subst (λ (v : Joining). HasWhole v.frames c.loop-call.call) (sym c.self.view_is)
    (c.requires c.loop-call.call (omega (arith, calls, test)))

pub returns-then-not-put_reply : goal.returns-then-not-put_reply
returns-then-not-put_reply g c =
    let frames = frames_in c.self.inside.held.entries in
    let call = c.loop-call.call in
    let first = (g.dyn-1.0.entry c.args.wire.now.0).1.wire_told c.args.wire.now.1 in
    let before = (g.dyn-1.0.entry c.loop-call.wire.now.0).1.wire_told c.loop-call.wire.now.1 in
    let after = (g.dyn-1.0.entry c.loop-call.wire.now.0).1.wire_told c.put_reply.new.wire in
    let test = c.loop-call-test.true in
    let le : call + 1 ≤ c.self.inside.calls = omega (arith, test) in
    subst
    (λ (v : Joining). WasPut true (replies v.frames v.calls)
    ((g.dyn-1.0.entry c.args.wire.now.0).1.wire_told c.args.wire.now.1)
    ((g.dyn-1.0.entry c.loop-call.wire.now.0).1.wire_told c.put_reply.new.wire))
    c.self.view_is
    (replies_failed frames (call + 1) c.self.inside.calls first after le
    (replies_step true frames call first before after c.loop-call.invariant c.if-not-put_reply.ensures))

pub loop-call-preserved : goal.loop-call-preserved
loop-call-preserved g c =
    let frames = frames_in c.self.inside.held.entries in
    let call = c.loop-call.call in
    let first = (g.dyn-1.0.entry c.args.wire.now.0).1.wire_told c.args.wire.now.1 in
    let before = (g.dyn-1.0.entry c.loop-call.wire.now.0).1.wire_told c.loop-call.wire.now.1 in
    let after = (g.dyn-1.0.entry c.loop-call.wire.now.0).1.wire_told c.put_reply.new.wire in
    replies_step false frames call first before after c.loop-call.invariant c.if-not-put_reply.ensures

pub returns : goal.returns
returns g c =
    let end = c.loop-call.auto.call-end in
    let test = c.loop-call-test.false in
    let last : c.loop-call.call ≡ c.self.inside.calls = omega (arith, end, test) in
    subst
    (λ (v : Joining). WasPut false (replies v.frames v.calls)
    ((g.dyn-1.0.entry c.args.wire.now.0).1.wire_told c.args.wire.now.1)
    ((g.dyn-1.0.entry c.loop-call.wire.now.0).1.wire_told c.loop-call.wire.now.1))
    c.self.view_is
    (subst (λ (n : ℕ). WasPut false (replies (frames_in c.self.inside.held.entries) n)
    ((g.dyn-1.0.entry c.args.wire.now.0).1.wire_told c.args.wire.now.1)
    ((g.dyn-1.0.entry c.loop-call.wire.now.0).1.wire_told c.loop-call.wire.now.1)) last c.loop-call.invariant)
