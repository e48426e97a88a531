use Rattle.std.proofs.Common.{List, ℕ, ◌+◌, ◌≤◌, false, true, arith, ap, sym, subst, length}
use Rattle.mtu_frames.specs.Joining.{frame_at, frame_count, pieces_joined}
use Rattle.mtu_frames.specs.Puts.{WasPut}
use Rattle.mtu_frames.specs.Held.{frames_in, frame_with}
use Rattle.mtu_frames.proofs.Putting.{nothing_put, reply_step, reply_failed, below_count, full_count}
use Rattle.mtu_frames.proofs.joiner.put_reply.Goals as goal

pub loop-cut-init : goal.loop-cut-init
loop-cut-init g c = (omega arith, nothing_put _)

pub overflow_add-index : goal.overflow_add-index
overflow_add-index g c =
    let kept = c.requires.kept.below _ _ _ (sym c.in-Some.ensures) in
    omega (arith, kept.0, kept.1)

pub loop-cut-smaller : goal.loop-cut-smaller
loop-cut-smaller g c =
    let low = below_count _ _ _ _ c.requires.kept c.requires.whole (sym c.in-Some.ensures) in
    omega (arith, low)

pub loop-cut-preserved : goal.loop-cut-preserved
loop-cut-preserved g c =
    let frames = frames_in c.args.held.now.entries in
    let call = c.args.call in
    let index = c.loop-cut.index in
    let frame = frame_with call index c.in-Some.cut.now in
    let first = (g.dyn-1.0.entry c.args.wire.now.0).1.wire_told c.args.wire.now.1 in
    let before = (g.dyn-1.0.entry c.loop-cut.wire.now.0).1.wire_told c.loop-cut.wire.now.1 in
    let after = (g.dyn-1.0.entry c.loop-cut.wire.now.0).1.wire_told c.put_bytes.new.wire in
    let low = below_count frames call index frame c.requires.kept c.requires.whole (sym c.in-Some.ensures) in (
      omega (arith, low),
      reply_step false frames call index frame c.as_slice.result.now first before after
          (sym c.in-Some.ensures) c.as_slice.ensures c.loop-cut.invariant.1 c.if-not-put_bytes.ensures,
    )

pub returns-then-not-put_bytes : goal.returns-then-not-put_bytes
returns-then-not-put_bytes g c =
    let frames = frames_in c.args.held.now.entries in
    let call = c.args.call in
    let index = c.loop-cut.index in
    let frame = frame_with call index c.in-Some.cut.now in
    let first = (g.dyn-1.0.entry c.args.wire.now.0).1.wire_told c.args.wire.now.1 in
    let before = (g.dyn-1.0.entry c.loop-cut.wire.now.0).1.wire_told c.loop-cut.wire.now.1 in
    let after = (g.dyn-1.0.entry c.loop-cut.wire.now.0).1.wire_told c.put_bytes.new.wire in
    let low = below_count frames call index frame c.requires.kept c.requires.whole (sym c.in-Some.ensures) in
    let le : index + 1 ≤ frame_count (frame_at frames call 0) = omega (arith, low) in
    reply_failed frames call (index + 1) (frame_count (frame_at frames call 0)) first after le
    (reply_step true frames call index frame c.as_slice.result.now first before after
    (sym c.in-Some.ensures) c.as_slice.ensures c.loop-cut.invariant.1 c.if-not-put_bytes.ensures)

pub returns : goal.returns
returns g c =
    let frames = frames_in c.args.held.now.entries in
    let last = full_count frames c.args.call c.loop-cut.index c.requires.whole
    (sym c.in_default.ensures) c.loop-cut.invariant.0 in
    subst
    (λ (n : ℕ). WasPut false (pieces_joined frames c.args.call n)
    ((g.dyn-1.0.entry c.args.wire.now.0).1.wire_told c.args.wire.now.1)
    ((g.dyn-1.0.entry c.loop-cut.wire.now.0).1.wire_told c.loop-cut.wire.now.1))
    last c.loop-cut.invariant.1
