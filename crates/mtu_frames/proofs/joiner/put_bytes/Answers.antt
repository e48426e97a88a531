use Rattle.std.proofs.Common.{[], refl, arith}
use Rattle.mtu_frames.proofs.Putting.{nothing_put, piece_put, piece_failed, some_left, none_left, all_put}
use Rattle.mtu_frames.proofs.joiner.put_bytes.Goals as goal

pub loop-rest-init : goal.loop-rest-init
loop-rest-init g c = ([], refl, nothing_put _)

pub put_piece-requires : goal.put_piece-requires
put_piece-requires g c =
    let some = some_left c.loop-rest.rest.now c.is_empty.result c.is_empty.ensures c.loop-rest-test.true in
    let count = c.min-count.ensures in
    let long = c.split_at.ensures.front_len in
    (omega (arith, some, count, long), omega (arith, count, long))

pub loop-rest-smaller : goal.loop-rest-smaller
loop-rest-smaller g c =
    let some = some_left c.loop-rest.rest.now c.is_empty.result c.is_empty.ensures c.loop-rest-test.true in
    let count = c.min-count.ensures in
    let long = c.split_at.ensures.back_len in
    omega (arith, some, count, long)

pub loop-rest-preserved : goal.loop-rest-preserved
loop-rest-preserved g c =
    let first = (g.dyn-1.0.entry c.args.wire.now.0).1.wire_told c.args.wire.now.1 in
    let before = (g.dyn-1.0.entry c.loop-rest.wire.now.0).1.wire_told c.loop-rest.wire.now.1 in
    let after = (g.dyn-1.0.entry c.loop-rest.wire.now.0).1.wire_told c.put_piece.new.wire in
    piece_put c.args.bytes.now c.loop-rest.invariant.0 c.loop-rest.rest.now c.split_at.result.0.now
    c.split_at.result.1.now c.min-count.result first before after c.loop-rest.invariant.1 c.split_at.ensures.front
    c.split_at.ensures.back c.loop-rest.invariant.2 c.if-not-put_piece.ensures

pub returns-then-not-put_piece : goal.returns-then-not-put_piece
returns-then-not-put_piece g c =
    let first = (g.dyn-1.0.entry c.args.wire.now.0).1.wire_told c.args.wire.now.1 in
    let before = (g.dyn-1.0.entry c.loop-rest.wire.now.0).1.wire_told c.loop-rest.wire.now.1 in
    let after = (g.dyn-1.0.entry c.loop-rest.wire.now.0).1.wire_told c.put_piece.new.wire in
    piece_failed c.args.bytes.now c.loop-rest.invariant.0 c.loop-rest.rest.now c.split_at.result.0.now
    c.split_at.result.1.now c.min-count.result first before after c.loop-rest.invariant.1 c.split_at.ensures.front
    c.split_at.ensures.back c.loop-rest.invariant.2 c.if-not-put_piece.ensures

pub returns : goal.returns
returns g c =
    let first = (g.dyn-1.0.entry c.args.wire.now.0).1.wire_told c.args.wire.now.1 in
    let last = (g.dyn-1.0.entry c.loop-rest.wire.now.0).1.wire_told c.loop-rest.wire.now.1 in
    all_put c.args.bytes.now c.loop-rest.invariant.0 c.loop-rest.rest.now first last c.loop-rest.invariant.1
    (none_left c.loop-rest.rest.now c.is_empty.result c.is_empty.ensures c.loop-rest-test.false)
    c.loop-rest.invariant.2
