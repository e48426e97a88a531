use Rattle.std.proofs.Common.{rules, ◌≡◌, length, true, false, refl, sym, subst, arith}
use Rattle.any_wire.specs.Sends.{Puts}
use Rattle.any_wire.proofs.Sending.{sends-put}
use Rattle.reply_planner.specs.Places.{buffer_bytes}
use Rattle.any_wire.specs.Sends.{PutsText}
use Rattle.device_model.proofs.Cutting.{chain-put}
use Rattle.device_model.proofs.Puts.{run-length}
use Rattle.device_model.proofs.sending.send_piece.Goals as goal

pub returns-then-failed-clause-sends : goal.returns-then-failed-clause-sends
returns-then-failed-clause-sends g c =
    let p = c.args.parcel.now in
    let bytes = buffer_bytes p.holds c.args.buffer c.args.from (length c.args.room.now) in
    let n = run-length g.N.PoolName.sizes p c.args.buffer c.args.from (length c.args.room.now) c.is_parcel.ensures
    c.requires.bytes in
    subst (λ f. PutsText (g.C.WireCalls.put_may c.args.calls.now) f true bytes c.args.wire c.args.wire)
    (sym c.if-failed.true)
    (sends-put (g.C.WireCalls.put_may c.args.calls.now) (λ w r. ⊥) true true bytes c.args.wire c.args.wire
    (omega (arith, n, c.requires.count.0), omega (arith, n, c.requires.count.1)) (refl, refl))

pub returns-clause-sends : goal.returns-clause-sends
returns-clause-sends g c =
    let p = c.args.parcel.now in
    let bytes = buffer_bytes p.holds c.args.buffer c.args.from (length c.args.room.now) in
    let n = run-length g.N.PoolName.sizes p c.args.buffer c.args.from (length c.args.room.now) c.is_parcel.ensures
    c.requires.bytes in
    let read : c.load_bytes.new.room ≡ bytes = search rules in
    let done : Puts (g.C.WireCalls.put_may c.args.calls.now) false c.put.result.1 bytes c.args.wire
    c.put.result.0 = (_, read, c.put.ensures) in
    subst (λ f. PutsText (g.C.WireCalls.put_may c.args.calls.now) f c.put.result.1 bytes c.args.wire
    c.put.result.0) (sym c.if-failed.false)
    (sends-put (g.C.WireCalls.put_may c.args.calls.now) (λ w r. ⊥) false c.put.result.1 bytes c.args.wire
    c.put.result.0 (omega (arith, n, c.requires.count.0), omega (arith, n, c.requires.count.1)) done)

pub returns-then-failed-clause-piece : goal.returns-then-failed-clause-piece
returns-then-failed-clause-piece g c =
    let bytes = buffer_bytes c.args.parcel.now.holds c.args.buffer c.args.from (length c.args.room.now) in
    chain-put (g.C.WireCalls.put_may c.args.calls.now) c.args.failed true bytes c.args.wire c.args.wire
    (subst (λ f. Puts (g.C.WireCalls.put_may c.args.calls.now) f true bytes c.args.wire c.args.wire)
    (sym c.if-failed.true) (refl, refl))

pub returns-clause-piece : goal.returns-clause-piece
returns-clause-piece g c =
    let bytes = buffer_bytes c.args.parcel.now.holds c.args.buffer c.args.from (length c.args.room.now) in
    let read : c.load_bytes.new.room ≡ bytes = search rules in
    let done : Puts (g.C.WireCalls.put_may c.args.calls.now) false c.put.result.1 bytes c.args.wire
    c.put.result.0 = (_, read, c.put.ensures) in
    chain-put (g.C.WireCalls.put_may c.args.calls.now) c.args.failed c.put.result.1 bytes c.args.wire
    c.put.result.0
    (subst (λ f. Puts (g.C.WireCalls.put_may c.args.calls.now) f c.put.result.1 bytes c.args.wire c.put.result.0)
    (sym c.if-failed.false) done)
