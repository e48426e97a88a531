use Rattle.std.proofs.Common.{◌≡◌, length, take, drop, true, false, refl, sym, ap, subst, arith}
use Rattle.any_wire.proofs.Sending.{sends-put, sends-same}
use Rattle.pinned_pool.specs.Bytes.{bytes_of_words}
use Rattle.pinned_pool.specs.Moves.{front_of}
use Rattle.any_wire.specs.Sends.{PutsText}
use Rattle.pin_dump.proofs.PutSteps.{piece-length}
use Rattle.pin_dump.proofs.values.put_piece.Goals as goal

pub returns-then-failed-clause-puts : goal.returns-then-failed-clause-puts
returns-then-failed-clause-puts g c =
    let bytes = take (length c.args.room.now) (drop c.args.from (bytes_of_words (front_of c.args.buffer
    c.args.seat.now.holds))) in
    let n = piece-length c.args.seat.now.holds c.args.buffer c.args.from (length c.args.room.now) c.requires.inside in
    subst (λ f. PutsText (g.C.WireCalls.put_may c.args.calls.now) f true bytes c.args.wire c.args.wire) (sym
    c.if-failed.true)
    (sends-put (g.C.WireCalls.put_may c.args.calls.now) (λ w r. ⊥) true true bytes c.args.wire c.args.wire
    (omega (arith, n, c.requires.count.0), omega (arith, n, c.requires.count.1)) (refl, refl))

pub returns-clause-puts : goal.returns-clause-puts
returns-clause-puts g c =
    let bytes = take (length c.args.room.now) (drop c.args.from (bytes_of_words (front_of c.args.buffer
    c.args.seat.now.holds))) in
    let n = piece-length c.args.seat.now.holds c.args.buffer c.args.from (length c.args.room.now) c.requires.inside in
    let read : c.load_bytes.new.room ≡ bytes = c.load_bytes.ensures.bytes in
    subst (λ f. PutsText (g.C.WireCalls.put_may c.args.calls.now) f c.put_unless_failed.result.1 bytes
    c.args.wire c.put_unless_failed.result.0) (sym c.if-failed.false)
    (sends-same (g.C.WireCalls.put_may c.args.calls.now) (λ w r. ⊥) false c.put_unless_failed.result.1
    c.load_bytes.new.room bytes c.args.wire c.put_unless_failed.result.0 read
    (sends-put (g.C.WireCalls.put_may c.args.calls.now) (λ w r. ⊥) false c.put_unless_failed.result.1
    c.load_bytes.new.room c.args.wire c.put_unless_failed.result.0 (
      omega (arith, ap length read, n, c.requires.count.0),
      omega (
        arith,
        ap length read,
        n,
        c.requires.count.1,
      ),
    ) c.put_unless_failed.ensures))
