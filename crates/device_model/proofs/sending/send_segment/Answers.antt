use Rattle.std.proofs.Common.{◌≡◌, ◌+◌, ◌∷◌, ◌++◌, [], inl, inr, ⊎_elim, length, take, rules, sym, ap, ◌∙◌, subst}
use Rattle.std.proofs.Common.{arith}
use Rattle.std.proofs.lemmas.List.{length-take}
use Rattle.std.proofs.lemmas.Bool.{cases_lt}
use Rattle.any_wire.specs.Sends.{puts, Chain}
use Rattle.any_wire.proofs.Sending.{sends-on, sends-same}
use Rattle.flake_base.specs.declared.segment.Seg.{Seg}
use Rattle.reply_planner.specs.Parcels.{Sent, HasBytes}
use Rattle.reply_planner.specs.Places.{place_of, buffer_bytes}
use Rattle.device_model.proofs.Cutting.{whole-times, whole-more, pieces-more, chain-more}
use Rattle.device_model.proofs.Puts.{bytes-more, segment-readable, segment-short, fits-in, run-there}
use Rattle.device_model.proofs.sending.send_segment.Goals as goal

pub unreachable-requires : goal.unreachable-requires
unreachable-requires g c =
    let z = g.N.PoolName.sizes in
    let seg : Seg = c.args.segment in
    let may = segment-readable z c.args.parcel.now c.requires.segment.0 seg c.is_parcel.ensures c.requires.segment.1 in
    c.buffer_at.ensures.none c.in_default.is (place_of z seg.address).0 (place_of z seg.address).1 may.held.covered

pub overflow_add-from : goal.overflow_add-from
overflow_add-from g c =
    let z = g.N.PoolName.sizes in
    let short = segment-short z c.args.parcel.now c.requires.segment.0 c.args.segment c.is_parcel.ensures
    c.requires.segment.1 in
    omega (
      arith,
      fits-in z c.in-Some.buffer c.in-Some.from c.args.segment.address c.in-Some.ensures.some,
      c.loop-done-test.true,
      short,
    )

pub send_piece-after-requires-clause-bytes : goal.send_piece-after-requires-clause-bytes
send_piece-after-requires-clause-bytes g c =
    let z = g.N.PoolName.sizes in
    let size : length (take c.min-count.result c.loop-done.room) ≡ c.min-count.result = search (rules, length-take) in
    subst (HasBytes z c.loop-done.parcel.segments c.in-Some.buffer (c.in-Some.from + c.loop-done.done)) (sym size)
    (subst (λ (p : Sent). HasBytes z p.segments c.in-Some.buffer (c.in-Some.from + c.loop-done.done) c.min-count.result)
    (sym c.loop-done.invariant.parcel)
    (run-there z c.args.parcel.now c.requires.segment.0 c.args.segment c.in-Some.buffer c.in-Some.from c.loop-done.done
    c.min-count.result
    c.requires.segment.1 c.in-Some.ensures.some (omega (arith, c.min-count.ensures, c.loop-done-test.true))))

pub loop-done-preserved : goal.loop-done-preserved
loop-done-preserved g c =
    let hs = c.args.parcel.now.holds in
    let before = c.loop-done.invariant in
    let b = c.in-Some.buffer in
    let from = c.in-Some.from in
    let done = c.loop-done.done in
    let n = c.min-count.result in
    let size : length (take n c.loop-done.room) ≡ n = search (rules, length-take) in
    let bytes : buffer_bytes c.loop-done.parcel.holds b (from + done) (length (take n c.loop-done.room))
    ≡ buffer_bytes hs b (from + done) n =
    ap (λ (p : Sent). buffer_bytes p.holds b (from + done) (length (take n c.loop-done.room))) before.parcel
    ∙ ap (buffer_bytes hs b (from + done)) size in
    record {
      within = omega (arith, c.min-count.ensures, c.loop-done-test.true);
      parcel = c.send_piece-after.ensures.parcel ∙ before.parcel;
      sends = sends-same _ _ _ _ _ _ _ _ (bytes-more hs b from done n)
          (sends-on _ _ _ _ _ _ _ _ _ _ before.sends
          (sends-same _ _ _ _ _ _ _ _ bytes c.send_piece-after.ensures.sends));
      pieces =
          let k = whole-times done c.args.segment.len before.whole c.loop-done-test.true in (
            before.pieces.0 ++ puts (buffer_bytes hs b (from + done) n) ∷ [],
            pieces-more g.N.PoolName.sizes c.args.parcel.now c.requires.segment.0 c.args.segment b from done n k.0
                before.pieces.0
                c.is_parcel.ensures c.requires.segment.1 c.in-Some.ensures.some k.1
                (omega (arith, c.min-count.ensures, c.loop-done-test.true)) (omega (arith, c.min-count.ensures))
                (omega (arith, c.min-count.ensures, c.loop-done-test.true)) before.pieces.1,
            chain-more (g.C.WireCalls.put_may c.args.calls.now) before.pieces.0
                (puts (buffer_bytes hs b (from + done) n) ∷ []) _ _ _ _ _ _
                before.pieces.2
                (subst
                (λ piece. Chain (g.C.WireCalls.put_may c.args.calls.now) (λ w r. ⊥) (puts piece ∷ [])
                c.loop-done.has_failed c.send_piece-after.result.1 c.loop-done.wire c.send_piece-after.result.0)
                bytes c.send_piece-after.ensures.piece),
          );
      whole =
          whole-more done c.args.segment.len n before.whole c.loop-done-test.true
          (⊎_elim
          (λ near. inr (omega (arith, c.min-count.ensures, near, c.loop-done-test.true)))
          (λ far. inl (omega (arith, c.min-count.ensures, far, c.loop-done-test.true)))
          (cases_lt (c.args.segment.len) (done + 512)));
    }
