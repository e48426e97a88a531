use Rattle.std.proofs.Common.{◌≡◌, ◌<◌, ◌+◌, ◌-◌, ◌∷◌, ◌++◌, [], true, min, length, map, take, drop, rules, refl, sym}
use Rattle.std.proofs.Common.{ap, ◌∙◌, subst, append_assoc, append-nil, arith}
use Rattle.std.proofs.lemmas.List.{length-drop, length-take, map-append}
use Rattle.any_wire.proofs.Behind.{sends-over}
use Rattle.any_wire.proofs.Sending.{sends-none, sends-on, sends-same}
use Rattle.mtu_frames.specs.Frames.{MtuFrame, mtu_frame_bytes, header_bytes, cuts_from, cuts_of}
use Rattle.reply_planner.specs.Parcels.{Sent, IsSent}
use Rattle.tx_ring.specs.Jobs.{frame_of}
use Rattle.any_wire.specs.Sends.{PutsText}
use Rattle.device_model.specs.Framing.{text_behind, IsInText}
use Rattle.device_model.specs.Pieces.{PutsEach}
use Rattle.device_model.proofs.Framed.{in-first, behind-all, frames_left, left-next, take-least, drop-least}
use Rattle.device_model.proofs.FrameByFrame.{frames_to_put, next-to-put, none-to-put}
use Rattle.device_model.proofs.FrameByFrame.{puts-each-on, puts-each-one, puts-each-over}
use Rattle.device_model.proofs.framing.send_framed.Goals as goal

pub loop-left-init : goal.loop-left-init
loop-left-init g c =
    let p = frame_of c.args.job.now in
    let z = g.N.PoolName.sizes in
    let is : IsSent z p = subst (IsSent z) c.frame-whole.ensures.value c.is_parcel.ensures in
    let whole : p.text ≡ text_behind z p 0 0 = sym (behind-all z p is) in
    let value : c.text_length-bytes.result ≡ length p.text = search rules in
    record {
      job = search rules;
      place = in-first z p 0 is;
      left = value ∙ ap length whole;
      few = omega arith;
      sent = (
        [],
        ap (frames_left p.call (length (cuts_of c.args.mtu p.text)) 0 (c.args.mtu - 16)) whole,
        sends-none _ _ _ _,
      );
      each = (
        [],
        ap (frames_to_put p.call (length (cuts_of c.args.mtu p.text)) 0 (c.args.mtu - 16)) whole,
        (refl, refl),
      );
    }

pub returns-then-has_failed-clause-sends : goal.returns-then-has_failed-clause-sends
returns-then-has_failed-clause-sends g c =
    let before = c.loop-left.invariant in
    sends-same _ _ _ true _ _ _ _ (sym before.sent.1)
    (sends-on _ _ _ true true before.sent.0 _ _ _ _
    (subst (λ f. PutsText (g.C.WireCalls.put_may c.args.calls.now) c.args.failed f before.sent.0 c.args.wire
    c.loop-left.wire) c.if-has_failed.true before.sent.2)
    (sends-over _ _ _ c.loop-left.wire))

pub returns-then-has_failed-clause-frames : goal.returns-then-has_failed-clause-frames
returns-then-has_failed-clause-frames g c =
    let each = c.loop-left.invariant.each in
    let p = frame_of c.args.job.now in
    let place = c.loop-left.place in
    let rest = frames_to_put p.call (length (cuts_of c.args.mtu p.text)) c.loop-left.index (c.args.mtu - 16)
    (text_behind g.N.PoolName.sizes p place.segment place.offset) in
    subst
    (λ frames. PutsEach (g.C.WireCalls.put_may c.args.calls.now) (map mtu_frame_bytes frames) c.args.failed
    true c.args.wire c.loop-left.wire)
    (sym each.1)
    (subst
    (λ texts. PutsEach (g.C.WireCalls.put_may c.args.calls.now) texts c.args.failed true c.args.wire
    c.loop-left.wire)
    (sym (map-append mtu_frame_bytes each.0 rest))
    (puts-each-on _ (map mtu_frame_bytes each.0) (map mtu_frame_bytes rest) c.args.failed true true c.args.wire
    c.loop-left.wire c.loop-left.wire
    (subst
    (λ f. PutsEach (g.C.WireCalls.put_may c.args.calls.now) (map mtu_frame_bytes each.0) c.args.failed f
    c.args.wire c.loop-left.wire)
    c.if-has_failed.true each.2)
    (puts-each-over _ (map mtu_frame_bytes rest) c.loop-left.wire)))

pub returns-clause-frames : goal.returns-clause-frames
returns-clause-frames g c =
    let before = c.loop-left.invariant in
    let p = frame_of c.args.job.now in
    let place = c.loop-left.place in
    let behind = text_behind g.N.PoolName.sizes p place.segment place.offset in
    subst
    (λ frames. PutsEach (g.C.WireCalls.put_may c.args.calls.now) (map mtu_frame_bytes frames) c.args.failed
    c.loop-left.has_failed c.args.wire c.loop-left.wire)
    (sym (before.each.1
    ∙ ap (λ frames. before.each.0 ++ frames)
    (none-to-put p.call (length (cuts_of c.args.mtu p.text)) c.loop-left.index (c.args.mtu - 16) behind
    (omega (arith, before.left, c.loop-left-test.false)))
    ∙ append-nil before.each.0))
    before.each.2

pub loop-left-preserved : goal.loop-left-preserved
loop-left-preserved g c =
    let p = frame_of c.args.job.now in
    let z = g.N.PoolName.sizes in
    let before = c.loop-left.invariant in
    let old = c.loop-left.place in
    let new = c.send_cut-after.new.place in
    let behind = text_behind z p old.segment old.offset in
    let len = c.min-len.result in
    let size = c.args.mtu - 16 in
    let count = length (cuts_of c.args.mtu p.text) in
    let index = c.loop-left.index in
    let same : frame_of c.loop-left.job ≡ p = ap frame_of before.job in
    let here : text_behind z (frame_of c.loop-left.job) old.segment old.offset ≡ behind =
    ap (λ (q : Sent). text_behind z q old.segment old.offset) same in
    let least : len ≡ min (length behind) size = omega (arith, c.min-len.ensures, before.left, c.from.ensures) in
    let rest : text_behind z p new.segment new.offset ≡ drop len behind =
    ap (λ (q : Sent). text_behind z q new.segment new.offset) (sym same) ∙ c.send_cut-after.ensures.rest
    ∙ ap (drop len) here in
    let cut : MtuFrame = record { call = p.call; index = index; count = count; bytes = take size behind } in
    let frame = mtu_frame_bytes cut in
    let value : c.text_length-bytes.result ≡ length p.text = search rules in
    let called : c.call-call.result ≡ p.call = search rules in
    let long : len ≡ length (take size behind) = omega (arith, least, length-take size behind) in
    let counted : c.count_frames-count.result ≡ count =
    c.count_frames-count.ensures p.text (sym value)
    ∙ (λ k. length (cuts_from (c.from.ensures k - 16) (value k) p.text)) in
    let head : take 16 c.write_header.new.room ≡ header_bytes p.call index count (length (take size behind)) =
    c.write_header.ensures ∙ (λ k. header_bytes (called k) index (counted k) (long k)) in
    let next : take len (text_behind z (frame_of c.loop-left.job) old.segment old.offset) ≡ take size behind =
    ap (take len) here ∙ take-least len size behind least in
    let put : take 16 c.write_header.new.room
    ++ take len (text_behind z (frame_of c.loop-left.job) old.segment old.offset) ≡ frame = (λ k. head k ++ next k) in
    let sends : PutsText (g.C.WireCalls.put_may c.args.calls.now) c.loop-left.has_failed
    c.send_cut-after.result.1 frame c.loop-left.wire c.send_cut-after.result.0 =
    subst
    (λ f. PutsText (g.C.WireCalls.put_may c.args.calls.now) f c.send_cut-after.result.1 frame c.loop-left.wire
    c.send_cut-after.result.0)
    (sym c.if-has_failed.false) (sends-same _ _ _ _ _ _ _ _ put c.send_cut-after.ensures.sends) in
    let some : 0 < size = omega (arith, c.requires.mtu.0) in
    let filled : 0 < length behind = omega (arith, before.left, c.loop-left-test.true) in
    record {
      job = c.send_cut-after.ensures.job ∙ before.job;
      place = subst (λ (q : Sent). IsInText q.segments new.segment new.offset) same c.send_cut-after.ensures.place;
      left = omega (arith, ap length rest, length-drop len behind, before.left);
      few = omega (arith, before.few, c.loop-left-test.true, least, c.requires.mtu.0, before.left);
      sent = (
        before.sent.0 ++ frame,
        before.sent.1
            ∙ ap (λ t. before.sent.0 ++ t)
            (left-next p.call count index size behind some filled)
            ∙ sym (append_assoc before.sent.0 frame (frames_left p.call count (index + 1) size (drop size behind)))
            ∙ ap (λ t. (before.sent.0 ++ frame) ++ frames_left p.call count (index + 1) size t)
            (sym (rest ∙ drop-least len size behind least)),
        sends-on _ _ _ _ _ _ _ _ _ _ before.sent.2 sends,
      );
      each = (
        before.each.0 ++ cut ∷ [],
        before.each.1
            ∙ ap (λ frames. before.each.0 ++ frames) (next-to-put p.call count index size behind some filled)
            ∙ sym
            (append_assoc before.each.0 (cut ∷ [])
            (frames_to_put p.call count (index + 1) size (drop size behind)))
            ∙ ap (λ t. (before.each.0 ++ cut ∷ []) ++ frames_to_put p.call count (index + 1) size t)
            (sym (rest ∙ drop-least len size behind least)),
        subst
            (λ texts. PutsEach (g.C.WireCalls.put_may c.args.calls.now) texts c.args.failed
            c.send_cut-after.result.1 c.args.wire c.send_cut-after.result.0)
            (sym (map-append mtu_frame_bytes before.each.0 (cut ∷ [])))
            (puts-each-on _ (map mtu_frame_bytes before.each.0) (frame ∷ []) _ _ _ _ _ _ before.each.2
            (puts-each-one _ frame _ _ _ _ sends)),
      );
    }
