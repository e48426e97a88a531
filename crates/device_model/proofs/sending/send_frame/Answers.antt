use Rattle.std.proofs.Common.{rules, ◌≡◌, ◌≤◌, List, ◌++◌, length, sym, ap, ◌∙◌, subst, arith}
use Rattle.any_wire.specs.Sends.{WireStep, Chain}
use Rattle.std.specs.Prelude.{Some}
use Rattle.std.specs.List.{slice_get}
use Rattle.any_wire.proofs.Sending.{sends-on, sends-same}
use Rattle.std.proofs.lemmas.Option.{slice_get_within}
use Rattle.reply_planner.proofs.Parts.{length-all}
use Rattle.reply_planner.specs.Parcels.{Sent, IsSent}
use Rattle.reply_planner.specs.Places.{reading}
use Rattle.tx_ring.specs.Jobs.{frame_of, segments}
use Rattle.device_model.specs.Pieces.{AreCuts}
use Rattle.device_model.proofs.Cutting.{cuts-at-next, cuts-at-all, chain-more}
use Rattle.device_model.proofs.Puts.{reads-more, reads-all, length-next, segment-short}
use Rattle.device_model.proofs.sending.send_frame.Goals as goal

pub overflow_add-bytes : goal.overflow_add-bytes
overflow_add-bytes g c =
    let p = frame_of c.args.job.now in
    let z = g.N.PoolName.sizes in
    let before = c.loop-i.invariant in
    let seg = c.segment-segment.result in
    let is : IsSent z p = subst (IsSent z) c.frame-whole.ensures.value c.is_parcel.ensures in
    let found : slice_get p.segments c.loop-i.i ≡ Some seg =
    ap (λ segs. slice_get segs c.loop-i.i) (sym c.requires.job) ∙ ap (λ j. slice_get (segments j) c.loop-i.i)
    (sym before.job) ∙ c.segment-segment.ensures in
    omega (
      arith,
      before.few,
      is.few,
      segment-short z p c.loop-i.i seg is found,
      slice_get_within p.segments c.loop-i.i
          seg found,
      c.from-bytes.ensures,
    )

pub loop-i-preserved : goal.loop-i-preserved
loop-i-preserved g c =
    let p = frame_of c.args.job.now in
    let z = g.N.PoolName.sizes in
    let before = c.loop-i.invariant in
    let seg = c.segment-segment.result in
    let is : IsSent z p = subst (IsSent z) c.frame-whole.ensures.value c.is_parcel.ensures in
    let same : c.frame.result.now ≡ p = c.frame.ensures.value ∙ ap frame_of before.job in
    let found : slice_get p.segments c.loop-i.i ≡ Some seg =
    ap (λ segs. slice_get segs c.loop-i.i) (sym c.requires.job) ∙ ap (λ j. slice_get (segments j) c.loop-i.i)
    (sym before.job) ∙ c.segment-segment.ensures in
    record {
      job = search rules;
      sends = sends-same _ _ _ _ _ _ _ _ (reads-more (reading z p.holds) p.segments c.loop-i.i seg found)
          (sends-on _ _ _ _ _ _ _ _ _ _ before.sends
          (sends-same _ _ _ _ _ _ _ _ (ap (λ (q : Sent). reading z q.holds seg.address seg.len) same)
          c.send_segment-after.ensures.sends));
      bytes = omega (arith, before.bytes, length-next z p c.loop-i.i seg is found, c.from-bytes.ensures);
      few = omega (arith, before.few, segment-short z p c.loop-i.i seg is found, c.from-bytes.ensures);
      pieces =
          let more = subst
          (λ (q : Sent). (steps : List WireStep) × AreCuts steps (reading z q.holds seg.address seg.len)
          × Chain (g.C.WireCalls.put_may c.args.calls.now) (λ w r. ⊥) steps c.loop-i.has_failed
          c.send_segment-after.result.1 c.loop-i.wire c.send_segment-after.result.0)
          same c.send_segment-after.ensures.pieces in (
            before.pieces.0 ++ more.0,
            cuts-at-next (reading z p.holds) before.pieces.0 more.0 p.segments c.loop-i.i seg found before.pieces.1
                more.1,
            chain-more (g.C.WireCalls.put_may c.args.calls.now) before.pieces.0 more.0 _ _ _ _ _ _ before.pieces.2
                more.2,
          );
    }

pub returns-clause-sends : goal.returns-clause-sends
returns-clause-sends g c =
    let p = frame_of c.args.job.now in
    let z = g.N.PoolName.sizes in
    let all : length p.segments ≤ c.loop-i.i =
    omega (arith, c.loop-i-test.false, c.count-i-end.ensures.segments, ap length c.requires.job) in
    sends-same _ _ _ _ _ _ _ _ (reads-all (reading z p.holds) p.segments c.loop-i.i all ∙ search rules)
    c.loop-i.invariant.sends

pub returns-clause-bytes : goal.returns-clause-bytes
returns-clause-bytes g c =
    let p = frame_of c.args.job.now in
    let z = g.N.PoolName.sizes in
    let is : IsSent z p = subst (IsSent z) c.frame-whole.ensures.value c.is_parcel.ensures in
    let all : length p.segments ≤ c.loop-i.i =
    omega (arith, c.loop-i-test.false, c.count-i-end.ensures.segments, ap length c.requires.job) in
    c.loop-i.invariant.bytes ∙ length-all z p c.loop-i.i is all

pub returns-clause-pieces : goal.returns-clause-pieces
returns-clause-pieces g c =
    let p = frame_of c.args.job.now in
    let z = g.N.PoolName.sizes in
    let all : length p.segments ≤ c.loop-i.i =
    omega (arith, c.loop-i-test.false, c.count-i-end.ensures.segments, ap length c.requires.job) in
    let pieces = c.loop-i.invariant.pieces in
    (pieces.0, cuts-at-all (reading z p.holds) pieces.0 p.segments c.loop-i.i all pieces.1, pieces.2)
