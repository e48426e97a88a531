use Rattle.std.proofs.Common.{◌≡◌, Some, sym, ap, ◌∙◌, subst, arith}
use Rattle.std.specs.List.{slice_get}
use Rattle.reply_planner.specs.Parcels.{IsSent}
use Rattle.tx_ring.specs.Jobs.{frame_of}
use Rattle.device_model.proofs.Puts.{length-next, segment-short}
use Rattle.device_model.proofs.framing.text_length.Goals as goal

pub loop-i-preserved : goal.loop-i-preserved
loop-i-preserved g c =
    let p = frame_of c.args.job.now in
    let z = g.N.PoolName.sizes in
    let before = c.loop-i.invariant in
    let is : IsSent z p = subst (IsSent z) c.frame-whole.ensures.value c.is_parcel.ensures in
    let seg = c.segment.result in
    let found : slice_get p.segments c.loop-i.i ≡ Some seg =
    ap (λ segs. slice_get segs c.loop-i.i) (sym c.requires) ∙ c.segment.ensures in
    record {
      bytes = omega (arith, before.bytes, length-next z p c.loop-i.i seg is found, c.from-bytes.ensures);
      few = omega (arith, before.few, segment-short z p c.loop-i.i seg is found, c.from-bytes.ensures);
    }
