use Rattle.std.proofs.Common.{◌≡◌, ◌+◌, ◌++◌, Some, length, take, drop, rules, sym, ap, ◌∙◌, subst, arith}
use Rattle.std.proofs.lemmas.List.{length-take}
use Rattle.std.specs.List.{slice_get}
use Rattle.flake_base.specs.declared.segment.Seg.{Seg}
use Rattle.reply_planner.specs.Parcels.{Sent, IsSent}
use Rattle.reply_planner.specs.Places.{place_of, buffer_bytes}
use Rattle.tx_ring.specs.Jobs.{frame_of}
use Rattle.device_model.proofs.Framed.{in-first, behind-part, behind-over}
use Rattle.device_model.proofs.Puts.{segment-readable, segment-short, fits-in}
use Rattle.device_model.proofs.framing.load_part.Goals as goal

pub unreachable-requires : goal.unreachable-requires
unreachable-requires g c =
    let p = frame_of c.args.job.now in
    let z = g.N.PoolName.sizes in
    let seg : Seg = c.segment-segment.result in
    let is : IsSent z p = subst (IsSent z) c.frame-parcel.ensures.value c.is_parcel.ensures in
    let found : slice_get p.segments c.args.place.now.segment ≡ Some seg =
    ap (λ segs. slice_get segs c.args.place.now.segment) (sym c.requires.job) ∙ c.segment-segment.ensures in
    let may = segment-readable z p c.args.place.now.segment seg is found in
    c.buffer_at.ensures.none c.in_default.is (place_of z seg.address).0 (place_of z seg.address).1 may.held.covered

pub overflow_add-from : goal.overflow_add-from
overflow_add-from g c =
    let p = frame_of c.args.job.now in
    let z = g.N.PoolName.sizes in
    let seg : Seg = c.segment-segment.result in
    let is : IsSent z p = subst (IsSent z) c.frame-parcel.ensures.value c.is_parcel.ensures in
    let found : slice_get p.segments c.args.place.now.segment ≡ Some seg =
    ap (λ segs. slice_get segs c.args.place.now.segment) (sym c.requires.job) ∙ c.segment-segment.ensures in
    omega (
      arith,
      fits-in z c.in-Some.buffer c.in-Some.from seg.address c.in-Some.ensures.some,
      c.requires.place seg found,
      segment-short z p c.args.place.now.segment seg is found,
    )

pub returns-then-end-segment-clause-bytes : goal.returns-then-end-segment-clause-bytes
returns-then-end-segment-clause-bytes g c =
    let p = frame_of c.args.job.now in
    let z = g.N.PoolName.sizes in
    let seg : Seg = c.segment-segment.result in
    let is : IsSent z p = subst (IsSent z) c.frame-parcel.ensures.value c.is_parcel.ensures in
    let found : slice_get p.segments c.args.place.now.segment ≡ Some seg =
    ap (λ segs. slice_get segs c.args.place.now.segment) (sym c.requires.job) ∙ c.segment-segment.ensures in
    let n = c.min-count.result in
    let from = c.in-Some.from + c.args.place.now.offset in
    let size : length (take n c.args.room.now) ≡ n = search (rules, length-take) in
    let read : c.load_bytes.new.room ≡ buffer_bytes p.holds c.in-Some.buffer from n =
    c.load_bytes.ensures.bytes
    ∙ ap (λ (q : Sent). buffer_bytes q.holds c.in-Some.buffer from (length (take n c.args.room.now)))
    c.frame-parcel.ensures.value
    ∙ ap (buffer_bytes p.holds c.in-Some.buffer from) size in
    ap (λ t. t ++ drop n c.args.room.now)
    (read ∙ behind-part z p c.args.place.now.segment c.args.place.now.offset n c.in-Some.buffer c.in-Some.from seg is
    found c.in-Some.ensures.some (omega (arith, c.min-count.ensures, c.requires.place seg found)))

pub returns-else-end-segment-clause-place : goal.returns-else-end-segment-clause-place
returns-else-end-segment-clause-place g c =
    let p = frame_of c.args.job.now in
    let z = g.N.PoolName.sizes in
    in-first z p (c.args.place.now.segment + 1) (subst (IsSent z) c.frame-parcel.ensures.value c.is_parcel.ensures)

pub returns-else-end-segment-clause-rest : goal.returns-else-end-segment-clause-rest
returns-else-end-segment-clause-rest g c =
    let p = frame_of c.args.job.now in
    let z = g.N.PoolName.sizes in
    let seg : Seg = c.segment-segment.result in
    let is : IsSent z p = subst (IsSent z) c.frame-parcel.ensures.value c.is_parcel.ensures in
    let found : slice_get p.segments c.args.place.now.segment ≡ Some seg =
    ap (λ segs. slice_get segs c.args.place.now.segment) (sym c.requires.job) ∙ c.segment-segment.ensures in
    behind-over z p c.args.place.now.segment c.args.place.now.offset c.min-count.result seg is found
    (omega (arith, c.min-count.ensures, c.requires.place seg found, c.if-end-segment.false))

pub returns-else-end-segment-clause-bytes : goal.returns-else-end-segment-clause-bytes
returns-else-end-segment-clause-bytes g c =
    let p = frame_of c.args.job.now in
    let z = g.N.PoolName.sizes in
    let seg : Seg = c.segment-segment.result in
    let is : IsSent z p = subst (IsSent z) c.frame-parcel.ensures.value c.is_parcel.ensures in
    let found : slice_get p.segments c.args.place.now.segment ≡ Some seg =
    ap (λ segs. slice_get segs c.args.place.now.segment) (sym c.requires.job) ∙ c.segment-segment.ensures in
    let n = c.min-count.result in
    let from = c.in-Some.from + c.args.place.now.offset in
    let size : length (take n c.args.room.now) ≡ n = search (rules, length-take) in
    let read : c.load_bytes.new.room ≡ buffer_bytes p.holds c.in-Some.buffer from n =
    c.load_bytes.ensures.bytes
    ∙ ap (λ (q : Sent). buffer_bytes q.holds c.in-Some.buffer from (length (take n c.args.room.now)))
    c.frame-parcel.ensures.value
    ∙ ap (buffer_bytes p.holds c.in-Some.buffer from) size in
    ap (λ t. t ++ drop n c.args.room.now)
    (read ∙ behind-part z p c.args.place.now.segment c.args.place.now.offset n c.in-Some.buffer c.in-Some.from seg is
    found c.in-Some.ensures.some (omega (arith, c.min-count.ensures, c.requires.place seg found)))
