use Rattle.std.proofs.Common.{◌≡◌, ◌<◌, length, get_or, ap, ◌∙◌, subst, arith}
use Rattle.flake_base.specs.declared.segment.Seg.{Seg}
use Rattle.reply_planner.specs.Parcels.{Sent, IsSent}
use Rattle.reply_planner.proofs.Parts.{sent_is, length-more, short-at, length-all}
use Rattle.reply_planner.proofs.parcel.Parcel.len.Goals as goal

pub overflow_add-sum : goal.overflow_add-sum
overflow_add-sum g c =
    let p = c.self.inside in
    let z = g.N.PoolName.sizes in
    let is : IsSent z c.args.self.now = subst (IsSent z) c.self.view_is
    (sent_is z p.lists.value.segments.items p.call p.lists.value.pins.items p.lists.value.staged.items p.seat
    c.is_seat.ensures c.self.invariant) in
    let items : c.deref-seg-items.result.now ≡ c.args.self.now.segments = c.deref-seg-items.ensures.value
    ∙ ap (λ l. l.segments.items) c.deref.ensures ∙ ap (λ (s : Sent). s.segments) c.self.view_is in
    let i = c.loop-seg.seg-index in
    let d : Seg = record { address = 0; len = 0 } in
    let near : i < length c.args.self.now.segments = omega (arith, c.loop-seg-test.true, ap length items) in
    let one = short-at z c.args.self.now i d is near in
    omega (arith, c.loop-seg.invariant.1, near, is.few, one, c.from-sum.ensures, ap (λ xs. (get_or xs i d).len) items)

pub loop-seg-preserved : goal.loop-seg-preserved
loop-seg-preserved g c =
    let p = c.self.inside in
    let z = g.N.PoolName.sizes in
    let is : IsSent z c.args.self.now = subst (IsSent z) c.self.view_is
    (sent_is z p.lists.value.segments.items p.call p.lists.value.pins.items p.lists.value.staged.items p.seat
    c.is_seat.ensures c.self.invariant) in
    let items : c.deref-seg-items.result.now ≡ c.args.self.now.segments = c.deref-seg-items.ensures.value
    ∙ ap (λ l. l.segments.items) c.deref.ensures ∙ ap (λ (s : Sent). s.segments) c.self.view_is in
    let i = c.loop-seg.seg-index in
    let d : Seg = record { address = 0; len = 0 } in
    let near : i < length c.args.self.now.segments = omega (arith, c.loop-seg-test.true, ap length items) in
    let one = short-at z c.args.self.now i d is near in
    let more = length-more z c.args.self.now i d is near in
    let len = ap (λ xs. (get_or xs i d).len) items in (
      omega (arith, c.loop-seg.invariant.0, c.from-sum.ensures, len, more),
      omega
          (arith, c.loop-seg.invariant.1, one, c.from-sum.ensures, len),
    )

pub returns : goal.returns
returns g c =
    let p = c.self.inside in
    let z = g.N.PoolName.sizes in
    let is : IsSent z c.args.self.now = subst (IsSent z) c.self.view_is
    (sent_is z p.lists.value.segments.items p.call p.lists.value.pins.items p.lists.value.staged.items p.seat
    c.is_seat.ensures c.self.invariant) in
    let items : c.deref-seg-items.result.now ≡ c.args.self.now.segments = c.deref-seg-items.ensures.value
    ∙ ap (λ l. l.segments.items) c.deref.ensures ∙ ap (λ (s : Sent). s.segments) c.self.view_is in
    c.loop-seg.invariant.0 ∙ length-all z c.args.self.now c.loop-seg.seg-index is
    (omega (arith, c.loop-seg-test.false, ap length items))
