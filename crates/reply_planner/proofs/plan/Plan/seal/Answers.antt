use Rattle.std.proofs.Common.{◌≡◌, ◌+◌, ◌-◌, ◌/◌, ◌<◌, ◌≤◌, ◌++◌, length, None, sym, ap, ◌∙◌, subst, arith}
use Rattle.reply_layout.specs.Gathered.{text_of_pieces}
use Rattle.reply_layout.specs.Layout.{cut}
use Rattle.reply_planner.specs.Laid.{pieces_in}
use Rattle.reply_planner.specs.Owned.{key_buffers}
use Rattle.reply_planner.specs.Places.{buffer_addresses}
use Rattle.reply_planner.specs.Planned.{Planned, terms, planned, paid_in}
use Rattle.reply_planner.specs.Plans.{IsPlan}
use Rattle.reply_planner.specs.Sealed.{IsSealed}
use Rattle.reply_planner.specs.Told.{told}
use Rattle.reply_planner.specs.declared.terms.Terms.{Terms}
use Rattle.reply_planner.proofs.Moved.{length-buffers}
use Rattle.reply_planner.proofs.Sealed.{seal_text, seal_credits, seal_some, seal_laid, sealed}
use Rattle.reply_planner.proofs.Unboxed.{kept_with, seen_with}
use Rattle.reply_planner.proofs.plan.Plan.seal.Goals as goal

pub overflow_sub-credits : goal.overflow_sub-credits
overflow_sub-credits g c =
    let inside = c.self.inside in
    let z = g.N.PoolName.sizes in
    let lists = c.deref_mut-parts.result.now in
    let kept = kept_with inside.need.descriptors inside.threshold (told z inside.history) z inside.run inside.paid
    inside.seat lists inside.lists.value c.deref_mut-parts.ensures.value c.self.invariant in
    let seen = seen_with inside.need.descriptors inside.threshold (told z inside.history) lists inside.lists.value _
    c.deref_mut-parts.ensures.value c.self.view_is in
    let old = told z inside.history in
    let base : Terms = terms inside.need.descriptors (key_buffers lists.staged.items) inside.threshold in
    let none : old.begun ≡ None = ap (λ (p : Planned). p.begun) seen ∙ c.requires.done in
    let is = subst (λ o. IsPlan z (planned base old.taken o) lists.text.items lists.segments.items lists.pins.items
    lists.staged.items inside.run inside.paid inside.seat) none kept.0 in
    omega (
      arith,
      (seal_credits z base old.taken lists.text.items lists.segments.items lists.pins.items
          lists.staged.items inside.run inside.paid inside.seat is).0,
      c.from.ensures,
      c.from-2.ensures,
    )

pub pack-requires-clause-text : goal.pack-requires-clause-text
pack-requires-clause-text g c =
    let inside = c.self.inside in
    let z = g.N.PoolName.sizes in
    let lists = c.deref_mut-parts.result.now in
    let kept = kept_with inside.need.descriptors inside.threshold (told z inside.history) z inside.run inside.paid
    inside.seat lists inside.lists.value c.deref_mut-parts.ensures.value c.self.invariant in
    let seen = seen_with inside.need.descriptors inside.threshold (told z inside.history) lists inside.lists.value _
    c.deref_mut-parts.ensures.value c.self.view_is in
    let old = told z inside.history in
    let base : Terms = terms inside.need.descriptors (key_buffers lists.staged.items) inside.threshold in
    let none : old.begun ≡ None = ap (λ (p : Planned). p.begun) seen ∙ c.requires.done in
    let is = subst (λ o. IsPlan z (planned base old.taken o) lists.text.items lists.segments.items lists.pins.items
    lists.staged.items inside.run inside.paid inside.seat) none kept.0 in
    let some : 0 < length (text_of_pieces (pieces_in old.taken)) =
    subst (λ (p : Planned). 0 < length (text_of_pieces (pieces_in p.taken))) (sym seen) c.requires.some in
    let text = seal_text z base old.taken lists.text.items lists.segments.items lists.pins.items lists.staged.items
    inside.run inside.paid inside.seat is some in
    (text.0, omega (arith, text.1, length-buffers lists.staged.items))

pub pack-requires-clause-own : goal.pack-requires-clause-own
pack-requires-clause-own g c =
    let inside = c.self.inside in
    let z = g.N.PoolName.sizes in
    let lists = c.deref_mut-parts.result.now in
    let kept = kept_with inside.need.descriptors inside.threshold (told z inside.history) z inside.run inside.paid
    inside.seat lists inside.lists.value c.deref_mut-parts.ensures.value c.self.invariant in
    let seen = seen_with inside.need.descriptors inside.threshold (told z inside.history) lists inside.lists.value _
    c.deref_mut-parts.ensures.value c.self.view_is in
    let old = told z inside.history in
    let base : Terms = terms inside.need.descriptors (key_buffers lists.staged.items) inside.threshold in
    let none : old.begun ≡ None = ap (λ (p : Planned). p.begun) seen ∙ c.requires.done in
    let is = subst (λ o. IsPlan z (planned base old.taken o) lists.text.items lists.segments.items lists.pins.items
    lists.staged.items inside.run inside.paid inside.seat) none kept.0 in
    let credits = seal_credits z base old.taken lists.text.items lists.segments.items lists.pins.items
    lists.staged.items inside.run inside.paid inside.seat is in (
      omega (arith, credits.1, c.from.ensures, c.from-2.ensures),
      omega
          (arith, credits.2, c.from.ensures, c.from-2.ensures),
      is.has.idle,
    )

pub pack-requires-clause-some : goal.pack-requires-clause-some
pack-requires-clause-some g c =
    let inside = c.self.inside in
    let z = g.N.PoolName.sizes in
    let lists = c.deref_mut-parts.result.now in
    let kept = kept_with inside.need.descriptors inside.threshold (told z inside.history) z inside.run inside.paid
    inside.seat lists inside.lists.value c.deref_mut-parts.ensures.value c.self.invariant in
    let seen = seen_with inside.need.descriptors inside.threshold (told z inside.history) lists inside.lists.value _
    c.deref_mut-parts.ensures.value c.self.view_is in
    let old = told z inside.history in
    let base : Terms = terms inside.need.descriptors (key_buffers lists.staged.items) inside.threshold in
    let none : old.begun ≡ None = ap (λ (p : Planned). p.begun) seen ∙ c.requires.done in
    let is = subst (λ o. IsPlan z (planned base old.taken o) lists.text.items lists.segments.items lists.pins.items
    lists.staged.items inside.run inside.paid inside.seat) none kept.0 in
    let some : 0 < length (text_of_pieces (pieces_in old.taken)) =
    subst (λ (p : Planned). 0 < length (text_of_pieces (pieces_in p.taken))) (sym seen) c.requires.some in
    let text = seal_text z base old.taken lists.text.items lists.segments.items lists.pins.items lists.staged.items
    inside.run inside.paid inside.seat is some in
    let end : c.len-end.result ≡ length lists.text.items = omega (arith, c.len-end.ensures) in
    let laid : c.lay_run.new.segments.items ≡ lists.segments.items ++ cut (buffer_addresses z base.stage)
    (length lists.text.items - inside.run) inside.run (length lists.text.items - inside.run) =
    c.lay_run.ensures.items
    ∙ (λ i. lists.segments.items ++ cut (buffer_addresses z (key_buffers (c.deref.ensures.value i)))
    (end i - inside.run) inside.run (end i - inside.run)) in
    let count : length c.lay_run.new.segments.items + inside.run / 512 ≤ length lists.segments.items
    + (length lists.text.items + 511) / 512 = omega (arith, c.lay_run.ensures.count, end) in
    seal_some z base old.taken lists.text.items lists.segments.items lists.pins.items lists.staged.items inside.run
    inside.paid inside.seat is c.lay_run.new.segments.items laid count text.0

pub pack-requires-clause-laid : goal.pack-requires-clause-laid
pack-requires-clause-laid g c =
    let inside = c.self.inside in
    let z = g.N.PoolName.sizes in
    let lists = c.deref_mut-parts.result.now in
    let kept = kept_with inside.need.descriptors inside.threshold (told z inside.history) z inside.run inside.paid
    inside.seat lists inside.lists.value c.deref_mut-parts.ensures.value c.self.invariant in
    let seen = seen_with inside.need.descriptors inside.threshold (told z inside.history) lists inside.lists.value _
    c.deref_mut-parts.ensures.value c.self.view_is in
    let old = told z inside.history in
    let base : Terms = terms inside.need.descriptors (key_buffers lists.staged.items) inside.threshold in
    let none : old.begun ≡ None = ap (λ (p : Planned). p.begun) seen ∙ c.requires.done in
    let is = subst (λ o. IsPlan z (planned base old.taken o) lists.text.items lists.segments.items lists.pins.items
    lists.staged.items inside.run inside.paid inside.seat) none kept.0 in
    let end : c.len-end.result ≡ length lists.text.items = omega (arith, c.len-end.ensures) in
    let laid : c.lay_run.new.segments.items ≡ lists.segments.items ++ cut (buffer_addresses z base.stage)
    (length lists.text.items - inside.run) inside.run (length lists.text.items - inside.run) =
    c.lay_run.ensures.items
    ∙ (λ i. lists.segments.items ++ cut (buffer_addresses z (key_buffers (c.deref.ensures.value i)))
    (end i - inside.run) inside.run (end i - inside.run)) in
    let count : length c.lay_run.new.segments.items + inside.run / 512 ≤ length lists.segments.items
    + (length lists.text.items + 511) / 512 = omega (arith, c.lay_run.ensures.count, end) in
    seal_laid z base old.taken lists.text.items lists.segments.items lists.pins.items lists.staged.items inside.run
    inside.paid inside.seat is c.lay_run.new.segments.items laid count

pub returns-clause-parcel : goal.returns-clause-parcel
returns-clause-parcel g c =
    let inside = c.self.inside in
    let z = g.N.PoolName.sizes in
    let lists = c.deref_mut-parts.result.now in
    let kept = kept_with inside.need.descriptors inside.threshold (told z inside.history) z inside.run inside.paid
    inside.seat lists inside.lists.value c.deref_mut-parts.ensures.value c.self.invariant in
    let seen = seen_with inside.need.descriptors inside.threshold (told z inside.history) lists inside.lists.value _
    c.deref_mut-parts.ensures.value c.self.view_is in
    let old = told z inside.history in
    let base : Terms = terms inside.need.descriptors (key_buffers lists.staged.items) inside.threshold in
    let none : old.begun ≡ None = ap (λ (p : Planned). p.begun) seen ∙ c.requires.done in
    let is = subst (λ o. IsPlan z (planned base old.taken o) lists.text.items lists.segments.items lists.pins.items
    lists.staged.items inside.run inside.paid inside.seat) none kept.0 in
    let end : c.len-end.result ≡ length lists.text.items = omega (arith, c.len-end.ensures) in
    let laid : c.lay_run.new.segments.items ≡ lists.segments.items ++ cut (buffer_addresses z base.stage)
    (length lists.text.items - inside.run) inside.run (length lists.text.items - inside.run) =
    c.lay_run.ensures.items
    ∙ (λ i. lists.segments.items ++ cut (buffer_addresses z (key_buffers (c.deref.ensures.value i)))
    (end i - inside.run) inside.run (end i - inside.run)) in
    let count : length c.lay_run.new.segments.items + inside.run / 512 ≤ length lists.segments.items
    + (length lists.text.items + 511) / 512 = omega (arith, c.lay_run.ensures.count, end) in
    let e = c.pack.ensures in
    subst (λ (p : Planned). IsSealed z p c.args.call c.pack.result)
    (ap (λ o. planned base old.taken o) (sym none) ∙ seen)
    (sealed z base old.taken lists.text.items lists.segments.items lists.pins.items lists.staged.items inside.run
    inside.paid inside.seat is c.lay_run.new.segments.items laid count c.pack.result c.args.call e.segments e.text
    e.call e.staged e.pinned.0 e.pinned.1 e.copied e.kept)

pub returns-clause-seat : goal.returns-clause-seat
returns-clause-seat g c =
    let hands = c.pack.ensures.hands in
    let has = c.self.invariant.0.has in
    record {
      holds = hands.holds;
      credits = subst (λ (p : Planned). c.pack.new.seat.credits + 1 + paid_in p ≡ c.args.seat.now.credits
          + p.base.descriptors + 3) c.self.view_is (omega (arith, hands.credits, has.credits, has.paid_is));
      claims = hands.claims;
      looks = hands.looks;
      returns = hands.returns;
      lasts = hands.lasts;
    }
