use Rattle.std.proofs.Common.{◌≡◌, ◌+◌, ◌*◌, ◌<◌, ◌≤◌, length, Some, sym, ap, ◌∙◌, subst, arith}
use Rattle.std.specs.Option.{MatchOption}
use Rattle.view_sums.specs.Total.{total}
use Rattle.pin_core.specs.Holding.{at}
use Rattle.pinned_pool.specs.Moves.{front_of}
use Rattle.pinned_pool.proofs.Keys.{some-at}
use Rattle.frag_value.specs.Taken.{MayComeNext, placed_part}
use Rattle.reply_planner.specs.Planned.{Planned, terms, planned}
use Rattle.reply_planner.specs.Plans.{IsPlan}
use Rattle.reply_planner.specs.Owned.{key_buffers}
use Rattle.reply_planner.specs.Told.{PlanTaken, told, with_run}
use Rattle.reply_planner.specs.declared.terms.Terms.{Terms}
use Rattle.reply_planner.proofs.KeptAt.{length-run}
use Rattle.reply_planner.proofs.Moved.{begun_is, length-buffers}
use Rattle.reply_planner.proofs.Runs.{after_short, fits_short}
use Rattle.reply_planner.proofs.Unboxed.{kept_with, seen_with}
use Rattle.reply_planner.proofs.plan.Plan.copy_part.Goals as goal

pub append_run-requires-clause-held : goal.append_run-requires-clause-held
append_run-requires-clause-held g c =
    subst (λ b. 0 < total (at b) c.args.owner.now.holds) (sym c.buffer-buffer.ensures.buffer)
    (some-at c.args.frag.now.hold c.args.owner.now.holds c.requires.held)

pub append_run-requires-clause-room : goal.append_run-requires-clause-room
append_run-requires-clause-room g c =
    let inside = c.self.inside in
    let z = g.N.PoolName.sizes in
    let lists = c.deref_mut.result.now in
    let kept = kept_with inside.need.descriptors inside.threshold (told z inside.history) z inside.run inside.paid
    inside.seat lists inside.lists.value c.deref_mut.ensures.value c.self.invariant in
    let seen = seen_with inside.need.descriptors inside.threshold (told z inside.history) lists inside.lists.value _
    c.deref_mut.ensures.value c.self.view_is in
    let old = told z inside.history in
    let base : Terms = terms inside.need.descriptors (key_buffers lists.staged.items) inside.threshold in
    let begun = begun_is old.begun (λ b. MayComeNext c.args.from c.args.len b)
    (subst (λ (p : Planned). MatchOption p.begun ⊥ (λ b. MayComeNext c.args.from c.args.len b))
    (sym seen) c.requires.next) in
    let next = subst (λ o. MatchOption o ⊥ (λ b. MayComeNext c.args.from c.args.len b))
    (ap (λ (p : Planned). p.begun) (sym seen) ∙ begun.1) c.requires.next in
    let was = subst (λ o. IsPlan z (planned base old.taken o) lists.text.items lists.segments.items lists.pins.items
    lists.staged.items inside.run inside.paid inside.seat) begun.1 kept.0 in
    let test : c.args.len < c.self.inside.threshold = subst (λ (p : Planned). c.args.len < p.base.threshold)
    (sym seen) c.requires.short in
    omega (
      arith,
      kept.1.text,
      length-buffers lists.staged.items,
      fits_short z base old.taken lists.text.items lists.segments.items lists.pins.items lists.staged.items inside.run
          inside.paid inside.seat begun.0 c.args.from c.args.len was next c.requires.filled.0 test,
    )

pub invariant_of-self : goal.invariant_of-self
invariant_of-self g c =
    let inside = c.self.inside in
    let z = g.N.PoolName.sizes in
    let lists = c.deref_mut.result.now in
    let kept = kept_with inside.need.descriptors inside.threshold (told z inside.history) z inside.run inside.paid
    inside.seat lists inside.lists.value c.deref_mut.ensures.value c.self.invariant in
    let seen = seen_with inside.need.descriptors inside.threshold (told z inside.history) lists inside.lists.value _
    c.deref_mut.ensures.value c.self.view_is in
    let old = told z inside.history in
    let base : Terms = terms inside.need.descriptors (key_buffers lists.staged.items) inside.threshold in
    let begun = begun_is old.begun (λ b. MayComeNext c.args.from c.args.len b)
    (subst (λ (p : Planned). MatchOption p.begun ⊥ (λ b. MayComeNext c.args.from c.args.len b))
    (sym seen) c.requires.next) in
    let next = subst (λ o. MatchOption o ⊥ (λ b. MayComeNext c.args.from c.args.len b))
    (ap (λ (p : Planned). p.begun) (sym seen) ∙ begun.1) c.requires.next in
    let was = subst (λ o. IsPlan z (planned base old.taken o) lists.text.items lists.segments.items lists.pins.items
    lists.staged.items inside.run inside.paid inside.seat) begun.1 kept.0 in
    let test : c.args.len < c.self.inside.threshold = subst (λ (p : Planned). c.args.len < p.base.threshold)
    (sym seen) c.requires.short in
    let front = front_of c.buffer-buffer.result c.args.owner.now.holds in
    let fits : c.args.from + c.args.len ≤ 8 * length front =
    subst (λ b. c.args.from + c.args.len ≤ 8 * length (front_of b c.args.owner.now.holds))
    (sym c.buffer-buffer.ensures.buffer) (omega (arith, c.requires.filled.1)) in
    let f = placed_part z c.args.owner.now.holds c.buffer-buffer.result c.args.from c.args.len in
    let new : told z c.add.new.self ≡ record { taken = old.taken; begun = with_run f (Some begun.0) } =
    c.add.ensures ∙ (λ i. record {
      taken = old.taken;
      begun = with_run (placed_part z (c.of.ensures i).holds c.buffer-buffer.result c.args.from c.args.len)
          (begun.1 i);
    }) in (
      subst (λ (t : PlanTaken). IsPlan z (planned base t.taken t.begun) c.append_run.new.text.items lists.segments.items
          lists.pins.items lists.staged.items inside.run inside.paid inside.seat) (sym new)
          (after_short z base old.taken lists.text.items lists.segments.items lists.pins.items lists.staged.items
          inside.run inside.paid inside.seat begun.0 c.args.from c.args.len was next c.requires.filled.0 f
          (length-run c.args.from c.args.len front fits) c.append_run.new.text.items test
          c.append_run.ensures.items),
      record {
        text = omega (arith, kept.1.text, c.append_run.ensures.capacity);
        segments = kept.1.segments;
        pins = kept.1.pins;
      },
    )
