use Rattle.std.proofs.Common.{◌≡◌, ◌+◌, ◌-◌, ◌*◌, ◌≤◌, List, [], ◌∷◌, ◌++◌, length, vec_capacity, Some, sym, ap, ◌∙◌}
use Rattle.std.proofs.Common.{subst, arith}
use Rattle.std.specs.Option.{MatchOption}
use Rattle.pin_core.specs.Holding.{Key}
use Rattle.pinned_pool.specs.Moves.{front_of, pinned_hold}
use Rattle.pinned_pool.specs.declared.view.View.{View}
use Rattle.frag_value.specs.Taken.{MayComeNext, placed_part}
use Rattle.reply_layout.specs.Layout.{segment, cut}
use Rattle.pinned_pool.specs.Addresses.{address_of}
use Rattle.reply_planner.specs.Planned.{Planned, terms, planned}
use Rattle.reply_planner.specs.Parcels.{pinned_keys}
use Rattle.reply_planner.specs.Places.{buffer_addresses, buffer_bytes}
use Rattle.reply_planner.specs.Plans.{LiesAt, IsPlan}
use Rattle.reply_planner.specs.Owned.{key_buffers}
use Rattle.reply_planner.specs.Told.{PlanTaken, told, with_run}
use Rattle.reply_planner.specs.declared.terms.Terms.{Terms}
use Rattle.reply_planner.proofs.KeptAt.{length-run, last_short, last_at}
use Rattle.reply_planner.proofs.Counted.{is_long}
use Rattle.reply_planner.proofs.Moved.{begun_is}
use Rattle.reply_planner.proofs.Runs.{after_long, fits_long}
use Rattle.reply_planner.proofs.Unboxed.{kept_with, seen_with}
use Rattle.reply_planner.proofs.plan.Plan.pin_part.Goals as goal

pub pin-hold-requires : goal.pin-hold-requires
pin-hold-requires g c =
    let inside = c.self.inside in
    let z = g.N.PoolName.sizes in
    let old = told z inside.history in
    let base : Terms = terms inside.need.descriptors (key_buffers inside.lists.value.staged.items) inside.threshold in
    let begun = begun_is old.begun (λ b. MayComeNext c.args.from c.args.len b)
    (subst (λ (p : Planned). MatchOption p.begun ⊥ (λ b. MayComeNext c.args.from c.args.len b))
    (sym c.self.view_is) c.requires.next) in
    let next = subst (λ o. MatchOption o ⊥ (λ b. MayComeNext c.args.from c.args.len b))
    (ap (λ (p : Planned). p.begun) (sym c.self.view_is) ∙ begun.1) c.requires.next in
    let was = subst (λ o. IsPlan z (planned base old.taken o) inside.lists.value.text.items
    inside.lists.value.segments.items inside.lists.value.pins.items inside.lists.value.staged.items inside.run
    inside.paid inside.seat) begun.1 c.self.invariant.0 in
    let test : c.self.inside.threshold ≤ c.args.len = subst (λ (p : Planned). p.base.threshold ≤ c.args.len)
    (sym c.self.view_is) c.requires.long in
    let fits = fits_long z base old.taken inside.lists.value.text.items inside.lists.value.segments.items
    inside.lists.value.pins.items inside.lists.value.staged.items inside.run inside.paid inside.seat begun.0
    c.args.from c.args.len was next c.requires.filled.0 in
    (c.requires.held, omega (arith, fits.credits))

pub overflow_add-self : goal.overflow_add-self
overflow_add-self g c =
    let inside = c.self.inside in
    let z = g.N.PoolName.sizes in
    let old = told z inside.history in
    let base : Terms = terms inside.need.descriptors (key_buffers inside.lists.value.staged.items) inside.threshold in
    let begun = begun_is old.begun (λ b. MayComeNext c.args.from c.args.len b)
    (subst (λ (p : Planned). MatchOption p.begun ⊥ (λ b. MayComeNext c.args.from c.args.len b))
    (sym c.self.view_is) c.requires.next) in
    let next = subst (λ o. MatchOption o ⊥ (λ b. MayComeNext c.args.from c.args.len b))
    (ap (λ (p : Planned). p.begun) (sym c.self.view_is) ∙ begun.1) c.requires.next in
    let was = subst (λ o. IsPlan z (planned base old.taken o) inside.lists.value.text.items
    inside.lists.value.segments.items inside.lists.value.pins.items inside.lists.value.staged.items inside.run
    inside.paid inside.seat) begun.1 c.self.invariant.0 in
    let test : c.self.inside.threshold ≤ c.args.len = subst (λ (p : Planned). p.base.threshold ≤ c.args.len)
    (sym c.self.view_is) c.requires.long in
    let fits = fits_long z base old.taken inside.lists.value.text.items inside.lists.value.segments.items
    inside.lists.value.pins.items inside.lists.value.staged.items inside.run inside.paid inside.seat begun.0
    c.args.from c.args.len was next c.requires.filled.0 in
    omega (arith, fits.paid_fits)

pub lay-requires-clause-room : goal.lay-requires-clause-room
lay-requires-clause-room g c =
    let inside = c.self.inside in
    let z = g.N.PoolName.sizes in
    let lists = c.deref_mut-lists.result.now in
    let kept = kept_with inside.need.descriptors inside.threshold (told z inside.history) z inside.run inside.paid
    inside.seat lists inside.lists.value c.deref_mut-lists.ensures.value c.self.invariant in
    let seen = seen_with inside.need.descriptors inside.threshold (told z inside.history) lists inside.lists.value _
    c.deref_mut-lists.ensures.value c.self.view_is in
    let old = told z inside.history in
    let base : Terms = terms inside.need.descriptors (key_buffers lists.staged.items) inside.threshold in
    let begun = begun_is old.begun (λ b. MayComeNext c.args.from c.args.len b)
    (subst (λ (p : Planned). MatchOption p.begun ⊥ (λ b. MayComeNext c.args.from c.args.len b))
    (sym seen) c.requires.next) in
    let next = subst (λ o. MatchOption o ⊥ (λ b. MayComeNext c.args.from c.args.len b))
    (ap (λ (p : Planned). p.begun) (sym seen) ∙ begun.1) c.requires.next in
    let was = subst (λ o. IsPlan z (planned base old.taken o) lists.text.items lists.segments.items lists.pins.items
    lists.staged.items inside.run inside.paid inside.seat) begun.1 kept.0 in
    let test : c.self.inside.threshold ≤ c.args.len = subst (λ (p : Planned). p.base.threshold ≤ c.args.len)
    (sym seen) c.requires.long in
    let fits = fits_long z base old.taken lists.text.items lists.segments.items lists.pins.items lists.staged.items
    inside.run inside.paid inside.seat begun.0 c.args.from c.args.len was next c.requires.filled.0 in
    omega (arith, fits.segments, kept.1.segments)

pub lay-requires-clause-offset : goal.lay-requires-clause-offset
lay-requires-clause-offset g c =
    let front = front_of c.args.frag.now.hold.buffer c.args.owner.now.holds in
    last_short g.N.PoolName.sizes c.self.inside.seat c.pin-hold.new.taker
    (pinned_hold c.args.frag.now.hold.buffer front) c.args.from c.args.len
    (ap (λ (v : View). v.holds) c.pin-hold.ensures.taker) c.is_seat.ensures c.requires.filled.0 c.requires.filled.1

pub invariant_of-self : goal.invariant_of-self
invariant_of-self g c =
    let inside = c.self.inside in
    let z = g.N.PoolName.sizes in
    let lists = c.deref_mut-lists.result.now in
    let kept = kept_with inside.need.descriptors inside.threshold (told z inside.history) z inside.run inside.paid
    inside.seat lists inside.lists.value c.deref_mut-lists.ensures.value c.self.invariant in
    let seen = seen_with inside.need.descriptors inside.threshold (told z inside.history) lists inside.lists.value _
    c.deref_mut-lists.ensures.value c.self.view_is in
    let old = told z inside.history in
    let base : Terms = terms inside.need.descriptors (key_buffers lists.staged.items) inside.threshold in
    let begun = begun_is old.begun (λ b. MayComeNext c.args.from c.args.len b)
    (subst (λ (p : Planned). MatchOption p.begun ⊥ (λ b. MayComeNext c.args.from c.args.len b))
    (sym seen) c.requires.next) in
    let next = subst (λ o. MatchOption o ⊥ (λ b. MayComeNext c.args.from c.args.len b))
    (ap (λ (p : Planned). p.begun) (sym seen) ∙ begun.1) c.requires.next in
    let was = subst (λ o. IsPlan z (planned base old.taken o) lists.text.items lists.segments.items lists.pins.items
    lists.staged.items inside.run inside.paid inside.seat) begun.1 kept.0 in
    let test : c.self.inside.threshold ≤ c.args.len = subst (λ (p : Planned). p.base.threshold ≤ c.args.len)
    (sym seen) c.requires.long in
    let fits = fits_long z base old.taken lists.text.items lists.segments.items lists.pins.items lists.staged.items
    inside.run inside.paid inside.seat begun.0 c.args.from c.args.len was next c.requires.filled.0 in
    let e = c.buffer-buffer.ensures.buffer in
    let buf = c.buffer-buffer.result in
    let b = c.args.frag.now.hold.buffer in
    let front = front_of b c.args.owner.now.holds in
    let filled : c.args.from + c.args.len ≤ 8 * length (front_of buf c.args.owner.now.holds) =
    subst (λ x. c.args.from + c.args.len ≤ 8 * length (front_of x c.args.owner.now.holds))
    (sym e) c.requires.filled.1 in
    let f = placed_part z c.args.owner.now.holds buf c.args.from c.args.len in
    let long = length-run c.args.from c.args.len (front_of buf c.args.owner.now.holds) filled in
    let new : told z c.add.new.self ≡ record { taken = old.taken; begun = with_run f (Some begun.0) } =
    c.add.ensures ∙ (λ i. record {
      taken = old.taken;
      begun = with_run (placed_part z (c.of.ensures i).holds buf c.args.from c.args.len) (begun.1 i);
    }) in
    let stays = is_long inside.threshold f (omega (arith, long, test)) in
    let named = c.pin-hold.ensures.new in
    let holds = ap (λ (v : View). v.holds) c.pin-hold.ensures.taker in
    let there : LiesAt z c.pin-hold.new.taker.holds (address_of z buf + c.args.from)
    (buffer_bytes c.args.owner.now.holds buf c.args.from c.args.len) =
    subst (λ x. LiesAt z c.pin-hold.new.taker.holds (address_of z x + c.args.from)
    (buffer_bytes c.args.owner.now.holds x c.args.from c.args.len)) (sym e)
    (last_at z inside.seat c.pin-hold.new.taker (pinned_hold b front) c.args.from c.args.len holds c.is_seat.ensures
    c.requires.filled.0 c.requires.filled.1) in
    let now = after_long z base old.taken lists.text.items lists.segments.items lists.pins.items lists.staged.items
    inside.run inside.paid inside.seat begun.0 c.args.from c.args.len was next c.requires.filled.0 f long
    c.lay.new.lists.segments.items c.lay.new.lists.pins.items c.pin-hold.result (inside.paid + 1)
    (pinned_hold b front ∷ []) c.pin-hold.new.taker test
    (c.lay.ensures.segments
    ∙ ap (λ x. lists.segments.items ++ cut (buffer_addresses z base.stage) (length lists.text.items - inside.run)
    inside.run (length lists.text.items - inside.run) ++ segment (address_of z x + c.args.from) c.args.len ∷ [])
    (ap (λ (k : Key). k.buffer) named ∙ sym e))
    c.lay.ensures.count c.lay.ensures.pins holds (ap (λ (k : Key). k ∷ []) (sym named))
    (ap (λ (k : Key). pinned_keys (k ∷ [])) named ∙ sym stays.paid)
    (ap (λ n. inside.paid + n) (sym stays.paid))
    (omega (arith, ap (λ (v : View). v.credits) c.pin-hold.ensures.taker, was.has.credits, fits.credits))
    (record {
      claims = ap (λ (v : View). v.claims) c.pin-hold.ensures.taker ∙ was.has.idle.claims;
      looks = ap (λ (v : View). v.looks) c.pin-hold.ensures.taker ∙ was.has.idle.looks;
      returns = ap (λ (v : View). v.returns) c.pin-hold.ensures.taker ∙ was.has.idle.returns;
      lasts = ap (λ (v : View). v.lasts) c.pin-hold.ensures.taker ∙ was.has.idle.lasts;
    }) there in
    let text_is : c.lay.new.lists.text.items ≡ lists.text.items = ap (λ v. v.items) c.lay.ensures.same.0 in
    let run_is : length lists.text.items ≡ c.len-text.result = omega (arith, c.len-text.ensures) in (
      subst (λ tx. IsPlan z
          (planned (terms inside.need.descriptors (key_buffers c.lay.new.lists.staged.items) inside.threshold)
          (told z c.add.new.self).taken (told z c.add.new.self).begun) tx c.lay.new.lists.segments.items
          c.lay.new.lists.pins.items c.lay.new.lists.staged.items c.len-text.result
          (inside.paid + 1) c.pin-hold.new.taker) (sym text_is)
          (subst (λ (st : List Key). IsPlan z
          (planned (terms inside.need.descriptors (key_buffers st) inside.threshold) (told z c.add.new.self).taken
          (told z c.add.new.self).begun) lists.text.items c.lay.new.lists.segments.items c.lay.new.lists.pins.items
          st c.len-text.result (inside.paid + 1) c.pin-hold.new.taker) (sym c.lay.ensures.same.1)
          (subst (λ m. IsPlan z (planned base (told z c.add.new.self).taken (told z c.add.new.self).begun)
          lists.text.items c.lay.new.lists.segments.items c.lay.new.lists.pins.items lists.staged.items m
          (inside.paid + 1) c.pin-hold.new.taker) run_is
          (subst (λ (t : PlanTaken). IsPlan z (planned base t.taken t.begun) lists.text.items
          c.lay.new.lists.segments.items c.lay.new.lists.pins.items lists.staged.items (length lists.text.items)
          (inside.paid + 1) c.pin-hold.new.taker) (sym new) now))),
      record {
        text = omega (
          arith,
          kept.1.text,
          ap (λ v. vec_capacity v) c.lay.ensures.same.0,
          ap (λ (l : List Key). length l)
              c.lay.ensures.same.1,
        );
        segments = omega (arith, kept.1.segments, c.lay.ensures.room.0);
        pins = omega (arith, kept.1.pins, c.lay.ensures.room.1);
      },
    )
