use Rattle.std.proofs.Common.{◌≡◌, ◌+◌, ◌-◌, ◌*◌, ◌≤◌, List, [], ℕ, ◌∷◌, ◌++◌, take, drop, length, vec_capacity, cond}
use Rattle.std.proofs.Common.{Some, sym, ap, ◌∙◌, subst, arith}
use Rattle.std.specs.Option.{MatchOption}
use Rattle.pin_core.specs.Holding.{Key}
use Rattle.pinned_pool.specs.Moves.{front_of}
use Rattle.pinned_pool.specs.declared.view.View.{View}
use Rattle.pinned_pool.specs.Bytes.{bytes_of_words}
use Rattle.frag_value.specs.Taken.{MayComeNext, placed_over}
use Rattle.reply_layout.specs.Layout.{segment, cut}
use Rattle.pinned_pool.specs.Addresses.{address_of}
use Rattle.reply_planner.specs.Planned.{Planned, terms, planned}
use Rattle.reply_planner.specs.Parcels.{pinned_keys}
use Rattle.reply_planner.specs.Places.{buffer_addresses, buffer_bytes}
use Rattle.reply_planner.specs.Plans.{LiesAt, IsPlan}
use Rattle.reply_planner.specs.Owned.{key_buffers}
use Rattle.reply_planner.specs.Told.{PlanTaken, told, with_run}
use Rattle.reply_planner.specs.declared.terms.Terms.{Terms}
use Rattle.reply_planner.proofs.KeptAt.{length-run, last_short, last_at, came_over}
use Rattle.reply_planner.proofs.Moved.{begun_is}
use Rattle.reply_planner.proofs.Runs.{after_long, fits_long}
use Rattle.reply_planner.proofs.Unboxed.{kept_with, seen_with}
use Rattle.reply_planner.proofs.plan.Plan.move_over.Goals as goal

pub fetch-requires-clause-credits : goal.fetch-requires-clause-credits
fetch-requires-clause-credits g c =
    let inside = c.self.inside in
    let z = g.N.PoolName.sizes in
    let old = told z inside.history in
    let base : Terms = terms inside.need.descriptors (key_buffers inside.lists.value.staged.items) inside.threshold in
    let begun = begun_is old.begun (λ b. MayComeNext 0 c.args.frag.len b)
    (subst (λ (p : Planned). MatchOption p.begun ⊥ (λ b. MayComeNext 0 c.args.frag.len b))
    (sym c.self.view_is) c.requires.next) in
    let next = subst (λ o. MatchOption o ⊥ (λ b. MayComeNext 0 c.args.frag.len b))
    (ap (λ (p : Planned). p.begun) (sym c.self.view_is) ∙ begun.1) c.requires.next in
    let was = subst (λ o. IsPlan z (planned base old.taken o) inside.lists.value.text.items
    inside.lists.value.segments.items inside.lists.value.pins.items inside.lists.value.staged.items inside.run
    inside.paid inside.seat) begun.1 c.self.invariant.0 in
    let test : c.self.inside.threshold ≤ c.args.frag.len = subst (λ (p : Planned). p.base.threshold ≤ c.args.frag.len)
    (sym c.self.view_is) c.requires.long in
    let fits = fits_long z base old.taken inside.lists.value.text.items inside.lists.value.segments.items
    inside.lists.value.pins.items inside.lists.value.staged.items inside.run inside.paid inside.seat begun.0 0
    c.args.frag.len was next c.requires.filled.0 in
    omega (arith, fits.credits)

pub lay-requires-clause-room : goal.lay-requires-clause-room
lay-requires-clause-room g c =
    let inside = c.self.inside in
    let z = g.N.PoolName.sizes in
    let lists = c.deref_mut-lists.result.now in
    let kept = kept_with inside.need.descriptors inside.threshold (told z inside.history) z inside.run inside.paid
    inside.seat lists inside.lists.value c.deref_mut-lists.ensures.value c.self.invariant in
    let seen = seen_with inside.need.descriptors inside.threshold (told z inside.history) lists inside.lists.value _
    c.deref_mut-lists.ensures.value c.self.view_is in
    let old = told z inside.history in
    let base : Terms = terms inside.need.descriptors (key_buffers lists.staged.items) inside.threshold in
    let begun = begun_is old.begun (λ b. MayComeNext 0 c.args.frag.len b)
    (subst (λ (p : Planned). MatchOption p.begun ⊥ (λ b. MayComeNext 0 c.args.frag.len b))
    (sym seen) c.requires.next) in
    let next = subst (λ o. MatchOption o ⊥ (λ b. MayComeNext 0 c.args.frag.len b))
    (ap (λ (p : Planned). p.begun) (sym seen) ∙ begun.1) c.requires.next in
    let was = subst (λ o. IsPlan z (planned base old.taken o) lists.text.items lists.segments.items lists.pins.items
    lists.staged.items inside.run inside.paid inside.seat) begun.1 kept.0 in
    let test : c.self.inside.threshold ≤ c.args.frag.len = subst (λ (p : Planned). p.base.threshold ≤ c.args.frag.len)
    (sym seen) c.requires.long in
    let fits = fits_long z base old.taken lists.text.items lists.segments.items lists.pins.items lists.staged.items
    inside.run inside.paid inside.seat begun.0 0 c.args.frag.len was next c.requires.filled.0 in
    omega (arith, fits.segments, kept.1.segments)

pub lay-requires-clause-offset : goal.lay-requires-clause-offset
lay-requires-clause-offset g c =
    let z = g.N.PoolName.sizes in
    let came = came_over z c.args.owner.now c.self.inside.seat c.fetch.new.into c.args.frag.hold c.fetch.ensures.into
    c.is_seat.ensures c.requires.held in
    let filled_front : 0 + c.args.frag.len ≤ 8 * length came.hold.front =
    omega (arith, c.requires.filled.1, ap (λ (l : List ℕ). length l) came.front) in
    last_short z c.self.inside.seat c.fetch.new.into came.hold 0 c.args.frag.len came.holds c.is_seat-2.ensures
    c.requires.filled.0 filled_front

pub invariant_of-self : goal.invariant_of-self
invariant_of-self g c =
    let inside = c.self.inside in
    let z = g.N.PoolName.sizes in
    let lists = c.deref_mut-lists.result.now in
    let kept = kept_with inside.need.descriptors inside.threshold (told z inside.history) z inside.run inside.paid
    inside.seat lists inside.lists.value c.deref_mut-lists.ensures.value c.self.invariant in
    let seen = seen_with inside.need.descriptors inside.threshold (told z inside.history) lists inside.lists.value _
    c.deref_mut-lists.ensures.value c.self.view_is in
    let old = told z inside.history in
    let base : Terms = terms inside.need.descriptors (key_buffers lists.staged.items) inside.threshold in
    let begun = begun_is old.begun (λ b. MayComeNext 0 c.args.frag.len b)
    (subst (λ (p : Planned). MatchOption p.begun ⊥ (λ b. MayComeNext 0 c.args.frag.len b))
    (sym seen) c.requires.next) in
    let next = subst (λ o. MatchOption o ⊥ (λ b. MayComeNext 0 c.args.frag.len b))
    (ap (λ (p : Planned). p.begun) (sym seen) ∙ begun.1) c.requires.next in
    let was = subst (λ o. IsPlan z (planned base old.taken o) lists.text.items lists.segments.items lists.pins.items
    lists.staged.items inside.run inside.paid inside.seat) begun.1 kept.0 in
    let test : c.self.inside.threshold ≤ c.args.frag.len = subst (λ (p : Planned). p.base.threshold ≤ c.args.frag.len)
    (sym seen) c.requires.long in
    let fits = fits_long z base old.taken lists.text.items lists.segments.items lists.pins.items lists.staged.items
    inside.run inside.paid inside.seat begun.0 0 c.args.frag.len was next c.requires.filled.0 in
    let e = c.buffer.ensures.buffer in
    let buf = c.buffer.result in
    let b = c.args.frag.hold.buffer in
    let front = front_of b c.args.owner.now.holds in
    let filled : 0 + c.args.frag.len ≤ 8 * length (front_of buf c.args.owner.now.holds) =
    subst (λ x. 0 + c.args.frag.len ≤ 8 * length (front_of x c.args.owner.now.holds)) (sym e)
    (omega (arith, c.requires.filled.1)) in
    let f = placed_over z c.args.owner.now.holds (buf, c.args.frag.len) in
    let long = length-run 0 c.args.frag.len (front_of buf c.args.owner.now.holds) filled in
    let new : told z c.add.new.self ≡ record { taken = old.taken; begun = with_run f (Some begun.0) } =
    c.add.ensures ∙ (λ i. record {
      taken = old.taken;
      begun = with_run (placed_over z (c.of.ensures i).holds (buf, c.args.frag.len)) (begun.1 i);
    }) in
    let came = came_over z c.args.owner.now c.self.inside.seat c.fetch.new.into c.args.frag.hold c.fetch.ensures.into
    c.is_seat.ensures c.requires.held in
    let filled_front : 0 + c.args.frag.len ≤ 8 * length came.hold.front =
    omega (arith, c.requires.filled.1, ap (λ (l : List ℕ). length l) came.front) in
    let keyed : came.hold.buffer ≡ buf = ap (λ (k : Key). k.buffer) came.key ∙ sym e in
    let there : LiesAt z c.fetch.new.into.holds (address_of z buf + 0)
    (buffer_bytes c.args.owner.now.holds buf 0 c.args.frag.len) =
    subst (λ x. LiesAt z c.fetch.new.into.holds (address_of z x + 0)
    (buffer_bytes c.args.owner.now.holds x 0 c.args.frag.len)) (sym e)
    (subst (λ fr. LiesAt z c.fetch.new.into.holds (address_of z b + 0)
    (take c.args.frag.len (drop 0 (bytes_of_words fr)))) came.front
    (subst (λ (k : Key). LiesAt z c.fetch.new.into.holds (address_of z k.buffer + 0)
    (take c.args.frag.len (drop 0 (bytes_of_words came.hold.front)))) came.key
    (last_at z inside.seat c.fetch.new.into came.hold 0 c.args.frag.len came.holds c.is_seat-2.ensures
    c.requires.filled.0 filled_front))) in
    let free : pinned_keys (c.args.frag.hold ∷ []) ≡ 0 = ap (λ t. let n : ℕ = cond t 1 0 + 0 in n) c.requires.loose in
    let now = after_long z base old.taken lists.text.items lists.segments.items lists.pins.items lists.staged.items
    inside.run inside.paid inside.seat begun.0 0 c.args.frag.len was next c.requires.filled.0 f long
    c.lay.new.lists.segments.items c.lay.new.lists.pins.items c.args.frag.hold inside.paid
    (came.hold ∷ []) c.fetch.new.into test
    (c.lay.ensures.segments
    ∙ ap (λ x. lists.segments.items ++ cut (buffer_addresses z base.stage) (length lists.text.items - inside.run)
    inside.run (length lists.text.items - inside.run) ++ segment (address_of z x + 0) c.args.frag.len ∷ []) (sym e))
    c.lay.ensures.count c.lay.ensures.pins came.holds (ap (λ (k : Key). k ∷ []) came.key) free
    (omega arith) (omega (arith, ap (λ (v : View). v.credits) c.fetch.ensures.into, was.has.credits))
    (record {
      claims = ap (λ (v : View). v.claims) c.fetch.ensures.into ∙ was.has.idle.claims;
      looks = ap (λ (v : View). v.looks) c.fetch.ensures.into ∙ was.has.idle.looks;
      returns = ap (λ (v : View). v.returns) c.fetch.ensures.into ∙ was.has.idle.returns;
      lasts = ap (λ (v : View). v.lasts) c.fetch.ensures.into ∙ was.has.idle.lasts;
    }) there in
    let text_is : c.lay.new.lists.text.items ≡ lists.text.items = ap (λ v. v.items) c.lay.ensures.same.0 in
    let run_is : length lists.text.items ≡ c.len-text.result = omega (arith, c.len-text.ensures) in (
      subst (λ tx. IsPlan z
          (planned (terms inside.need.descriptors (key_buffers c.lay.new.lists.staged.items) inside.threshold)
          (told z c.add.new.self).taken (told z c.add.new.self).begun) tx c.lay.new.lists.segments.items
          c.lay.new.lists.pins.items c.lay.new.lists.staged.items c.len-text.result inside.paid c.fetch.new.into)
          (sym text_is)
          (subst (λ (st : List Key). IsPlan z
          (planned (terms inside.need.descriptors (key_buffers st) inside.threshold) (told z c.add.new.self).taken
          (told z c.add.new.self).begun) lists.text.items c.lay.new.lists.segments.items c.lay.new.lists.pins.items
          st c.len-text.result inside.paid c.fetch.new.into) (sym c.lay.ensures.same.1)
          (subst (λ m. IsPlan z (planned base (told z c.add.new.self).taken (told z c.add.new.self).begun)
          lists.text.items c.lay.new.lists.segments.items c.lay.new.lists.pins.items lists.staged.items m
          inside.paid c.fetch.new.into) run_is
          (subst (λ (t : PlanTaken). IsPlan z (planned base t.taken t.begun) lists.text.items
          c.lay.new.lists.segments.items c.lay.new.lists.pins.items lists.staged.items (length lists.text.items)
          inside.paid c.fetch.new.into) (sym new) now))),
      record {
        text = omega (
          arith,
          kept.1.text,
          ap (λ v. vec_capacity v) c.lay.ensures.same.0,
          ap (λ (l : List Key). length l)
              c.lay.ensures.same.1,
        );
        segments = omega (arith, kept.1.segments, c.lay.ensures.room.0);
        pins = omega (arith, kept.1.pins, c.lay.ensures.room.1);
      },
    )
