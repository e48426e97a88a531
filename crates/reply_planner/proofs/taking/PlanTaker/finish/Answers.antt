use Rattle.std.proofs.Common.{◌≡◌, ◌≤◌, ◌++◌, ◌∷◌, [], None, Some, sym, ap, ◌∙◌, subst, arith}
use Rattle.std.specs.Option.{MatchOption}
use Rattle.frag_value.specs.Taken.{Begun, whole, taken_bytes}
use Rattle.reply_planner.specs.Planned.{Planned, terms, planned, room_of, range_room_of}
use Rattle.reply_planner.specs.Plans.{IsPlan}
use Rattle.reply_planner.specs.Owned.{key_buffers}
use Rattle.reply_planner.specs.Told.{PlanTaken, told, with_value}
use Rattle.reply_planner.specs.declared.terms.Terms.{Terms}
use Rattle.reply_planner.proofs.Moved.{length-buffers, begun_is, after_finish, finish-rooms}
use Rattle.reply_planner.proofs.Unboxed.{view_with, Keeps, kept_with, seen_with}
use Rattle.reply_planner.proofs.taking.PlanTaker.finish.Given as given
use Rattle.reply_planner.proofs.taking.PlanTaker.finish.Goals as goal

pub append_end-requires : goal.append_end-requires
append_end-requires g c =
    let inside = c.self.inside in
    let z = g.N.PoolName.sizes in
    let lists = c.deref_mut.result.now in
    let kept = kept_with inside.need.descriptors inside.threshold (told z inside.history) z inside.run inside.paid
    inside.seat lists inside.lists.value c.deref_mut.ensures.value c.self.invariant in
    let seen = seen_with inside.need.descriptors inside.threshold (told z inside.history) lists inside.lists.value _
    c.deref_mut.ensures.value c.self.view_is in
    let old = told z inside.history in
    let base : Terms = terms inside.need.descriptors (key_buffers lists.staged.items) inside.threshold in
    let begun = begun_is old.begun (λ b. taken_bytes b ≡ b.size)
    (subst (λ (p : Planned). MatchOption p.begun ⊥ (λ b. taken_bytes b ≡ b.size)) (sym seen) c.requires.done) in
    let was = subst (λ o. IsPlan z (planned base old.taken o) lists.text.items lists.segments.items lists.pins.items
    lists.staged.items inside.run inside.paid inside.seat) begun.1 kept.0 in
    let room = kept.1.text in
    omega (arith, was.fits.bytes, was.fits.small.2, room, length-buffers lists.staged.items)

module _ (g : given.Over) (c : goal.After-add g) where
  kept : Keeps c.self.inside.need.descriptors c.self.inside.threshold (told g.N.PoolName.sizes c.self.inside.history)
      g.N.PoolName.sizes c.self.inside.run c.self.inside.paid c.self.inside.seat c.deref_mut.result.now
  kept = kept_with c.self.inside.need.descriptors c.self.inside.threshold
      (told g.N.PoolName.sizes c.self.inside.history) g.N.PoolName.sizes c.self.inside.run c.self.inside.paid
      c.self.inside.seat c.deref_mut.result.now c.self.inside.lists.value c.deref_mut.ensures.value c.self.invariant

  seen : view_with c.self.inside.need.descriptors c.self.inside.threshold
      (told g.N.PoolName.sizes c.self.inside.history) c.deref_mut.result.now ≡ c.args.self.now
  seen = seen_with c.self.inside.need.descriptors c.self.inside.threshold
      (told g.N.PoolName.sizes c.self.inside.history) c.deref_mut.result.now c.self.inside.lists.value _
      c.deref_mut.ensures.value c.self.view_is

  abbrev base : Terms
  base = terms c.self.inside.need.descriptors (key_buffers c.deref_mut.result.now.staged.items) c.self.inside.threshold

  abbrev old : PlanTaken
  old = told g.N.PoolName.sizes c.self.inside.history

  begun : (b : Begun) × (old.begun ≡ Some b)
  begun = begun_is old.begun (λ b. taken_bytes b ≡ b.size)
      (subst (λ (p : Planned). MatchOption p.begun ⊥ (λ b. taken_bytes b ≡ b.size)) (sym seen) c.requires.done)

  was : planned base old.taken (Some begun.0) ≡ c.args.self.now
  was = ap (λ o. planned base old.taken o) (sym begun.1) ∙ seen

  before : IsPlan g.N.PoolName.sizes (planned base old.taken (Some begun.0)) c.deref_mut.result.now.text.items
      c.deref_mut.result.now.segments.items c.deref_mut.result.now.pins.items c.deref_mut.result.now.staged.items
      c.self.inside.run c.self.inside.paid c.self.inside.seat
  before = subst (λ o. IsPlan g.N.PoolName.sizes (planned base old.taken o) c.deref_mut.result.now.text.items
      c.deref_mut.result.now.segments.items c.deref_mut.result.now.pins.items c.deref_mut.result.now.staged.items
      c.self.inside.run c.self.inside.paid c.self.inside.seat) begun.1 kept.0

  is : planned base (told g.N.PoolName.sizes c.add.new.self).taken (told g.N.PoolName.sizes c.add.new.self).begun
      ≡ planned base (old.taken ++ whole begun.0 ∷ []) None
  is = ap (λ (t : PlanTaken). planned base t.taken t.begun) c.add.ensures
      ∙ ap (λ o. planned base (with_value old.taken o) None) begun.1

  rooms : (room_of c.args.self.now ≤ room_of
      (planned base (told g.N.PoolName.sizes c.add.new.self).taken (told g.N.PoolName.sizes c.add.new.self).begun))
      × (range_room_of c.args.self.now ≤ range_room_of
      (planned base (told g.N.PoolName.sizes c.add.new.self).taken (told g.N.PoolName.sizes c.add.new.self).begun))
  rooms =
      let both = finish-rooms base old.taken begun.0 before.fits.small in
      subst (λ p. (room_of p ≤ room_of
      (planned base (told g.N.PoolName.sizes c.add.new.self).taken (told g.N.PoolName.sizes c.add.new.self).begun))
      × (range_room_of p ≤ range_room_of
      (planned base (told g.N.PoolName.sizes c.add.new.self).taken (told g.N.PoolName.sizes c.add.new.self).begun)))
      was
      (subst (λ p. (room_of (planned base old.taken (Some begun.0)) ≤ room_of p)
      × (range_room_of (planned base old.taken (Some begun.0)) ≤ range_room_of p)) (sym is) both)

pub invariant_of-self : goal.invariant_of-self
invariant_of-self g c =
    let inside = c.self.inside in
    let z = g.N.PoolName.sizes in
    let lists = c.deref_mut.result.now in
    let kept = kept_with inside.need.descriptors inside.threshold (told z inside.history) z inside.run inside.paid
    inside.seat lists inside.lists.value c.deref_mut.ensures.value c.self.invariant in (
      subst (λ p. IsPlan z p c.append_end.new.text.items lists.segments.items lists.pins.items lists.staged.items
          inside.run inside.paid inside.seat) (sym (is g c))
          (after_finish z (base g c) (old g c).taken lists.text.items lists.segments.items lists.pins.items
          lists.staged.items inside.run inside.paid inside.seat (begun g c).0 c.append_end.new.text.items
          (before g c) c.append_end.ensures.items),
      record {
        text = omega (arith, kept.1.text, c.append_end.ensures.capacity);
        segments = kept.1.segments;
        pins = kept.1.pins;
      },
    )

pub returns-clause-room : goal.returns-clause-room
returns-clause-room g c = (rooms g c).0

pub returns-clause-range_room : goal.returns-clause-range_room
returns-clause-range_room g c = (rooms g c).1
