use Rattle.std.proofs.Common.{◌≡◌, ◌+◌, ◌<◌, ◌≤◌, None, Some, sym, ap, ◌∙◌, subst, arith}
use Rattle.frag_value.specs.Taken.{entire, begun_with}
use Rattle.reply_planner.specs.Planned.{Planned, terms, planned, room_of}
use Rattle.reply_planner.specs.Plans.{IsPlan}
use Rattle.reply_planner.specs.Owned.{key_buffers}
use Rattle.reply_planner.specs.Told.{PlanTaken, told}
use Rattle.reply_planner.specs.declared.terms.Terms.{Terms}
use Rattle.reply_planner.proofs.Moved.{after_begin, begin-room}
use Rattle.reply_planner.proofs.Unboxed.{view_with, kept_with, seen_with}
use Rattle.reply_planner.proofs.taking.PlanTaker.begin.Given as given
use Rattle.reply_planner.proofs.taking.PlanTaker.begin.Goals as goal

module _ (g : given.Over) (c : goal.After-add g) where
  seen : view_with c.self.inside.need.descriptors c.self.inside.threshold
      (told g.N.PoolName.sizes c.self.inside.history) c.deref_mut.result.now ≡ c.args.self.now
  seen = seen_with c.self.inside.need.descriptors c.self.inside.threshold
      (told g.N.PoolName.sizes c.self.inside.history) c.deref_mut.result.now c.self.inside.lists.value _
      c.deref_mut.ensures.value c.self.view_is

  abbrev base : Terms
  base = terms c.self.inside.need.descriptors (key_buffers c.deref_mut.result.now.staged.items) c.self.inside.threshold

  abbrev old : PlanTaken
  old = told g.N.PoolName.sizes c.self.inside.history

  none : old.begun ≡ None
  none = ap (λ (p : Planned). p.begun) seen ∙ c.requires.none

  was : planned base old.taken None ≡ c.args.self.now
  was = ap (λ o. planned base old.taken o) (sym none) ∙ seen

  room : 0 < room_of (planned base old.taken None)
  room = subst (λ (p : Planned). 0 < room_of p) (sym was) c.requires.room

  is : planned base (told g.N.PoolName.sizes c.add.new.self).taken (told g.N.PoolName.sizes c.add.new.self).begun
      ≡ planned base old.taken (Some (begun_with entire c.args.len))
  is = ap (λ (t : PlanTaken). planned base t.taken t.begun) c.add.ensures

pub invariant_of-self : goal.invariant_of-self
invariant_of-self g c =
    let inside = c.self.inside in
    let z = g.N.PoolName.sizes in
    let lists = c.deref_mut.result.now in
    let kept = kept_with inside.need.descriptors inside.threshold (told z inside.history) z inside.run inside.paid
    inside.seat lists inside.lists.value c.deref_mut.ensures.value c.self.invariant in
    let before = subst (λ o. IsPlan z (planned (base g c) (old g c).taken o) lists.text.items lists.segments.items
    lists.pins.items lists.staged.items inside.run inside.paid inside.seat) (none g c) kept.0 in (
      subst (λ p. IsPlan z p c.append_head.new.text.items lists.segments.items lists.pins.items lists.staged.items
          inside.run inside.paid inside.seat) (sym (is g c))
          (after_begin z (base g c) (old g c).taken lists.text.items lists.segments.items lists.pins.items
          lists.staged.items inside.run inside.paid inside.seat entire c.args.len c.append_head.new.text.items
          c.requires.len before c.append_head.ensures.items (omega (arith, room g c)) (omega (arith, room g c))),
      record {
        text = omega (arith, kept.1.text, c.append_head.ensures.capacity);
        segments = kept.1.segments;
        pins = kept.1.pins;
      },
    )

pub returns-clause-room : goal.returns-clause-room
returns-clause-room g c =
    subst (λ p. room_of p ≤ room_of
    (planned (base g c) (told g.N.PoolName.sizes c.add.new.self).taken
    (told g.N.PoolName.sizes c.add.new.self).begun) + 1) (was g c)
    (subst (λ p. room_of (planned (base g c) (old g c).taken None) ≤ room_of p + 1) (sym (is g c))
    (begin-room (base g c) (old g c).taken c.args.len c.requires.len))
