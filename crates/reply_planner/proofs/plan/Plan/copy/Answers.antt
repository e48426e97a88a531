use Rattle.std.proofs.Common.{◌≡◌, ◌+◌, ◌≤◌, ◌++◌, ◌∷◌, [], length, drop, None, sym, ap, ◌∙◌, subst, arith}
use Rattle.std.proofs.lemmas.List.{drop_at}
use Rattle.frag_value.specs.Taken.{copied}
use Rattle.reply_planner.specs.Planned.{Planned, terms, planned, left_of, slots_of, room_of}
use Rattle.reply_planner.specs.Plans.{IsPlan}
use Rattle.reply_planner.specs.Owned.{key_buffers}
use Rattle.reply_planner.specs.Told.{PlanTaken, told}
use Rattle.reply_planner.proofs.Moved.{after_copy, copy-left, copy-slots, copy-room}
use Rattle.reply_planner.specs.declared.terms.Terms.{Terms}
use Rattle.reply_planner.proofs.Unboxed.{view_with, kept_with, seen_with}
use Rattle.reply_planner.proofs.plan.Plan.copy.Given as given
use Rattle.reply_planner.proofs.plan.Plan.copy.Goals as goal

module _ (g : given.Over) (c : goal.After-add g) where
  seen : view_with c.self.inside.need.descriptors c.self.inside.threshold
      (told g.N.PoolName.sizes c.self.inside.history) c.deref_mut-lists.result.now ≡ c.args.self.now
  seen = seen_with c.self.inside.need.descriptors c.self.inside.threshold
      (told g.N.PoolName.sizes c.self.inside.history) c.deref_mut-lists.result.now c.self.inside.lists.value _
      c.deref_mut-lists.ensures.value c.self.view_is

  abbrev base : Terms
  base = terms c.self.inside.need.descriptors (key_buffers c.deref_mut-lists.result.now.staged.items)
      c.self.inside.threshold

  abbrev old : PlanTaken
  old = told g.N.PoolName.sizes c.self.inside.history

  none : old.begun ≡ None
  none = ap (λ (p : Planned). p.begun) seen ∙ c.requires.none

  was : planned base old.taken None ≡ c.args.self.now
  was = ap (λ o. planned base old.taken o) (sym none) ∙ seen

  fits : length c.args.bytes.now ≤ left_of (planned base old.taken None)
  fits = subst (λ (p : Planned). length c.args.bytes.now ≤ left_of p) (sym was) c.requires.fits

  bytes_are : drop c.len-place.result c.of-text.result.value.items ≡ c.args.bytes.now
  bytes_are =
      ap (λ v. drop c.len-place.result v.items) c.of-text.ensures ∙ ap (drop c.len-place.result) c.append.ensures.items
      ∙ drop_at c.deref_mut-lists.result.now.text.items c.args.bytes.now c.len-place.result
      (omega (arith, c.len-place.ensures))

  new : told g.N.PoolName.sizes c.add.new.self ≡ record {
    taken = old.taken ++ copied c.args.bytes.now ∷ [];
    begun = None;
  }
  new = c.add.ensures ∙ (λ i. record { taken = old.taken ++ copied (bytes_are i) ∷ []; begun = none i })

  is : planned base (told g.N.PoolName.sizes c.add.new.self).taken (told g.N.PoolName.sizes c.add.new.self).begun
      ≡ planned base (old.taken ++ copied c.args.bytes.now ∷ []) None
  is = ap (λ (t : PlanTaken). planned base t.taken t.begun) new

pub invariant_of-self : goal.invariant_of-self
invariant_of-self g c =
    let inside = c.self.inside in
    let z = g.N.PoolName.sizes in
    let lists = c.deref_mut-lists.result.now in
    let kept = kept_with inside.need.descriptors inside.threshold (told z inside.history) z inside.run inside.paid
    inside.seat lists inside.lists.value c.deref_mut-lists.ensures.value c.self.invariant in
    let before = subst (λ o. IsPlan z (planned (base g c) (old g c).taken o) lists.text.items lists.segments.items
    lists.pins.items lists.staged.items inside.run inside.paid inside.seat) (none g c) kept.0 in (
      subst (λ p. IsPlan z p c.append.new.text.items lists.segments.items lists.pins.items lists.staged.items inside.run
          inside.paid inside.seat) (sym (is g c))
          (after_copy z (base g c) (old g c).taken lists.text.items lists.segments.items lists.pins.items
          lists.staged.items inside.run inside.paid inside.seat c.args.bytes.now c.append.new.text.items before
          c.append.ensures.items (fits g c)),
      record {
        text = omega (arith, kept.1.text, c.append.ensures.capacity);
        segments = kept.1.segments;
        pins = kept.1.pins;
      },
    )

pub returns-clause-left : goal.returns-clause-left
returns-clause-left g c =
    ap left_of (sym (was g c)) ∙ copy-left (base g c) (old g c).taken c.args.bytes.now (fits g c)
    ∙ ap (λ p. left_of p + length c.args.bytes.now) (sym (is g c))

pub returns-clause-slots : goal.returns-clause-slots
returns-clause-slots g c = ap slots_of (is g c) ∙ copy-slots (base g c) (old g c).taken c.args.bytes.now
    ∙ ap slots_of (was g c)

pub returns-clause-room : goal.returns-clause-room
returns-clause-room g c few =
    subst (λ p. room_of p ≤ room_of
    (planned (base g c) (told g.N.PoolName.sizes c.add.new.self).taken
    (told g.N.PoolName.sizes c.add.new.self).begun) + 1) (was g c)
    (subst (λ p. room_of (planned (base g c) (old g c).taken None) ≤ room_of p + 1) (sym (is g c))
    (copy-room (base g c) (old g c).taken c.args.bytes.now (fits g c) few))
