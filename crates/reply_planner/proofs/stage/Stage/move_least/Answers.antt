use Rattle.std.proofs.Common.{◌≡◌, length, ℕ, ◌+◌, ◌++◌, [], ◌∷◌, drop, vec_len, sym, ap, ◌∙◌, subst, arith}
use Rattle.std.proofs.lemmas.List.{length-drop}
use Rattle.view_sums.specs.Total.{Each}
use Rattle.view_sums.proofs.Eachs.{each-append, each-front, each-back}
use Rattle.reply_planner.specs.Owned.{IsStaging}
use Rattle.reply_planner.specs.Stages.{IsOrdered}
use Rattle.reply_planner.proofs.Merged.{ordered-drop}
use Rattle.reply_planner.proofs.Kept.{length-shown, next_shown, next_moved}
use Rattle.reply_planner.proofs.stage.Stage.move_least.Goals as goal

pub loop-self-preserved-in-Some : goal.loop-self-preserved-in-Some
loop-self-preserved-in-Some g c =
    let i = c.loop-self.invariant in
    let n = vec_len c.loop-self.staged in
    let rest = c.pop.new.self.items in
    let hold = c.in-Some.hold in
    let last : c.loop-self.self-inside.free.items ≡ rest ++ hold ∷ [] = c.in-Some.ensures.items in
    let staging = subst (Each (IsStaging g.N.PoolName.sizes)) last i.staging in
    let here = (each-back (IsStaging g.N.PoolName.sizes) rest (hold ∷ []) staging).0 in
    let next = next_shown n c.args.self.now c.loop-self.self-inside.free.items rest hold i.left last in
    let more : n + 1 ≡ vec_len c.push_reserved.new.self = sym c.push_reserved.ensures.len in
    record {
      few = omega (arith, c.push_reserved.ensures.len, c.loop-self-test.true, c.len.ensures);
      taken = next_moved n (vec_len c.push_reserved.new.self) c.args.self.now c.loop-self.staged.items
          c.push_reserved.new.self.items hold i.taken c.push_reserved.ensures.items here.1 c.push_reserved.ensures.len
          next.0;
      left = next.1 ∙ ap (λ (m : ℕ). drop m c.args.self.now) more;
      moved = subst (Each (IsStaging g.N.PoolName.sizes)) (sym c.push_reserved.ensures.items)
          (each-append (IsStaging g.N.PoolName.sizes) c.loop-self.staged.items (hold ∷ []) i.moved (here, tt));
      staging = each-front (IsStaging g.N.PoolName.sizes) rest (hold ∷ []) staging;
      room = omega (arith, i.room, c.pop.ensures.capacity);
      capacity = c.push_reserved.ensures.capacity ∙ i.capacity;
    }

pub invariant_of-self : goal.invariant_of-self
invariant_of-self g c =
    let i = c.loop-self.invariant in
    let was = c.self.invariant in
    let n = vec_len c.loop-self.staged in
    let free = c.loop-self.self-inside.free.items in
    let before : length c.args.self.now ≡ length c.self.inside.free.items = ap length (sym c.self.view_is)
    ∙ length-shown c.self.inside.free.items in
    record {
      staging = i.staging;
      room = i.room;
      few = omega (arith, was.few, before, length-shown free, ap length i.left, length-drop n c.args.self.now);
      ordered = subst IsOrdered (sym i.left)
          (ordered-drop n c.args.self.now (subst IsOrdered c.self.view_is was.ordered));
    }
