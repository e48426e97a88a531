use Rattle.std.proofs.Common.{◌≡◌, ◌≤◌, ◌++◌, ◌∷◌, [], None, List, ℕ, length, take, drop, sym, ap, ◌∙◌, subst, arith}
use Rattle.std.proofs.lemmas.List.{length-take, length-drop}
use Rattle.pinned_pool.specs.declared.view.View.{View}
use Rattle.reply_planner.specs.Owned.{AreOwn}
use Rattle.frag_value.specs.Taken.{copied}
use Rattle.reply_planner.specs.declared.terms.Terms.{Terms}
use Rattle.reply_planner.specs.Planned.{Planned, planned, paid_in}
use Rattle.reply_planner.specs.Sealed.{used_of}
use Rattle.reply_planner.proofs.Grown.{lent_own}
use Rattle.reply_planner.proofs.Merged.{length-merged}
use Rattle.test_replies.proofs.staging.send_full.Goals as goal

-- what is only copied takes no credit
unpaid : (old new : Planned) (base : Terms) (bytes : List ℕ) → old ≡ planned base [] None
    → new ≡ planned old.base (old.taken ++ copied bytes ∷ []) None → paid_in new ≡ 0
unpaid old new base bytes old_is new_is = ap paid_in new_is
    ∙ ap (λ (p : Planned). paid_in (planned p.base (p.taken ++ copied bytes ∷ []) None)) old_is

pub seal-requires-clause-own : goal.seal-requires-clause-own
seal-requires-clause-own g c =
    let lent = c.in_ok-plan.ensures in
    let holds = c.args.seat.now.holds in
    let stage = c.args.stage.now in
    let base : c.copy.new.self.base.stage ≡ take c.args.count stage =
    ap (λ (p : Planned). p.base.stage) c.copy.ensures.plan ∙ ap (λ (p : Planned). p.base.stage) lent.plan in
    subst (λ (v : View). AreOwn v.holds (c.start.new.stage ++ c.copy.new.self.base.stage)) (sym lent.seat)
    (subst (λ (l : List ℕ). AreOwn holds (l ++ c.copy.new.self.base.stage)) (sym lent.stage)
    (subst (λ (l : List ℕ). AreOwn holds (drop c.args.count stage ++ l)) (sym base)
    (lent_own holds stage c.args.count c.requires.own)))

pub returns-clause-stage : goal.returns-clause-stage
returns-clause-stage g c =
    let lent = c.in_ok-plan.ensures in
    let stage = c.args.stage.now in
    let base : c.copy.new.self.base.stage ≡ take c.args.count stage =
    ap (λ (p : Planned). p.base.stage) c.copy.ensures.plan ∙ ap (λ (p : Planned). p.base.stage) lent.plan in
    let used = used_of c.copy.new.self in
    omega (
      arith,
      ap (λ (l : List ℕ). length l) c.seal.ensures.stage,
      length-merged (drop used c.copy.new.self.base.stage) c.start.new.stage,
      length-drop used c.copy.new.self.base.stage,
      ap (λ (l : List ℕ). length l) c.seal.ensures.parcel.staged,
      length-take used c.copy.new.self.base.stage,
      ap (λ (l : List ℕ). length l) base,
      length-take c.args.count stage,
      ap (λ (l : List ℕ). length l) lent.stage,
      length-drop c.args.count stage,
      c.requires.stage,
    )

pub returns-clause-few : goal.returns-clause-few
returns-clause-few g c =
    let lent = c.in_ok-plan.ensures in
    let base : c.copy.new.self.base.stage ≡ take c.args.count c.args.stage.now =
    ap (λ (p : Planned). p.base.stage) c.copy.ensures.plan ∙ ap (λ (p : Planned). p.base.stage) lent.plan in
    let used = used_of c.copy.new.self in (
      omega (
        arith,
        ap (λ (l : List ℕ). length l) c.seal.ensures.parcel.staged,
        length-take used c.copy.new.self.base.stage,
        ap (λ (l : List ℕ). length l) base,
        length-take c.args.count c.args.stage.now,
      ),
      c.seal.ensures.parcel.paid ∙ unpaid c.in_ok-plan.plan c.copy.new.self _ _ lent.plan c.copy.ensures.plan,
    )
