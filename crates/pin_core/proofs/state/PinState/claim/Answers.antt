use Rattle.std.proofs.Common.{◌≡◌, List, [], ◌∷◌, ◌++◌, true, false, eqb, sym, refl, ap, subst, ◌∙◌, eq-eqb, arith}
use Rattle.std.specs.Prelude.{None, Result}
use Rattle.view_sums.proofs.Eachs.{each-append}
use Rattle.pin_core.specs.Pins.{count_at}
use Rattle.pin_core.specs.PinStep.{claim}
use Rattle.pin_core.specs.State.{SizedPins, pins_shown, pins_in, IsPoolState, IsAnswer}
use Rattle.pin_core.specs.declared.state.Hold.{Hold}
use Rattle.pin_core.specs.declared.event.Change.{Change}
use Rattle.pin_core.specs.declared.event.Change.TheVariants.{Claimed}
use Rattle.pin_core.specs.declared.event.PinEvent.TheVariants.{Claim}
use Rattle.pin_core.specs.declared.refused.Refused.{Refused}
use Rattle.pin_core.specs.declared.refused.Refused.TheVariants.{NotFree}
use Rattle.pin_core.proofs.Answering.{done, no_memory, unless-passed}
use Rattle.pin_core.proofs.RawSteps.{near_in, step_kept, claim_step}
use Rattle.pin_core.proofs.state.PinState.claim.Goals as goal
use Rattle.pin_core.proofs.state.PinState.claim.Goals.{in-Ok, in-Err}

pub invariant_of-self : goal.invariant_of-self
invariant_of-self c =
    let i = c.self.inside in
    let new : Hold = record {
      holder = c.args.holder;
      buffer = c.args.buffer;
      length = 0;
      exclusive = true;
      pinned = false;
    } in
    let free : count_at c.args.buffer (pins_in i.sizes i.holds.items i.words.items i.credits).holds ≡ 0 =
    ap (λ (s : SizedPins). count_at c.args.buffer s.pins.holds) c.self.view_is ∙ sym c.holders_of-holds.ensures
    ∙ c.if-holds-ne0.false in
    let P : List Hold → Type 0 = λ holds. IsPoolState i.sizes holds i.words.items i.credits in
    let near = near_in i c.self.view_is c.args.buffer c.requires in
    elim c.match-push.branch [
      | in-Ok w ↦ subst P (sym w.in-Ok.ensures.items) (
          step_kept c.self.invariant (i.holds.items ++ new ∷ []) i.words.items i.credits
          (claim c.args.buffer c.args.holder) near (claim_step c.self.invariant c.args.buffer c.args.holder free)
          (each-append _ i.holds.items (new ∷ []) c.self.invariant.short (omega arith, tt)))
      | in-Err w ↦ subst P (sym w.in-Err.ensures.items) c.self.invariant
    ]

pub returns : goal.returns
returns c =
    let i = c.self.inside in
    let kept = c.self.invariant in
    let count = count_at c.args.buffer (pins_in i.sizes i.holds.items i.words.items i.credits).holds in
    let free : count ≡ 0 = ap (λ (s : SizedPins). count_at c.args.buffer s.pins.holds) c.self.view_is
    ∙ sym c.holders_of-holds.ensures ∙ c.if-holds-ne0.false in
    let event = Claim c.args.buffer c.args.holder in
    let passes = unless-passed (eqb count 0) (NotFree count) None (eq-eqb count 0 free) in
    let after : List Hold → SizedPins = λ holds. pins_shown i.sizes holds i.words.items i.credits in
    let Given : Result Change Refused → Type 0 = λ r. IsAnswer c.args.self.now event r (after c.push.new.self.items) in
    elim c.match-push.branch [
      | in-Ok w ↦ subst Given (sym w.result-is)
          (done c.self.view_is event kept.sound Claimed (near_in i c.self.view_is c.args.buffer c.requires) passes
          (claim_step kept c.args.buffer c.args.holder free) refl (ap after w.in-Ok.ensures.items))
      | in-Err w ↦ subst Given (sym w.result-is)
          (no_memory c.self.view_is event kept.sound passes (ap after w.in-Err.ensures.items))
    ]
