use Rattle.std.proofs.Common.{◌≤◌, refl, arith}
use Rattle.std.specs.Prelude.{None}
use Rattle.std.proofs.lemmas.Bool.{le-leb}
use Rattle.pin_core.specs.PinStep.{give}
use Rattle.pin_core.specs.Answers.{credits_of}
use Rattle.pin_core.specs.declared.event.Change.TheVariants as change
use Rattle.pin_core.specs.declared.event.PinEvent.TheVariants.{Give}
use Rattle.pin_core.specs.declared.refused.Refused.TheVariants.{NoCredit}
use Rattle.pin_core.proofs.Answering.{done, unless-passed, on_ok}
use Rattle.pin_core.proofs.RawSteps.{step_kept, give_step}
use Rattle.pin_core.proofs.state.PinState.give.Goals as goal
use Rattle.view_sums.proofs.Sums.{total-append}
use Rattle.std.proofs.Common.{replicate}
use Rattle.pin_core.proofs.AccountSums.{one_of, credits_of-le}

pub add-requires : goal.add-requires
add-requires c =
    let i = c.self.inside in
    let kept = c.self.invariant in
    let enough : c.args.credits ≤ credits_of c.args.from i.credits = omega (arith, c.of.ensures, c.if-credits-of.false)
    in
    omega (arith, enough, credits_of-le c.args.from i.credits, kept.sound.credited, kept.within.few_credits)

pub take-requires : goal.take-requires
take-requires c =
    let i = c.self.inside in
    let kept = c.self.invariant in
    let enough : c.args.credits ≤ credits_of c.args.from i.credits = omega (arith, c.of.ensures, c.if-credits-of.false)
    in
    let adds = on_ok c.add.result c.if-is_err.ensures.value c.add.ensures.ok in
    omega (
      arith,
      enough,
      adds (one_of c.args.from),
      total-append (one_of c.args.from)
          (replicate c.args.credits c.args.to) i.credits,
    )

pub invariant_of-self-2 : goal.invariant_of-self-2
invariant_of-self-2 c =
    let i = c.self.inside in
    let kept = c.self.invariant in
    let enough : c.args.credits ≤ credits_of c.args.from i.credits = omega (arith, c.of.ensures, c.if-credits-of.false)
    in
    let adds = on_ok c.add.result c.if-is_err.ensures.value c.add.ensures.ok in
    step_kept kept i.holds.items i.words.items c.take.new.self (give c.args.from c.args.to c.args.credits) tt
    (give_step kept c.args.from c.args.to c.args.credits c.add.new.self c.take.new.self enough adds c.take.ensures)
    kept.short

pub returns : goal.returns
returns c =
    let i = c.self.inside in
    let kept = c.self.invariant in
    let enough : c.args.credits ≤ credits_of c.args.from i.credits = omega (arith, c.of.ensures, c.if-credits-of.false)
    in
    let adds = on_ok c.add.result c.if-is_err.ensures.value c.add.ensures.ok in
    let passes = unless-passed _ NoCredit None (le-leb c.args.credits _ enough) in
    done c.self.view_is (Give c.args.from c.args.to c.args.credits) kept.sound change.Given tt passes
    (give_step kept c.args.from c.args.to c.args.credits c.add.new.self c.take.new.self enough adds c.take.ensures)
    refl refl
