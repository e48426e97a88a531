use Rattle.std.proofs.Common.{eqb, ap, ◌∙◌, arith}
use Rattle.std.specs.Prelude.{count_by}
use Rattle.pin_core.specs.Pins.{count_at}
use Rattle.pin_core.specs.declared.state.Hold.{Hold}
use Rattle.pin_core.specs.State.{SizedPins, pins_in}
use Rattle.pin_core.proofs.RawHolds.{count_by-weigh, count-le}
use Rattle.pin_core.proofs.state.PinState.holders_of.Goals as goal

pub overflow_cast-result : goal.overflow_cast-result
overflow_cast-result c =
    let z = c.self.inside.sizes in
    let s = pins_in z c.self.inside.holds.items c.self.inside.words.items c.self.inside.credits in
    omega (
      arith,
      c.count_holds.ensures ∙ ap (count_by (λ (h : Hold). eqb h.buffer c.args.buffer)) c.deref.ensures.value,
      count_by-weigh z c.self.inside.words.items c.args.buffer c.self.inside.holds.items,
      count-le z s c.self.invariant.sound c.args.buffer,
      c.self.invariant.within.few_credits,
    )

pub returns : goal.returns
returns c =
    let z = c.self.inside.sizes in
    c.count_holds.ensures ∙ ap (count_by (λ (h : Hold). eqb h.buffer c.args.buffer)) c.deref.ensures.value
    ∙ count_by-weigh z c.self.inside.words.items c.args.buffer c.self.inside.holds.items
    ∙ ap (λ (s : SizedPins). count_at c.args.buffer s.pins.holds) c.self.view_is
