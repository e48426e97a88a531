use Rattle.std.proofs.Common.{◌≤◌, ◌++◌, length, refl, ap, sym, ◌∙◌, subst, arith}
use Rattle.pinned_pool.specs.Moves.{meant_count}
use Rattle.frag_value.specs.Values.{Frags, uses}
use Rattle.frag_value.specs.Pins.{AreReturned, all_frags, pin_key}
use Rattle.pin_dump.specs.Dumps.{GivesHolds}
use Rattle.pin_dump.proofs.GivenBack.{all_given, given_on, frags-one, gives_none, gives_more, still_held}
use Rattle.pin_dump.proofs.giving.give_back.Goals as goal

pub loop-pair-init : goal.loop-pair-init
loop-pair-init g c =
    let gives = c.into_iter-pair-iterator.ensures.into_iter_gives in
    record {
      all = gives.0;
      left = omega (arith, gives.1, ap length gives.0, c.args.pairs.ok.0);
      gives = gives_none c.args.seat.now;
    }

pub release_pins-requires : goal.release_pins-requires
release_pins-requires g c = λ b.
    let i = c.loop-pair.invariant in
    let pair = c.in-Some.pair in
    let steps = c.in-Some.ensures.steps in
    let given = c.loop-pair.yielded in
    subst (λ (v : Frags). uses b v ≤ meant_count (pin_key b) c.loop-pair.seat.holds) (sym c.into_value.ensures)
    (still_held (all_frags given) pair _ c.args.pairs.items given c.args.seat.now.holds c.loop-pair.seat.holds
    c.requires
    refl (ap (λ l. given ++ l) (sym steps.0) ∙ i.all) i.gives.holds b)

pub loop-pair-preserved : goal.loop-pair-preserved
loop-pair-preserved g c =
    let i = c.loop-pair.invariant in
    let pair = c.in-Some.pair in
    let steps = c.in-Some.ensures.steps in
    let given = c.loop-pair.yielded in
    let old = c.args.seat.now in
    let new = c.release_pins.new.seat in
    let next = subst (λ (v : Frags). AreReturned v c.release_pins.result c.loop-pair.seat new) c.into_value.ensures
    c.release_pins.ensures in
    record {
      all = given_on given _ _ _ _ i.all steps.0;
      left = omega (arith, i.left, steps.1, ap length steps.0);
      gives = subst (λ (v : Frags). GivesHolds v old new) (sym (frags-one given pair))
          (gives_more (all_frags given) pair.1 c.release_pins.result old c.loop-pair.seat new i.gives next);
    }

pub returns : goal.returns
returns g c =
    let i = c.loop-pair.invariant in
    let all = all_given c.loop-pair.yielded _ _ _ i.all i.left c.in-None.ensures.steps.0 in
    subst (λ l. GivesHolds (all_frags l) c.args.seat.now c.loop-pair.seat) all i.gives
