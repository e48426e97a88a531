use Rattle.std.proofs.Common.{◌++◌, ap, ◌∙◌}
use Rattle.run_resources.proofs.Lists.{all_given}
use Rattle.serve_inputs.proofs.results.with_past.Goals as goal

pub returns-clause-items : goal.returns-clause-items
returns-clause-items g c =
    let before = c.loop-wire.invariant in
    before.wires ∙ ap (λ l. c.args.wires.items ++ l) (all_given c.loop-wire.yielded _ _ _ before.all before.left
    c.in-None.ensures.steps.0)
