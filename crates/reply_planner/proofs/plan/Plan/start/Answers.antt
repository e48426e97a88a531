use Rattle.std.proofs.Common.{[], None, take, ap, ◌∙◌}
use Rattle.reply_planner.specs.Owned.{key_buffers}
use Rattle.reply_planner.specs.Planned.{terms, planned}
use Rattle.reply_planner.proofs.Owned.{buffers-keys}
use Rattle.reply_planner.proofs.plan.Plan.start.Goals as goal

pub returns-clause-plan : goal.returns-clause-plan
returns-clause-plan g c =
    ap (λ bs. planned (terms c.args.need.descriptors bs c.args.threshold) [] None)
    (ap key_buffers c.in_ok-lists.ensures.staged ∙ buffers-keys (take c.args.need.stage c.args.stage.now))
