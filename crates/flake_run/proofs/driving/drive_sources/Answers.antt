use Rattle.std.proofs.lemmas.Result.{IfOk-weaker}
use Rattle.flake_run.proofs.DrivenRun.{driven_to}
use Rattle.flake_run.proofs.driving.drive_sources.Goals as goal

pub returns-clause-run : goal.returns-clause-run
returns-clause-run g c = IfOk-weaker c.drive_inputs.result _ _
    (λ r drove. driven_to _ _ (λ w. (g.dyn-1.0.entry w.vtable).1.wire_told w.value)
    (record { put = λ w p r some post. post some; flush = λ w r post. post })
    _ _ _ _ _ _ _ _ _ _ _ _ _ _ drove) c.drive_inputs.ensures.drove
