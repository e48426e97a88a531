use Rattle.std.proofs.lemmas.Result.{IfOk-weaker}
use Rattle.flake_run.proofs.Requested.{generated_to, generated_count}
use Rattle.flake_run.proofs.generated.serve_requests.Goals as goal

pub returns-clause-run : goal.returns-clause-run
returns-clause-run g c = IfOk-weaker c.serve_generated.result _ _
    (λ r ran. generated_to _ _ (λ w. (g.dyn-1.0.entry w.vtable).1.wire_told w.value)
    (record { put = λ w p r some post. post some; flush = λ w r post. post })
    _ _ _ _ _ _ _ _ _ ran) c.serve_generated.ensures.ran

pub returns-clause-ends : goal.returns-clause-ends
returns-clause-ends g c = IfOk-weaker c.serve_generated.result _ _
    (λ r run. generated_count _ _ _ _ _ _ _ _ _ _ run) (returns-clause-run g c)
