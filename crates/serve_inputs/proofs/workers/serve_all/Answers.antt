use denote.Exit.{no}
use denote.Param.{param}
use denote.Param.Send.{sendable, param_send, arg_send}
use Rattle.std.proofs.Common.{of_calls}
use Rattle.std.proofs.lemmas.Result.{IfOk-weaker}
use Rattle.serve_inputs.proofs.Many.{zip-weaker}
use Rattle.serve_inputs.proofs.Sending.{job-sends}
use Rattle.serve_inputs.proofs.workers.serve_all.Goals as goal

pub jobs_in_workers-requires-send-T : goal.jobs_in_workers-requires-send-T
jobs_in_workers-requires-send-T g c = λ κs within.
    param_send 1 _ (arg_send _ no _ (job-sends (param 1 g.row.N) (param 2 g.row.P) g.N.BookName g.P.PoolName
    (search sendable) (search sendable) (search sendable) (search sendable)
    (param 3 g.row.S) g.S.Source (search sendable) (param 5 g.row.W) (search sendable)))

pub jobs_in_workers-requires-clause-calls : goal.jobs_in_workers-requires-clause-calls
jobs_in_workers-requires-clause-calls g c = λ κs within k d small. (
  (c.requires.fresh k d small, c.requires.calls),
  (
    search sendable,
    search sendable,
    search sendable,
    search sendable,
    search,
    search,
    search,
    search,
    search,
  ),
)

pub returns-clause-served : goal.returns-clause-served
returns-clause-served g c = IfOk-weaker c.jobs_in_workers.result _ _
    (λ dones each. zip-weaker _ _ _ _ (λ x y p. search of_calls) each) c.jobs_in_workers.ensures.each
