-- All clauses of a run that served its files.
use Rattle.std.proofs.Common.{List}
use Rattle.flake_base.specs.Told.{HostTold, WireTold}
use Rattle.flake_run.specs.Task.{Job, RunTask}
use Rattle.flake_run.specs.Does.{ServeDoes}
use Rattle.flake_run.specs.Outcome.{RunOutcome}
use Rattle.flake_run.specs.Outside.{outside}
use Rattle.flake_run.proofs.Ran.{Ran, IsTask}
use Rattle.flake_run.proofs.RanServed.{ran_served}
use Rattle.flake_run.proofs.RanUntouched.{ran_untouched}
use Rattle.flake_run.proofs.RanCauses.{ran_causes}
use Rattle.flake_run.proofs.RanComplete.{ran_complete}
use Rattle.flake_run.proofs.RanSaid.{ran_said}

pub ran_all : {W : Type 0} (tells : W → WireTold) (task : RunTask) (job : Job) (host now : HostTold)
    (wires after : List W) (done : RunOutcome)
    → IsTask task job wires → Ran tells job host now wires after done
    → ServeDoes task (outside host wires tells) (outside now after tells) done
ran_all tells task job host now wires after done t r = record {
  served = λ some. ran_served tells task job host now wires after done t r;
  untouched = ran_untouched tells task job host now wires after done t r;
  causes = ran_causes tells task job host now wires after done t r;
  complete = ran_complete tells task job host now wires after done t r;
  said = ran_said tells task job host now wires after done t r;
}
