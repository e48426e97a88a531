-- What a run says that served its files.
use Rattle.std.proofs.Common.{◌≡◌, inl, inr, ℕ, List, length, ap, sym, ◌∙◌, subst}
use Rattle.flake_base.specs.Told.{HostTold, WireTold}
use Rattle.flake_run.specs.Task.{Job, RunTask}
use Rattle.flake_run.specs.Outside.{outside}
use Rattle.flake_run.specs.Outcome.{RunOutcome}
use Rattle.flake_run.specs.Said.{Said, PrintsStatus, status_text, text_served}
use Rattle.flake_run.specs.declared.outcome.Detail.{Detail}
use Rattle.flake_run.proofs.Ran.{Ran, IsTask, IsServedStatus, sessions_are}
use Rattle.flake_run.proofs.RanUntouched.{no_ends}

served_is : (status : ℕ) (detail : Detail) (served : List ℕ) → IsServedStatus status → status_text status detail served
    ≡ served
served_is status detail served (inl is) = ap (λ s. status_text s detail served) is
served_is status detail served (inr (inl is)) = ap (λ s. status_text s detail served) is
served_is status detail served (inr (inr (inl is))) = ap (λ s. status_text s detail served) is
served_is status detail served (inr (inr (inr (inl is)))) = ap (λ s. status_text s detail served) is
served_is status detail served (inr (inr (inr (inr is)))) = ap (λ s. status_text s detail served) is

pub ran_said : {W : Type 0} (tells : W → WireTold) (task : RunTask) (job : Job) (host now : HostTold)
    (wires after : List W) (done : RunOutcome)
    → IsTask task job wires → Ran tells job host now wires after done → Said task (outside host wires tells)
    (outside now after tells) done
ran_said tells task job host now wires after done t r = record {
  text = λ other. subst (λ text. PrintsStatus text host now)
      (sym (served_is done.status done.detail (text_served task done) r.report.statuses
      ∙ ap (λ asked. text_served asked done) t.task_is))
      r.report.said;
  no_memory = λ six none. absurd
      (no_ends done.ends (length job.names) (sessions_are tells job host now wires after done r) t.some_names none);
  served = λ some. subst (λ text. PrintsStatus text host now)
      (sym (ap (λ asked. text_served asked done) t.task_is)) r.report.said;
}
