-- What a run that served its files leaves as it was.
use Rattle.std.proofs.Common.{◌≡◌, ◌⊎◌, ◌<◌, inl, inr, ℕ, suc, ◌==◌, if◌then◌else◌, List, [], length, take, arith, ap}
use Rattle.std.proofs.Common.{sym, ◌∙◌, subst}
use Rattle.std.proofs.lemmas.List.{take_all}
use Rattle.flake_base.specs.Told.{HostTold, WireTold}
use Rattle.flake_base.specs.declared.session.SessionEnd.{SessionEnd}
use Rattle.check_files.specs.Named.{AreOther, counted_times}
use Rattle.flake_run.specs.Task.{Job, RunTask}
use Rattle.flake_run.specs.Outside.{outside}
use Rattle.flake_run.specs.Opening.{AreOfFiles}
use Rattle.flake_run.specs.Outcome.{RunOutcome, sources_of}
use Rattle.flake_run.specs.Untouched.{Untouched}
use Rattle.flake_run.proofs.Ran.{Ran, IsTask, IsServedStatus, sessions_are, sources_are}

not_refused : (status : ℕ) → IsServedStatus status → (status ≡ 1) ⊎ (status ≡ 2) → ⊥
not_refused status (inl is) (inl one) = omega (arith, is, one)
not_refused status (inl is) (inr two) = omega (arith, is, two)
not_refused status (inr (inl is)) (inl one) = omega (arith, is, one)
not_refused status (inr (inl is)) (inr two) = omega (arith, is, two)
not_refused status (inr (inr (inl is))) (inl one) = omega (arith, is, one)
not_refused status (inr (inr (inl is))) (inr two) = omega (arith, is, two)
not_refused status (inr (inr (inr (inl is)))) (inl one) = omega (arith, is, one)
not_refused status (inr (inr (inr (inl is)))) (inr two) = omega (arith, is, two)
not_refused status (inr (inr (inr (inr is)))) (inl one) = omega (arith, is, one)
not_refused status (inr (inr (inr (inr is)))) (inr two) = omega (arith, is, two)

-- with the statuses of what was served no open failed
pub opens_are : (status n : ℕ) → IsServedStatus status → (if status == 2 then suc n else n) ≡ n
opens_are status n (inl is) = ap (λ s. if s == 2 then suc n else n) is
opens_are status n (inr (inl is)) = ap (λ s. if s == 2 then suc n else n) is
opens_are status n (inr (inr (inl is))) = ap (λ s. if s == 2 then suc n else n) is
opens_are status n (inr (inr (inr (inl is)))) = ap (λ s. if s == 2 then suc n else n) is
opens_are status n (inr (inr (inr (inr is)))) = ap (λ s. if s == 2 then suc n else n) is

pub no_ends : (ends : List SessionEnd) (n : ℕ) → length ends ≡ n → 0 < n → ends ≡ [] → ⊥
no_ends ends n as_many some none = omega (arith, as_many, some, ap length none)

pub ran_untouched : {W : Type 0} (tells : W → WireTold) (task : RunTask) (job : Job) (host now : HostTold)
    (wires after : List W) (done : RunOutcome)
    → IsTask task job wires → Ran tells job host now wires after done → Untouched task (outside host wires tells)
    (outside now after tells) done
ran_untouched tells task job host now wires after done t r =
    subst (λ t. Untouched t (outside host wires tells) (outside now after tells) done) (sym t.task_is) (record {
      wires = λ none. absurd (served none);
      journal = λ none. absurd (served none);
      pool = λ none. absurd (served none);
      dump = λ none. absurd (served none);
      unread = λ none. absurd (served none);
      of_files = subst (λ names. AreOfFiles names host.holds (sources_of done.sources)) (sym all_names) r.of_files;
      refused = λ status. absurd (not_refused done.status r.report.statuses status);
      sources = λ status. absurd (not_refused done.status r.report.statuses (inl status));
      holds = λ status. absurd (not_refused done.status r.report.statuses (inl status));
      other_files = λ other differs. r.files.holds other
          ∙ r.opened.holds other (subst (AreOther other) all_names differs);
      unopened = λ status. absurd (not_refused done.status r.report.statuses (inl status));
      opens = r.files.opens ∙ r.opened.opens ∙ ap (λ n. counted_times n host.opens)
          (sym (opens_are done.status (length done.sources) r.report.statuses ∙ as_many));
    }) where
      as_many : length done.sources ≡ length job.names
      as_many = sources_are done.sources (length job.names) r.files_are

      all_names : take (length done.sources) job.names ≡ job.names
      all_names = take_all (length done.sources) job.names (omega (arith, as_many))

      served : done.ends ≡ [] → ⊥
      served none = no_ends done.ends (length job.names) (sessions_are tells job host now wires after done r)
          t.some_names
          none
