-- The causes of what a run answers that served its files.
use Rattle.std.proofs.Common.{◌≡◌, ◌≢◌, ◌⊎◌, ◌<◌, inl, inr, ℕ, Bool, true, List, Some, length, map}
use Rattle.std.proofs.Common.{slice_index_or, arith}
use Rattle.std.proofs.Common.{ap, sym, ◌∙◌, subst}
use Rattle.std.specs.List.{list_any, range_with_len}
use Rattle.std.proofs.lemmas.List.{length-map}
use Rattle.std.proofs.lemmas.List.Elements.{All-from_recursion}
use Rattle.flake_base.specs.Told.{HostTold, WireTold}
use Rattle.flake_base.specs.declared.session.End.{End}
use Rattle.flake_base.specs.declared.session.SessionEnd.{SessionEnd}
use Rattle.flake_model.specs.Wire.{FaultsAre}
use Rattle.flake_run.specs.Task.{Job, RunTask}
use Rattle.flake_run.specs.Outside.{outside}
use Rattle.flake_run.specs.Outcome.{RunOutcome, ways}
use Rattle.flake_run.specs.Causes.{Causes, EitherRose, IsRefusable, status_by}
use Rattle.flake_run.proofs.Highest.{any_failed, none_failed, some_failed, none_is_six}
use Rattle.flake_base.specs.Causes.{Rose}
use Rattle.flake_run.specs.Dumping.{dump_line_of, lines_failed, puts_failed}
use Rattle.flake_run.proofs.Ran.{Ran, IsTask, IsServedStatus, sessions_are, sources_are}
use Rattle.flake_run.proofs.RanDump.{lines_are, taken_by_line}
use Rattle.flake_run.proofs.RanUntouched.{no_ends}

any_status : (status : ℕ) → IsServedStatus status → (status ≡ 0) ⊎ (status ≡ 1) ⊎ (status ≡ 2) ⊎ (status ≡ 3)
    ⊎ (status ≡ 4) ⊎ (status ≡ 5) ⊎ (status ≡ 6)
any_status status (inl is) = inl is
any_status status (inr (inl is)) = inr (inr (inr (inl is)))
any_status status (inr (inr (inl is))) = inr (inr (inr (inr (inl is))))
any_status status (inr (inr (inr (inl is)))) = inr (inr (inr (inr (inr (inl is)))))
any_status status (inr (inr (inr (inr is)))) = inr (inr (inr (inr (inr (inr is)))))

no_refusal : (status : ℕ) → IsServedStatus status → (status ≢ 1) × (status ≢ 2)
no_refusal status (inl is) = (λ n. omega (arith, is, n), λ n. omega (arith, is, n))
no_refusal status (inr (inl is)) = (λ n. omega (arith, is, n), λ n. omega (arith, is, n))
no_refusal status (inr (inr (inl is))) = (λ n. omega (arith, is, n), λ n. omega (arith, is, n))
no_refusal status (inr (inr (inr (inl is)))) = (λ n. omega (arith, is, n), λ n. omega (arith, is, n))
no_refusal status (inr (inr (inr (inr is)))) = (λ n. omega (arith, is, n), λ n. omega (arith, is, n))

not_higher : (status : ℕ) → (status ≡ 0) ⊎ (status ≡ 3) ⊎ (status ≡ 4) → (status ≢ 5) × (status ≢ 6)
not_higher status (inl is) = (λ n. omega (arith, is, n), λ n. omega (arith, is, n))
not_higher status (inr (inl is)) = (λ n. omega (arith, is, n), λ n. omega (arith, is, n))
not_higher status (inr (inr is)) = (λ n. omega (arith, is, n), λ n. omega (arith, is, n))

-- one of these puts failed, or a say
pub some_put_or_said : (failed : List Bool) (olds news : List (ℕ × ℕ)) (P : Type 0) → FaultsAre failed olds news
    → (list_any (λ (b : Bool). b) failed ≡ true) ⊎ P
    → P ⊎ ((session : ℕ) × (session < length failed)
    × EitherRose (slice_index_or olds session (0, 0)) (slice_index_or news session (0, 0)))
some_put_or_said failed olds news P faults (inl is) = inr (some_failed failed olds news is faults)
some_put_or_said failed olds news P faults (inr said) = inl said

-- a put or a say failed
pub put_or_said : (ends : List SessionEnd) (olds news : List (ℕ × ℕ)) (P : Type 0)
    → FaultsAre (map (λ (end : SessionEnd). end.failed) ends) olds news
    → (list_any (λ (end : SessionEnd). end.failed) ends ≡ true) ⊎ P
    → P ⊎ ((session : ℕ) × (session < length ends)
    × EitherRose (slice_index_or olds session (0, 0)) (slice_index_or news session (0, 0)))
put_or_said ends olds news P faults (inl is) =
    let found = some_failed (map (λ (end : SessionEnd). end.failed) ends) olds news (sym (any_failed ends) ∙ is) faults
    in
    inr (found.0, omega (arith, found.1, length-map ends (λ (end : SessionEnd). end.failed)), found.2)
put_or_said ends olds news P faults (inr said) = inl said

pub ran_causes : {W : Type 0} (tells : W → WireTold) (task : RunTask) (job : Job) (host now : HostTold)
    (wires after : List W) (done : RunOutcome)
    → IsTask task job wires → Ran tells job host now wires after done → Causes task (outside host wires tells)
    (outside now after tells) done
ran_causes tells task job host now wires after done t r =
    subst (λ t. Causes t (outside host wires tells) (outside now after tells) done) (sym t.task_is) (record {
      statuses = any_status done.status r.report.statuses;
      served = λ status. (no_ends done.ends (length job.names) sessions t.some_names, sessions);
      sessions = inr sessions;
      by_end = λ some five six. (r.report.by_end five six).0;
      bad_words = λ one. absurd ((no_refusal done.status r.report.statuses).0 one);
      refused = λ other. bad;
      open_fault = λ two. absurd ((no_refusal done.status r.report.statuses).1 two);
      opened = λ two six name. r.files.open_faults name ∙ r.opened.open_faults name;
      reads = λ some. r.reads;
      write_fault = λ five.
          let why = r.report.failed five in (
            All-from_recursion (λ (way : End). status_by way ≢ 6) (ways done.ends) (none_is_six (ways done.ends) why.0),
            some_put_or_said (puts_failed done.ends done.dump) _ _ _ r.run.faults
                (subst (λ (fs : List Bool). (list_any (λ (failed : Bool). failed) fs ≡ true)
                ⊎ Rose host.say_faults now.say_faults) lines why.1),
          );
      dump = λ other some asked. taken_by_line job.sizes.dump done.dump (λ none. other (r.report.untaken none)) asked;
      written = λ status.
          let so = r.report.by_end (not_higher done.status status).0 (not_higher done.status status).1 in (
            so.2,
            none_failed (puts_failed done.ends done.dump) _ _
                (ap (list_any (λ (failed : Bool). failed)) (sym lines) ∙ so.1) r.run.faults,
          );
      detail = λ two. absurd ((no_refusal done.status r.report.statuses).1 two);
      no_detail = λ two. r.detail_is;
      sources = omega (arith, as_many);
      in_order = r.files_are ∙ ap (range_with_len 0) (sym as_many);
    }) where
      sessions : length done.ends ≡ length job.names
      sessions = sessions_are tells job host now wires after done r

      lines : lines_failed done.ends (dump_line_of job.sizes.dump done.dump) ≡ puts_failed done.ends done.dump
      lines = lines_are done.ends job.sizes.dump _ _ done.dump r.run.dumped

      as_many : length done.sources ≡ length job.names
      as_many = sources_are done.sources (length job.names) r.files_are

      bad : IsRefusable (Some job) (outside host wires tells) → done.status ≡ 1
      bad (inl none) = absurd (cc none)
      bad (inr few) = absurd (omega (arith, few, t.some_wires))
