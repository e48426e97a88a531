-- What a run says of which a file did not open.
use Rattle.std.proofs.Common.{◌≡◌, inl, inr, ℕ, suc, ◌==◌, if◌then◌else◌, List, [], Some, IsSomeAnd, length}
use Rattle.std.proofs.Common.{take, slice_get, arith, ap, sym, ◌∙◌, subst}
use Rattle.std.specs.List.{range_with_len}
use Rattle.std.proofs.lemmas.List.{length-map, length-take}
use Rattle.std.proofs.lemmas.List.Elements.{recursion_from_All}
use Rattle.flake_base.specs.Calls.{counted}
use Rattle.flake_base.specs.Causes.{Rose}
use Rattle.flake_base.specs.Told.{HostTold, WireTold}
use Rattle.check_files.specs.Named.{AreOther, counted_times}
use Rattle.flake_run.specs.Does.{ServeDoes}
use Rattle.flake_run.specs.Opening.{AreOfFiles, FailsToOpen}
use Rattle.flake_run.specs.Task.{Job, RunTask, wires_of}
use Rattle.flake_run.specs.Outside.{outside}
use Rattle.flake_run.specs.Outcome.{RunOutcome, SourceTold, files_of, sources_of}
use Rattle.flake_run.specs.Refusals.{RunRefused}
use Rattle.flake_run.specs.Untouched.{Untouched}
use Rattle.flake_run.specs.Causes.{Causes, OpenFailed}
use Rattle.flake_run.specs.Complete.{Complete, NothingFailed}
use Rattle.flake_run.specs.Said.{Said, PrintsStatus, status_text, text_served}
use Rattle.flake_run.specs.declared.outcome.Detail.TheVariants.{File}
use Rattle.flake_run.specs.declared.outcome.Refusal.TheVariants.{OpenFault}
use Rattle.flake_run.specs.declared.outcome.Opened.{Opened}
use Rattle.flake_run.proofs.Ran.{IsTask, says_since, as_many_sources}
use Rattle.flake_run.proofs.Stopped.{not_served, not_written, not_refusable, at_place}

-- the files in front were opened, the open of the next one failed, and that was said
pub record Unopened {W : Type 0} (tells : W → WireTold) (job : Job) (host mid now : HostTold) (wires after : List W)
    (before : RunOutcome) (sources : List (Opened SourceTold)) : Type 0 where
  pub fails : FailsToOpen job.names host mid (sources_of sources)
  pub refused : RunRefused (OpenFault (length sources)) (outside mid wires tells) (outside now after tells) before
  pub files_are : files_of sources ≡ range_with_len 0 (length sources)

module _ {W : Type 0} (tells : W → WireTold) (task : RunTask) (job : Job) (host mid now : HostTold)
    (wires after : List W) (before : RunOutcome) (sources : List (Opened SourceTold))
    (t : IsTask task job wires) (u : Unopened tells job host mid now wires after before sources) where
  two : before.status ≡ 2
  two = u.refused.status

  as_many : length (sources_of sources) ≡ length sources
  as_many = length-map sources (λ (one : Opened SourceTold). one.source)

  name_is : slice_get job.names (length sources) ≡ Some u.fails.name
  name_is = ap (slice_get job.names) (sym as_many) ∙ u.fails.name_is

  rose_since : Rose (host.open_faults u.fails.name) (now.open_faults u.fails.name)
  rose_since =
      subst (λ n. Rose n (now.open_faults u.fails.name)) (u.fails.opened.host.open_faults u.fails.name)
      (subst (Rose (u.fails.between.open_faults u.fails.name)) (sym (u.refused.files.open_faults u.fails.name))
      u.fails.unopened.rose)

  open_failed : OpenFailed job.names before.detail host now
  open_failed = subst (λ d. OpenFailed job.names d host now) (sym u.refused.detail)
      (subst (λ o. IsSomeAnd o (λ name. Rose (host.open_faults name) (now.open_faults name))) (sym name_is) rose_since)

  holds_since : (other : List ℕ) → AreOther other (take (length sources) job.names) → now.holds other ≡ host.holds other
  holds_since other all =
      u.refused.files.holds other ∙ u.fails.unopened.holds other
      ∙ u.fails.opened.host.holds other (subst (λ n. AreOther other (take n job.names)) (sym as_many) all)

  opens_since : now.opens ≡ counted_times (suc (length sources)) host.opens
  opens_since = u.refused.files.opens ∙ u.fails.unopened.opens
      ∙ ap counted (u.fails.opened.host.opens ∙ ap (λ n. counted_times n host.opens)
      (sym (as_many_sources _ _ _ u.fails.opened.of_files) ∙ as_many))

  unopened_untouched : Untouched (Some job) (outside host wires tells) (outside now after tells)
      (record before { sources = sources })
  unopened_untouched = record {
    wires = λ none. u.refused.wires;
    journal = λ none. u.refused.journal;
    pool = λ none. (u.refused.pool, u.refused.held);
    dump = λ none. u.refused.dump;
    unread = λ none. u.fails.opened.unread;
    of_files = subst (λ n. AreOfFiles (take n job.names) host.holds (sources_of sources)) as_many
        u.fails.opened.of_files;
    refused = λ status. u.refused.ends;
    sources = λ one. absurd (omega (arith, one, two));
    holds = λ one. absurd (omega (arith, one, two));
    other_files = holds_since;
    unopened = λ one. absurd (omega (arith, one, two));
    opens = opens_since ∙ ap (λ s. counted_times (if s == 2 then suc (length sources) else length sources) host.opens)
        (sym two);
  }

  unopened_causes : Causes (Some job) (outside host wires tells) (outside now after tells)
      (record before { sources = sources })
  unopened_causes = record {
    statuses = inr (inr (inl two));
    served = λ status. not_served before.status (inl two) status;
    sessions = inl u.refused.ends;
    by_end = λ some. absurd (some u.refused.ends);
    bad_words = λ one. absurd (omega (arith, one, two));
    refused = λ other bad. not_refusable tells task job host wires t bad;
    open_fault = λ is. open_failed;
    opened = λ other. absurd (other two);
    reads = λ some. absurd (some u.refused.ends);
    write_fault = λ five. absurd (omega (arith, five, two));
    dump = λ six some. absurd (some u.refused.ends);
    written = λ status. not_written before.status (inl two) status;
    detail = λ is. u.refused.detail;
    no_detail = λ other. absurd (other two);
    sources = omega (
      arith,
      as_many,
      as_many_sources _ _ _ u.fails.opened.of_files,
      length-take (length (sources_of sources)) job.names,
    );
    in_order = u.files_are;
  }

  unopened_complete : Complete (Some job) (outside host wires tells) (outside now after tells)
      (record before { sources = sources })
  unopened_complete = record {
    whole = λ enough nothing whole. absurd (none nothing);
    told = λ enough nothing distinct told. absurd (none nothing);
  } where
    none : NothingFailed job.names (wires_of job) (outside host wires tells) (outside now after tells)
        (record before { sources = sources }) → ⊥
    none nothing =
        at_place (λ (name : List ℕ). Rose (host.open_faults name) (now.open_faults name) → ⊥) job.names
        (length sources) u.fails.name
        (recursion_from_All (λ (name : List ℕ). Rose (host.open_faults name) (now.open_faults name) → ⊥) job.names
        nothing.opens) name_is rose_since

  text_is : status_text before.status before.detail (text_served (Some job) before)
      ≡ status_text 2 (File (length sources)) []
  text_is = ap (λ s. status_text s before.detail (text_served (Some job) before)) two
      ∙ ap (λ d. status_text 2 d (text_served (Some job) before)) u.refused.detail

  unopened_said : Said (Some job) (outside host wires tells) (outside now after tells)
      (record before { sources = sources })
  unopened_said = record {
    text = λ other. subst (λ text. PrintsStatus text host now) (sym text_is)
        (says_since _ host mid now (u.fails.unopened.said ∙ u.fails.opened.host.said)
        (u.fails.unopened.say_faults ∙ u.fails.opened.host.say_faults) u.refused.said);
    no_memory = λ six. absurd (omega (arith, six, two));
    served = λ some. absurd (some u.refused.ends);
  }

  pub unopened_all : ServeDoes task (outside host wires tells) (outside now after tells)
      (record before { sources = sources })
  unopened_all = subst (λ t. ServeDoes t (outside host wires tells) (outside now after tells)
      (record before { sources = sources })) (sym t.task_is)
      (record {
        served = λ some. absurd (some u.refused.ends);
        untouched = unopened_untouched;
        causes = unopened_causes;
        complete = unopened_complete;
        said = unopened_said;
      })
