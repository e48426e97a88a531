-- What a run says that opened its files, and for which memory was wanting before the first read.
use Rattle.std.proofs.Common.{◌≡◌, inl, inr, suc, ◌==◌, if◌then◌else◌, List, Some, length, take, arith}
use Rattle.std.proofs.Common.{ap, sym, ◌∙◌, subst}
use Rattle.std.specs.List.{range_with_len}
use Rattle.std.proofs.lemmas.List.{take_all}
use Rattle.flake_base.specs.Told.{HostTold, WireTold}
use Rattle.check_files.specs.Named.{AreOther, counted_times}
use Rattle.flake_run.specs.Does.{ServeDoes}
use Rattle.flake_run.specs.Opening.{AreOfFiles, AreOpened}
use Rattle.flake_run.specs.Task.{Job, RunTask}
use Rattle.flake_run.specs.Outside.{outside}
use Rattle.flake_run.specs.Outcome.{RunOutcome, SourceTold, files_of, sources_of}
use Rattle.flake_run.specs.Refusals.{RunRefused}
use Rattle.flake_run.specs.Untouched.{Untouched}
use Rattle.flake_run.specs.Causes.{Causes}
use Rattle.flake_run.specs.declared.outcome.Refusal.TheVariants.{Memory}
use Rattle.flake_run.specs.declared.outcome.Opened.{Opened}
use Rattle.flake_run.proofs.Ran.{IsTask, says_since, sources_are}
use Rattle.flake_run.proofs.Stopped.{not_served, not_written, not_refusable}

-- the files were opened, and want of memory was said
pub record Unserved {W : Type 0} (tells : W → WireTold) (job : Job) (host mid now : HostTold) (wires after : List W)
    (before : RunOutcome) (sources : List (Opened SourceTold)) : Type 0 where
  pub opened : AreOpened job.names host mid (sources_of sources)
  pub refused : RunRefused Memory (outside mid wires tells) (outside now after tells) before
  pub files_are : files_of sources ≡ range_with_len 0 (length job.names)

module _ {W : Type 0} (tells : W → WireTold) (task : RunTask) (job : Job) (host mid now : HostTold)
    (wires after : List W) (before : RunOutcome) (sources : List (Opened SourceTold))
    (t : IsTask task job wires) (u : Unserved tells job host mid now wires after before sources) where
  six : before.status ≡ 6
  six = u.refused.status

  as_many : length sources ≡ length job.names
  as_many = sources_are sources (length job.names) u.files_are

  all_names : take (length sources) job.names ≡ job.names
  all_names = take_all (length sources) job.names (omega (arith, as_many))

  unserved_untouched : Untouched (Some job) (outside host wires tells) (outside now after tells)
      (record before { sources = sources })
  unserved_untouched = record {
    wires = λ none. u.refused.wires;
    journal = λ none. u.refused.journal;
    pool = λ none. (u.refused.pool, u.refused.held);
    dump = λ none. u.refused.dump;
    unread = λ none. u.opened.unread;
    of_files = subst (λ names. AreOfFiles names host.holds (sources_of sources)) (sym all_names) u.opened.of_files;
    refused = λ status. u.refused.ends;
    sources = λ one. absurd (omega (arith, one, six));
    holds = λ one. absurd (omega (arith, one, six));
    other_files = λ other differs. u.refused.files.holds other
        ∙ u.opened.host.holds other (subst (AreOther other) all_names differs);
    unopened = λ one. absurd (omega (arith, one, six));
    opens = u.refused.files.opens ∙ u.opened.host.opens ∙ ap (λ n. counted_times n host.opens) (sym as_many)
        ∙ ap (λ s. counted_times (if s == 2 then suc (length sources) else length sources) host.opens) (sym six);
  }

  unserved_causes : Causes (Some job) (outside host wires tells) (outside now after tells)
      (record before { sources = sources })
  unserved_causes = record {
    statuses = inr (inr (inr (inr (inr (inr six)))));
    served = λ status. not_served before.status (inr six) status;
    sessions = inl u.refused.ends;
    by_end = λ some. absurd (some u.refused.ends);
    bad_words = λ one. absurd (omega (arith, one, six));
    refused = λ other bad. not_refusable tells task job host wires t bad;
    open_fault = λ two. absurd (omega (arith, two, six));
    opened = λ two other. absurd (other six);
    reads = λ some. absurd (some u.refused.ends);
    write_fault = λ five. absurd (omega (arith, five, six));
    dump = λ other some. absurd (some u.refused.ends);
    written = λ status. not_written before.status (inr six) status;
    detail = λ two. absurd (omega (arith, two, six));
    no_detail = λ other. u.refused.detail;
    sources = omega (arith, as_many);
    in_order = u.files_are ∙ ap (range_with_len 0) (sym as_many);
  }

  pub unserved_all : ServeDoes task (outside host wires tells) (outside now after tells)
      (record before { sources = sources })
  unserved_all = subst (λ t. ServeDoes t (outside host wires tells) (outside now after tells)
      (record before { sources = sources })) (sym t.task_is)
      (record {
        served = λ some. absurd (some u.refused.ends);
        untouched = unserved_untouched;
        causes = unserved_causes;
        complete = record {
          whole = λ enough nothing whole. absurd (nothing.memory six);
          told = λ enough nothing distinct told. absurd (nothing.memory six);
        };
        said = record {
          text = λ other. absurd (other six);
          no_memory = λ is none. says_since _ host mid now u.opened.host.said u.opened.host.say_faults
              u.refused.said;
          served = λ some. absurd (some u.refused.ends);
        };
      })
