-- What `serve` says where no file was opened.
use Rattle.std.proofs.Common.{◌≡◌, ◌⊎◌, ◌≤◌, inl, inr, ℕ, suc, ◌==◌, if◌then◌else◌, List, [], ◌∷◌, Option, Some, None}
use Rattle.std.proofs.Common.{length, take, arith, refl, ap, sym, ◌∙◌, subst}
use Rattle.std.specs.List.{range_with_len}
use Rattle.flake_base.specs.Roomy.{Roomy}
use Rattle.flake_base.specs.declared.journal.Entry.{Entry}
use Rattle.flake_base.specs.declared.session.SessionEnd.{SessionEnd}
use Rattle.check_files.specs.Named.{counted_times}
use Rattle.pin_core.specs.declared.class.Held.{Held}
use Rattle.pinned_pool.specs.Ends.{End as PoolEnd}
use Rattle.serve_inputs.specs.Dumped.{DumpTold, no_dump}
use Rattle.flake_run.specs.Does.{ServeDoes}
use Rattle.flake_run.specs.Opening.{AreOfFiles}
use Rattle.flake_run.specs.Task.{RunTask, names_of}
use Rattle.flake_run.specs.Outside.{Outside}
use Rattle.flake_run.specs.Outcome.{RunOutcome, SourceTold, done, done_with, files_of, sources_of}
use Rattle.flake_run.specs.Refusals.{RunRefused}
use Rattle.flake_run.specs.Untouched.{Untouched}
use Rattle.flake_run.specs.Causes.{IsRefusable}
use Rattle.flake_run.specs.Complete.{Complete}
use Rattle.flake_run.specs.Said.{PrintsStatus, status_text, text_served}
use Rattle.flake_run.specs.declared.outcome.Detail.{Detail}
use Rattle.flake_run.specs.declared.outcome.Opened.{Opened}
use Rattle.flake_run.specs.declared.outcome.Refusal.{Refusal}
use Rattle.flake_run.specs.declared.outcome.Refusal.TheVariants.{BadWords, Memory}
use Rattle.flake_run.proofs.Stopped.{not_served, not_written}
use Rattle.flake_run.proofs.Unread.{none_untouched, of_no_files}

no_names : (names : List (List ℕ)) (sources : List (Opened SourceTold)) → sources ≡ [] → take (length sources) names
    ≡ []
no_names [] [] none = refl
no_names (name ∷ names) [] none = refl
no_names names (source ∷ sources) none = absurd (cc none)

no_opens : (status : ℕ) (sources : List (Opened SourceTold)) (n : ℕ) → (status ≡ 1) ⊎ (status ≡ 6) → sources ≡ []
    → counted_times (if status == 2 then suc (length sources) else length sources) n ≡ n
no_opens status [] n (inl one) none = ap (λ s. counted_times (if s == 2 then 1 else 0) n) one
no_opens status [] n (inr six) none = ap (λ s. counted_times (if s == 2 then 1 else 0) n) six
no_opens status (source ∷ sources) n is none = absurd (cc none)

-- so it is with what the outcome says of a dump, which is nothing
pub refused_with : {W : Type 0} (refusal : Refusal) (before after : Outside W) (dump : DumpTold) (status : ℕ)
    (detail : Detail) (ends : List SessionEnd) (journal : List (Roomy Entry)) (held : Held) (pool : Option PoolEnd)
    (sources : List (Opened SourceTold)) → dump ≡ no_dump
    → RunRefused refusal before after (done status detail ends journal held pool sources)
    → RunRefused refusal before after (done_with dump status detail ends journal held pool sources)
refused_with refusal before after dump status detail ends journal held pool sources none r =
    subst (λ d. RunRefused refusal before after (done_with d status detail ends journal held pool sources)) (sym none) r

module _ {W : Type 0} (task : RunTask) (before after : Outside W) (done : RunOutcome) where
  untouched : (refusal : Refusal) → RunRefused refusal before after done → (done.status ≡ 1) ⊎ (done.status ≡ 6)
      → Untouched task before after done
  untouched refusal r status = record {
    wires = λ none. r.wires;
    journal = λ none. r.journal;
    pool = λ none. (r.pool, r.held);
    dump = λ none. r.dump;
    unread = λ none. none_untouched (sources_of done.sources) (ap sources_of r.sources);
    of_files = subst (λ names. AreOfFiles names before.host.holds (sources_of done.sources))
        (sym (no_names (names_of task) done.sources r.sources))
        (of_no_files before.host.holds (sources_of done.sources) (ap sources_of r.sources));
    refused = λ status. r.ends;
    sources = λ one. r.sources;
    holds = λ one name. r.files.holds name;
    other_files = λ name differs. r.files.holds name;
    unopened = λ one. r.files.opens;
    opens = r.files.opens ∙ sym (no_opens done.status done.sources before.host.opens status r.sources);
  }

  in_order : done.sources ≡ [] → files_of done.sources ≡ range_with_len 0 (length done.sources)
  in_order none = ap files_of none ∙ sym (ap (λ ss. range_with_len 0 (length ss)) none)

  few : done.sources ≡ [] → length done.sources ≤ length (names_of task)
  few none = omega (arith, ap length none)

  -- words that are refused, or too few wires
  pub serve_refused : IsRefusable task before → RunRefused BadWords before after done → ServeDoes task before after done
  serve_refused bad r = record {
    served = λ some. absurd (some r.ends);
    untouched = untouched BadWords r (inl r.status);
    causes = record {
      statuses = inr (inl r.status);
      served = λ status. absurd (not_any done.status r.status status);
      sessions = inl r.ends;
      by_end = λ some. absurd (some r.ends);
      bad_words = λ one. bad;
      refused = λ other bad. r.status;
      open_fault = λ two. absurd (omega (arith, two, r.status));
      opened = λ two six name. r.files.open_faults name;
      reads = λ some. absurd (some r.ends);
      write_fault = λ five. absurd (omega (arith, five, r.status));
      dump = λ six some. absurd (some r.ends);
      written = λ status. absurd (not_quiet done.status r.status status);
      detail = λ two. absurd (omega (arith, two, r.status));
      no_detail = λ other. r.detail;
      sources = few r.sources;
      in_order = in_order r.sources;
    };
    complete = by task bad;
    said = record {
      text = λ other. subst (λ text. PrintsStatus text before.host after.host)
          (sym (ap (λ s. status_text s done.detail (text_served task done)) r.status)) r.said;
      no_memory = λ six. absurd (omega (arith, six, r.status));
      served = λ some. absurd (some r.ends);
    };
  } where
    not_any : (status : ℕ) → status ≡ 1 → (status ≡ 0) ⊎ (status ≡ 3) ⊎ (status ≡ 4) ⊎ (status ≡ 5) → ⊥
    not_any status one (inl is) = omega (arith, one, is)
    not_any status one (inr (inl is)) = omega (arith, one, is)
    not_any status one (inr (inr (inl is))) = omega (arith, one, is)
    not_any status one (inr (inr (inr is))) = omega (arith, one, is)

    not_quiet : (status : ℕ) → status ≡ 1 → (status ≡ 0) ⊎ (status ≡ 3) ⊎ (status ≡ 4) → ⊥
    not_quiet status one (inl is) = omega (arith, one, is)
    not_quiet status one (inr (inl is)) = omega (arith, one, is)
    not_quiet status one (inr (inr is)) = omega (arith, one, is)

    by : (task : RunTask) → IsRefusable task before → Complete task before after done
    by None bad = record { whole = tt; told = tt }
    by (Some job) (inl none) = absurd (cc none)
    by (Some job) (inr few) = record {
      whole = λ enough nothing whole. absurd (omega (arith, few, enough));
      told = λ enough nothing distinct told. absurd (omega (arith, few, enough));
    }

  -- memory that is wanting before any file is opened
  pub serve_wanting : RunRefused Memory before after done → ServeDoes task before after done
  serve_wanting r = record {
    served = λ some. absurd (some r.ends);
    untouched = untouched Memory r (inr r.status);
    causes = record {
      statuses = inr (inr (inr (inr (inr (inr r.status)))));
      served = λ status. not_served done.status (inr r.status) status;
      sessions = inl r.ends;
      by_end = λ some. absurd (some r.ends);
      bad_words = λ one. absurd (omega (arith, one, r.status));
      refused = λ other bad. absurd (other r.status);
      open_fault = λ two. absurd (omega (arith, two, r.status));
      opened = λ two six. absurd (six r.status);
      reads = λ some. absurd (some r.ends);
      write_fault = λ five. absurd (omega (arith, five, r.status));
      dump = λ six some. absurd (some r.ends);
      written = λ status. not_written done.status (inr r.status) status;
      detail = λ two. absurd (omega (arith, two, r.status));
      no_detail = λ other. r.detail;
      sources = few r.sources;
      in_order = in_order r.sources;
    };
    complete = by task;
    said = record {
      text = λ other. absurd (other r.status);
      no_memory = λ six none. r.said;
      served = λ some. absurd (some r.ends);
    };
  } where
    by : (task : RunTask) → Complete task before after done
    by None = record { whole = tt; told = tt }
    by (Some job) = record {
      whole = λ enough nothing whole. absurd (nothing.memory r.status);
      told = λ enough nothing distinct told. absurd (nothing.memory r.status);
    }
