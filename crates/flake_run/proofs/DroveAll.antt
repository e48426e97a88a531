-- What a run of `drive` says, by what came of the files that it opened.
use Rattle.std.proofs.Common.{◌≡◌, ◌≢◌, ◌⊎◌, ◌≤◌, inl, inr, ℕ, List, [], ◌∷◌, Option, Some, None, length, arith, refl}
use Rattle.std.proofs.Common.{sym, ap, ◌∙◌, subst, ⊎_elim}
use Rattle.std.specs.List.{range_with_len}
use Rattle.flake_base.specs.Told.{HostTold, WireTold}
use Rattle.flake_base.specs.declared.session.SessionEnd.{SessionEnd}
use Rattle.flake_model.specs.Run.{all_commands}
use Rattle.flake_model.specs.Wire.{FaultIs}
use Rattle.run_resources.specs.Opened.{pool_sizes}
use Rattle.transcript_model.specs.Transcript.{IsSaid}
use Rattle.drive_told.specs.Together.{driven_run}
use Rattle.flake_run.specs.Checked.{ConcludesBy, IsConcluded, IsStatus}
use Rattle.flake_run.specs.Driven.{CameOf, WasDriven}
use Rattle.flake_run.specs.DriveTask.{DriveJob, IsUndrivable, served_names}
use Rattle.flake_run.specs.Drove.{Drove, DroveFiles, IsAccepted, NoneDriven, NothingServed, OneFails, WasRefused}
use Rattle.flake_run.specs.Finding.{finding_detail}
use Rattle.flake_run.specs.Opening.{AllOpened, AreOpened, FailsToOpen}
use Rattle.flake_run.specs.Outcome.{RunOutcome, SourceTold, files_of, sources_of, source_names, wholes_of}
use Rattle.flake_run.specs.Outside.{Outside, LeavesFiles, outside, wires_told}
use Rattle.flake_run.specs.Refusals.{RunRefused}
use Rattle.flake_run.specs.declared.finding.Finding.{Finding}
use Rattle.flake_run.specs.declared.finding.Finding.TheVariants.{BadWords, OpenFault, ReadFault, TooLarge, BadLine}
use Rattle.flake_run.specs.declared.finding.Finding.TheVariants.{Judged, BadFrame, Missing, Memory}
use Rattle.flake_run.specs.declared.outcome.Detail.{Detail}
use Rattle.flake_run.specs.declared.outcome.Detail.TheVariants.{Nothing, File}
use Rattle.flake_run.specs.declared.outcome.Refusal.TheVariants as refusal
use Rattle.flake_run.proofs.CheckedAll.{status_since}
use Rattle.flake_run.specs.declared.outcome.Opened.{Opened}
use Rattle.flake_run.proofs.DroveComplete.{drove_told, drove_whole}
use Rattle.flake_run.proofs.Ran.{says_since}
use Rattle.flake_run.proofs.Unread.{of_same_files}

-- the statuses that come only where something was served
abbrev IsSome : ℕ → Detail → Type 0
IsSome status detail = (status ≡ 0) ⊎ (status ≡ 3) ⊎ (status ≡ 5) ⊎ ((status ≡ 4) × (detail ≡ Nothing))

-- nothing that is found where nothing is served has one of them
not_served : {W : Type 0} (finding : Finding) (task : Option DriveJob) (before : Outside W) (old new : HostTold)
    (sources : List (Opened SourceTold)) (status : ℕ) (detail : Detail) → IsStatus finding old new status
    → detail ≡ finding_detail finding
    → WasRefused finding task before new sources → IsSome status detail → ⊥
not_served finding task before old new sources status detail is detail_is refused some =
    by finding is detail_is refused some where
      number : (n : ℕ) → status ≡ n → n ≢ 0 → n ≢ 3 → n ≢ 5 → (n ≡ 4 → detail ≡ Nothing → ⊥) → IsSome status detail → ⊥
      number n is first three five four (inl some) = first (sym is ∙ some)
      number n is first three five four (inr (inl some)) = three (sym is ∙ some)
      number n is first three five four (inr (inr (inl some))) = five (sym is ∙ some)
      number n is first three five four (inr (inr (inr some))) = four (sym is ∙ some.0) some.1

      named : (file : ℕ) → detail ≡ File file → detail ≡ Nothing → ⊥
      named file is none = let same : File file ≡ Nothing = sym is ∙ none in cc same

      by : (finding : Finding) → IsStatus finding old new status → detail ≡ finding_detail finding
          → WasRefused finding task before new sources → IsSome status detail → ⊥
      by BadWords is detail_is refused some = number 1 is (omega arith) (omega arith) (omega arith)
          (λ four none. omega (arith, four)) some
      by (OpenFault file) is detail_is refused some = number 2 is (omega arith) (omega arith) (omega arith)
          (λ four none. omega (arith, four)) some
      by (ReadFault file) is detail_is refused some = number 4 is (omega arith) (omega arith) (omega arith)
          (λ four none. named file detail_is none) some
      by (TooLarge file) is detail_is refused some = number 9 is (omega arith) (omega arith) (omega arith)
          (λ four none. omega (arith, four)) some
      by (BadLine line) is detail_is refused some = number 7 is (omega arith) (omega arith) (omega arith)
          (λ four none. omega (arith, four)) some
      by (Judged verdict) is detail_is refused some = absurd refused
      by (BadFrame number) is detail_is refused some = absurd refused
      by (Missing call frame) is detail_is refused some = absurd refused
      by Memory is detail_is refused some = number 6 is (omega arith) (omega arith) (omega arith)
          (λ four none. omega (arith, four)) some

-- a task for which there are wires can be driven
undrivable : {W : Type 0} (P : DriveJob → Type 0) (task : Option DriveJob) (before : Outside W)
    → IsAccepted task before P → IsUndrivable task before → ⊥
undrivable P None before accepted few = accepted
undrivable P (Some job) before accepted few = omega (arith, accepted.0, few)

bad_words_are : {W : Type 0} (finding : Finding) (task : Option DriveJob) (before : Outside W) (old new : HostTold)
    (sources : List (Opened SourceTold)) (status : ℕ) → IsStatus finding old new status
    → WasRefused finding task before new sources
    → status ≢ 6 → IsUndrivable task before → status ≡ 1
bad_words_are BadWords task before old new sources status is refused six few = is
bad_words_are (OpenFault file) task before old new sources status is refused six few =
    absurd (undrivable _ task before refused few)
bad_words_are (ReadFault file) task before old new sources status is refused six few =
    absurd (undrivable _ task before refused few)
bad_words_are (TooLarge file) task before old new sources status is refused six few =
    absurd (undrivable _ task before refused few)
bad_words_are (BadLine line) task before old new sources status is refused six few =
    absurd (undrivable _ task before refused few)
bad_words_are (Judged verdict) task before old new sources status is refused six few = absurd refused
bad_words_are (BadFrame number) task before old new sources status is refused six few = absurd refused
bad_words_are (Missing call frame) task before old new sources status is refused six few = absurd refused
bad_words_are Memory task before old new sources status is refused six few = absurd (six is)

no_item : {A : Type 0} (x : A) (xs : List A) → x ∷ xs ≢ []
no_item x xs is = absurd (cc is)

-- all that is said of a run follows from what was served, or from why nothing was
pub drove_by : {W : Type 0} (task : Option DriveJob) (before after : Outside W) (done : RunOutcome)
    → (done.ends ≢ [] → IsAccepted task before (λ job. DroveFiles job before after done))
    → (done.ends ≡ [] → NothingServed task before after done)
    → Drove task before after done
drove_by task before after done served refused = record {
  served = served;
  refused = refused;
  some = λ status none.
      let why = refused none in
      not_served why.finding task before before.host after.host done.sources done.status done.detail
      why.concluded.status why.concluded.detail why.refused status;
  bad_words = λ six few. by_ends done.ends refl six few;
  whole = drove_whole task before after done served refused;
  told = drove_told task before after done served refused;
} where
  by_ends : (ends : List SessionEnd) → done.ends ≡ ends → done.status ≢ 6 → IsUndrivable task before → done.status ≡ 1
  by_ends [] is six few =
      let why = refused is in
      bad_words_are why.finding task before before.host after.host done.sources done.status why.concluded.status
      why.refused six few
  by_ends (end ∷ ends) is six few =
      absurd (undrivable _ task before (served (λ none. no_item end ends (sym is ∙ none))) few)

-- words that are refused, or too few wires
pub drove_refused : {W : Type 0} (task : Option DriveJob) (before after : Outside W) (done : RunOutcome)
    → IsUndrivable task before → RunRefused refusal.BadWords before after done → Drove task before after done
drove_refused task before after done few r = drove_by task before after done (λ some. absurd (some r.ends))
    (λ none. record {
      finding = BadWords;
      concluded = record {
        status = r.status;
        detail = r.detail;
        said = r.said;
        ends = r.ends;
        journal = r.journal;
        held = r.held;
        pool = r.pool;
        wires = r.wires;
      };
      refused = (few, record { sources_are = r.sources; files = r.files });
    })

-- memory that is wanting before any file is opened
pub drove_wanting : {W : Type 0} (task : Option DriveJob) (before after : Outside W) (done : RunOutcome)
    → RunRefused refusal.Memory before after done → Drove task before after done
drove_wanting task before after done r = drove_by task before after done (λ some. absurd (some r.ends))
    (λ none. record {
      finding = Memory;
      concluded = record {
        status = r.status;
        detail = r.detail;
        said = r.said;
        ends = r.ends;
        journal = r.journal;
        held = r.held;
        pool = r.pool;
        wires = r.wires;
      };
      refused = inl (record { sources_are = r.sources; files = r.files });
    })

-- the words were accepted
pub record IsDriveOf {W : Type 0} (task : Option DriveJob) (job : DriveJob) (wires : List W) : Type 0 where
  pub task_is : task ≡ Some job
  pub enough : length (served_names job) ≤ length wires

module _ {W : Type 0} (tells : W → WireTold) (task : Option DriveJob) (job : DriveJob) (host mid now : HostTold)
    (wires after : List W) (t : IsDriveOf task job wires) where
  accepted : (P : DriveJob → Type 0) → P job → IsAccepted task (outside host wires tells) P
  accepted P holds = subst (λ t. IsAccepted t (outside host wires tells) P) (sym t.task_is) (t.enough, holds)

  -- said behind opens that said nothing
  concluded_since : (finding : Finding) (done : RunOutcome) → mid.said ≡ host.said → mid.say_faults ≡ host.say_faults
      → IsConcluded finding (outside mid wires tells) (outside now after tells) done
      → IsConcluded finding (outside host wires tells) (outside now after tells) done
  concluded_since finding done said same is = record {
    status = status_since finding host mid now done.status same is.status;
    detail = is.detail;
    said = says_since _ host mid now said same is.said;
    ends = is.ends;
    journal = is.journal;
    held = is.held;
    pool = is.pool;
    wires = is.wires;
  }

  driven_since : (done : RunOutcome) → mid.said ≡ host.said → mid.say_faults ≡ host.say_faults
      → WasDriven job.sizes (outside mid wires tells) (outside now after tells) done
      → WasDriven job.sizes (outside host wires tells) (outside now after tells) done
  driven_since done said same w = record {
    first = w.first;
    rest = w.rest;
    sources_are = w.sources_are;
    schedule = w.schedule;
    lines = w.lines;
    run = w.run;
    wires = w.wires;
    pool = w.pool;
    pool_is = w.pool_is;
    shows = w.shows;
    held = w.held;
    none_missing = w.none_missing;
    flushed = w.flushed;
    faults = w.faults;
    others = w.others;
    sessions = w.sessions;
    shards = w.shards;
    calm = w.calm;
    reads = w.reads;
    failed = w.failed;
    says = subst (λ n. FaultIs w.failed n now.say_faults) same w.says;
    said = subst (λ s. IsSaid
        (driven_run (pool_sizes (length w.rest) job.sizes) job.sizes.ring job.sizes.threshold
        (all_commands w.run.sessions) done.ends done.journal w.pool)
        (wires_told (outside host wires tells)) (wires_told (outside now after tells)) w.schedule w.failed s now.said)
        said w.said;
    status = w.status;
    detail = w.detail;
  }

  none_driven : (done : RunOutcome) (finding : Finding) → NoneDriven finding job.names host now done.sources
      → WasRefused finding task (outside host wires tells) now done.sources
  none_driven done BadWords was = absurd was.undriven
  none_driven done (OpenFault file) was = absurd was.undriven
  none_driven done (ReadFault file) was =
      accepted (λ job. NoneDriven (ReadFault file) job.names host now done.sources) was
  none_driven done (TooLarge file) was =
      accepted (λ job. NoneDriven (TooLarge file) job.names host now done.sources) was
  none_driven done (BadLine line) was = accepted (λ job. NoneDriven (BadLine line) job.names host now done.sources) was
  none_driven done (Judged verdict) was = absurd was.undriven
  none_driven done (BadFrame number) was = absurd was.undriven
  none_driven done (Missing call frame) was = absurd was.undriven
  none_driven done Memory was =
      inr (inr (accepted (λ job. NoneDriven Memory job.names host now done.sources) was))

  -- all files were opened
  pub drove_opened : (sources : List SourceTold) (done : RunOutcome) → AreOpened job.names host mid sources
      → CameOf job.sizes (source_names sources) (wholes_of sources) (outside mid wires tells) (outside now after tells)
      done
      → Drove task (outside host wires tells) (outside now after tells) done
  drove_opened sources done opened came = drove_by task (outside host wires tells) (outside now after tells)
      done
      (λ some. accepted (λ job. DroveFiles job (outside host wires tells) (outside now after tells) done) (record {
        opened = all;
        driven = driven_since done opened.host.said opened.host.say_faults (came.driven some);
      }))
      (λ none.
      let why = came.refused none in
      record {
        finding = why.finding;
        concluded = concluded_since why.finding done opened.host.said opened.host.say_faults why.concluded;
        refused = none_driven done why.finding (record {
          opened = all;
          first = why.first;
          rest = why.rest;
          sources_are = why.sources_are;
          unread = why.unread;
          undriven = why.undriven;
        });
      })
    where
      all : AllOpened (range_with_len 0 (length job.names)) job.names host now done.sources
      all = record {
        between = mid;
        host = opened.host;
        leaves = came.leaves;
        of_files = of_same_files job.names host.holds sources (sources_of done.sources) opened.of_files came.names_are
            came.wholes_are came.fronts;
        files = came.files ∙ ap (λ ns. range_with_len 0 (length ns)) opened.of_files.names_are;
      }

  -- one did not open
  pub drove_unopened : (finding : Finding) (done : RunOutcome)
      → FailsToOpen job.names host mid (sources_of done.sources)
      → (finding ≡ OpenFault (length done.sources)) ⊎ (finding ≡ Memory)
      → LeavesFiles mid now → files_of done.sources ≡ range_with_len 0 (length done.sources)
      → IsConcluded finding (outside mid wires tells) (outside now after tells) done
      → Drove task (outside host wires tells) (outside now after tells) done
  drove_unopened finding done fails is leaves files concluded = drove_by task (outside host wires tells)
      (outside now after tells) done
      (λ some. absurd (some concluded.ends))
      (λ none. record {
        finding = finding;
        concluded = concluded_since finding done (fails.unopened.said ∙ fails.opened.host.said)
            (fails.unopened.say_faults ∙ fails.opened.host.say_faults) concluded;
        refused = refused is;
      })
    where
      one : OneFails (length done.sources) job.names host now done.sources
      one = record { between = mid; fails = fails; number = refl; leaves = leaves; files = files }

      refused : (finding ≡ OpenFault (length done.sources)) ⊎ (finding ≡ Memory)
          → WasRefused finding task (outside host wires tells) now done.sources
      refused (inl is) = subst (λ f. WasRefused f task (outside host wires tells) now done.sources) (sym is)
          (accepted (λ job. OneFails (length done.sources) job.names host now done.sources) one)
      refused (inr is) = subst (λ f. WasRefused f task (outside host wires tells) now done.sources) (sym is)
          (inr (inl (
            length done.sources,
            accepted (λ job. OneFails (length done.sources) job.names host now done.sources) one,
          )))

  with_sources : (finding : Finding) (before : RunOutcome) (sources : List (Opened SourceTold))
      → IsConcluded finding (outside mid wires tells) (outside now after tells) before
      → IsConcluded finding (outside mid wires tells) (outside now after tells) (record before { sources = sources })
  with_sources finding before sources is = record {
    status = is.status;
    detail = is.detail;
    said = is.said;
    ends = is.ends;
    journal = is.journal;
    held = is.held;
    pool = is.pool;
    wires = is.wires;
  }

  pub drove_unopened_by : (n : ℕ) (before : RunOutcome) (sources : List (Opened SourceTold))
      → FailsToOpen job.names host mid (sources_of sources) → n ≡ length sources → LeavesFiles mid now
      → files_of sources ≡ range_with_len 0 (length sources)
      → ConcludesBy (OpenFault n) (outside mid wires tells) (outside now after tells) before
      → Drove task (outside host wires tells) (outside now after tells) (record before { sources = sources })
  drove_unopened_by n before sources fails number leaves files concludes =
      ⊎_elim
      (λ is. drove_unopened (OpenFault n) (record before { sources = sources }) fails (inl (ap OpenFault number)) leaves
      files (with_sources (OpenFault n) before sources is))
      (λ is. drove_unopened Memory (record before { sources = sources }) fails (inr refl) leaves files
      (with_sources Memory before sources is))
      concludes
