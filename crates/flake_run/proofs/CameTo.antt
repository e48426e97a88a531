-- What came of sources that were driven, or of which the schedule's gave none.
use Rattle.std.proofs.Common.{◌≡◌, ◌≢◌, ◌≤◌, ◌<◌, ℕ, ◌-◌, ◌||◌, Bool, false, List, [], ◌∷◌, ◌++◌, Option, Some}
use Rattle.std.proofs.Common.{length, drop, arith, refl, ap, ◌∙◌, subst, ⊎_elim}
use Rattle.std.specs.Prelude.{slice_index_or, remove}
use Rattle.std.specs.List.{AllByRecursion, flat_map, range_with_len}
use Rattle.std.proofs.lemmas.List.{length-map}
use Rattle.flake_base.specs.Told.{HostTold, WireTold}
use Rattle.pinned_pool.specs.Ends.{End}
use Rattle.run_resources.specs.Opened.{pool_sizes}
use Rattle.run_resources.specs.declared.sizes.RunSizes.{RunSizes}
use Rattle.transcript_model.specs.Lines.{held_text, transcript_line}
use Rattle.drive_script.specs.Says.{PrintsText}
use Rattle.drive_script.proofs.Sayings.{says_then}
use Rattle.flake_run.specs.Causes.{AreCountsOf, highest_by}
use Rattle.flake_run.specs.Checked.{ConcludesBy, IsConcluded}
use Rattle.flake_run.specs.Driven.{CameOf, IsDrivenBy, IsDrivenRun, NotDriven, some_put_failed, status_with}
use Rattle.flake_run.specs.Outcome.{RunOutcome, SourceTold, IsUntouched, GaveFront, files_of, sources_of, source_names}
use Rattle.flake_run.specs.Outcome.{wholes_of, givens_of, endeds_of, read_faults_of, ways}
use Rattle.flake_run.specs.Outside.{LeavesFiles, outside}
use Rattle.flake_run.specs.Schedule.{HasSchedule, IsUndriven}
use Rattle.flake_run.specs.declared.finding.Finding.{Finding}
use Rattle.flake_run.specs.declared.finding.Finding.TheVariants.{Memory}
use Rattle.flake_run.specs.declared.outcome.Detail.TheVariants.{Nothing}
use Rattle.flake_run.specs.declared.outcome.Opened.{Opened}
use Rattle.flake_run.proofs.RanServed.{enough}
use Rattle.flake_run.proofs.Served.{ends_count}

some_ends : {A : Type 0} (ends : List A) (n : ℕ) → length ends ≡ n → 1 ≤ n → ends ≢ []
some_ends ends n count some none = omega (arith, count, some, ap length none)

module _ {W : Type 0} (tells : W → WireTold) (sizes : RunSizes) (names : List (List ℕ))
    (wholes : List (Option (List ℕ))) (host mid now : HostTold) (wires after : List W) where
  -- all sources come back, in whatever state
  pub record ComeBack (sources : List (Opened SourceTold)) : Type 0 where
    pub files : files_of sources ≡ range_with_len 0 (length names)
    pub names_are : source_names (sources_of sources) ≡ names
    pub wholes_are : wholes_of (sources_of sources) ≡ wholes
    pub fronts : AllByRecursion GaveFront (sources_of sources)

  -- the sources were driven, and what is held was said behind the transcript
  pub record HasDriven (done : RunOutcome) (between failed : Bool) (closed : End) : Type 0 where
    pub first : SourceTold
    pub rest : List SourceTold
    pub sources_are : sources_of done.sources ≡ first ∷ rest
    pub by : IsDrivenBy sizes first.given first.ended between (givens_of rest) (endeds_of rest) done.ends done.journal
        closed wires after tells host mid
    pub said : PrintsText between failed (held_text closed.small closed.large) mid now
    pub pool_is : done.pool ≡ Some closed
    pub held : (done.held.small ≡ closed.small) × (done.held.large ≡ closed.large)
    pub shards : length done.journal ≡ sizes.shards
    pub calm : first.faults ≡ 0
    pub reads : AreCountsOf (ways done.ends) (read_faults_of rest)
    pub status : done.status ≡ status_with (failed || some_put_failed done.ends) (highest_by (ways done.ends))
    pub detail : done.detail ≡ Nothing
    pub back : ComeBack done.sources
    pub some : 1 ≤ length rest

  pub came_driven : (done : RunOutcome) (between failed : Bool) (closed : End) → HasDriven done between failed closed
      → CameOf sizes names wholes (outside host wires tells) (outside now after tells) done
  came_driven done between failed closed h = record {
    driven = λ some. record {
      first = h.first;
      rest = h.rest;
      sources_are = h.sources_are;
      schedule = h.by.schedule;
      lines = subst (λ n. HasSchedule n h.first.given h.first.ended h.by.schedule) as_many h.by.lines;
      run = run.run.run;
      wires = run.run.wires;
      pool = closed;
      pool_is = h.pool_is;
      shows = run.run.counted;
      held = h.held;
      none_missing = enough (pool_sizes (length h.rest) sizes) sizes.threshold run.run.run.sessions done.journal closed
          run.run.counted;
      flushed = run.run.flushed;
      faults = run.run.faults;
      others = run.run.others;
      sessions = sessions;
      shards = h.shards;
      calm = h.calm;
      reads = h.reads;
      failed = failed;
      says = (all.said refl).1;
      said = (run.lines, run.transcript, (all.said refl).0);
      status = h.status;
      detail = h.detail;
    };
    refused = λ none. absurd (some_ends done.ends (length h.rest) sessions h.some none);
    leaves = record { holds = all.files.holds; opens = all.files.opens; open_faults = all.files.open_faults };
    files = h.back.files;
    names_are = h.back.names_are;
    wholes_are = h.back.wholes_are;
    fronts = h.back.fronts;
  } where
    as_many : length (givens_of h.rest) ≡ length h.rest
    as_many = length-map h.rest (λ (source : SourceTold). source.given)

    run : IsDrivenRun (pool_sizes (length h.rest) sizes) sizes.ring sizes.threshold h.by.schedule between
        (givens_of h.rest) (endeds_of h.rest) done.ends done.journal closed wires after tells host mid
    run = subst (λ n. IsDrivenRun (pool_sizes n sizes) sizes.ring sizes.threshold h.by.schedule between
        (givens_of h.rest) (endeds_of h.rest) done.ends done.journal closed wires after tells host mid) as_many
        h.by.run

    all : PrintsText false failed (flat_map transcript_line run.lines ++ held_text closed.small closed.large) host now
    all = says_then false between failed (flat_map transcript_line run.lines) (held_text closed.small closed.large)
        host mid now run.said h.said

    sessions : length done.ends ≡ length h.rest
    sessions = ends_count (pool_sizes (length h.rest) sizes) sizes.threshold (givens_of h.rest) (endeds_of h.rest)
        done.ends done.journal closed wires after tells run.run ∙ as_many

  -- nothing was driven, and that was said
  pub came_refused : (finding : Finding) (before : RunOutcome) (sources : List (Opened SourceTold)) (first : SourceTold)
      (rest : List SourceTold) → ConcludesBy finding (outside host wires tells) (outside now after tells) before
      → LeavesFiles host now → sources_of sources ≡ first ∷ rest → AllByRecursion IsUntouched rest
      → IsUndriven finding (length rest) first.given first.ended 0 first.faults → ComeBack sources
      → CameOf sizes names wholes (outside host wires tells) (outside now after tells)
      (record before { sources = sources })
  came_refused finding before sources first rest concludes leaves are unread undriven back = record {
    driven = λ some. absurd (some (no_ends concludes));
    refused = λ none. ⊎_elim (λ is. not_driven finding is undriven) (λ is. not_driven Memory is tt) concludes;
    leaves = leaves;
    files = back.files;
    names_are = back.names_are;
    wholes_are = back.wholes_are;
    fronts = back.fronts;
  } where
    no_ends : ConcludesBy finding (outside host wires tells) (outside now after tells) before → before.ends ≡ []
    no_ends concludes = ⊎_elim (λ is. is.ends) (λ is. is.ends) concludes

    not_driven : (finding : Finding) → IsConcluded finding (outside host wires tells) (outside now after tells) before
        → IsUndriven finding (length rest) first.given first.ended 0 first.faults
        → NotDriven (outside host wires tells) (outside now after tells) (record before { sources = sources })
    not_driven finding is undriven = record {
      finding = finding;
      concluded = record {
        status = is.status;
        detail = is.detail;
        said = is.said;
        ends = is.ends;
        journal = is.journal;
        held = is.held;
        pool = is.pool;
        wires = is.wires;
      };
      first = first;
      rest = rest;
      sources_are = are;
      unread = unread;
      undriven = undriven;
    }

-- the first item of a list, and the others
pub split_first : {A : Type 0} (items rest : List A) (first : A) → 0 < length items
    → first ≡ slice_index_or items 0 first → rest ≡ remove items 0 → items ≡ first ∷ rest
split_first [] rest first some first_is rest_is = absurd (omega (arith, some))
split_first (item ∷ items) rest first some first_is rest_is = cc (first_is, rest_is)

pub behind_one : {A : Type 0} (items : List A) → length (drop {A = A} 1 items) ≡ length items - 1
behind_one [] = omega arith
behind_one (item ∷ items) = omega arith
