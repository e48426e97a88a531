-- Where nothing failed, a schedule and whole requests are driven with status 0.
use Rattle.std.proofs.Common.{◌≡◌, ◌≢◌, ◌≤◌, ◌<◌, inl, ℕ, ◌-◌, zero, suc, ◌||◌, Bool, true, false, List, [], ◌∷◌, ◌++◌}
use Rattle.std.proofs.Common.{Option, Some, None, All, IfSome, IsSomeAnd, length, map, drop, slice_get, slice_index_or}
use Rattle.std.proofs.Common.{arith, refl, sym, ap, ◌∙◌, subst, append-nil, ⊎_elim}
use Rattle.std.specs.Prelude.{if◌then◌else◌, ◌==◌}
use Rattle.std.specs.List.{AllByRecursion}
use Rattle.std.proofs.lemmas.Bool.{cases_Bool, eqb-true}
use Rattle.std.proofs.lemmas.List.{length-append, length-map}
use Rattle.std.proofs.lemmas.List.Elements.{recursion_from_All}
use Rattle.flake_base.specs.Causes.{Rose}
use Rattle.flake_base.specs.Reads.{IsGivenFront}
use Rattle.flake_base.specs.Told.{HostTold}
use Rattle.flake_base.specs.declared.session.SessionEnd.{SessionEnd}
use Rattle.flake_model.specs.Wire.{FaultIs, FaultsAre}
use Rattle.journal_text.specs.Lines.{lines_of}
use Rattle.schedule_text.specs.Reading.{AreScheduleLines, IsBadScheduleLine}
use Rattle.schedule_text.specs.Text.{schedule_line, line_session}
use Rattle.schedule_text.specs.declared.line.Line.{Line}
use Rattle.check_files.specs.Named.{AreDistinct}
use Rattle.flake_run.specs.Causes.{highest_by}
use Rattle.flake_run.specs.Checked.{IsStatus}
use Rattle.flake_run.specs.Complete.{AreRequests, MayHoldRequests}
use Rattle.flake_run.specs.Driven.{some_put_failed, status_with}
use Rattle.flake_run.specs.DriveTask.{DriveJob, served_names}
use Rattle.flake_run.specs.Drove.{AreDrivable, DroveFiles, IsAccepted, IsScheduleText, MayDrive, NoneDriven}
use Rattle.flake_run.specs.Drove.{NoCallFailed, NothingServed, OneFails, WasRefused}
use Rattle.flake_run.specs.Opening.{AreOfFiles}
use Rattle.flake_run.specs.Outcome.{RunOutcome, SourceTold, GaveFront, MayHold, ways, sources_of, wholes_of}
use Rattle.flake_run.specs.Outcome.{read_faults_of}
use Rattle.flake_run.specs.Outside.{Outside, wire_faults}
use Rattle.flake_run.specs.Schedule.{IsUndriven}
use Rattle.flake_run.specs.declared.finding.Finding.{Finding}
use Rattle.flake_run.specs.declared.finding.Finding.TheVariants.{BadWords, OpenFault, ReadFault, TooLarge, BadLine}
use Rattle.flake_run.specs.declared.finding.Finding.TheVariants.{Judged, BadFrame, Missing, Memory}
use Rattle.flake_run.proofs.CameTo.{behind_one}
use Rattle.flake_run.proofs.Highest.{none_is_six}
use Rattle.flake_run.proofs.Ran.{as_many_sources}
use Rattle.flake_run.proofs.RanCauses.{put_or_said}
use Rattle.flake_run.proofs.RanComplete.{told_requests, whole_ends}
use Rattle.flake_run.proofs.Stopped.{at_place}

-- where nothing failed the status is the highest
status_quiet : (highest : ℕ) → status_with false highest ≡ highest
status_quiet highest =
    ⊎_elim (λ is. ap (λ (b : Bool). if b then 6 else highest) is ∙ sym (eqb-true highest 6 is))
    (λ is. ap (λ (b : Bool). if b then 6 else highest) is) (cases_Bool (highest == 6))

-- lines of a schedule have no bad line
no_bad_line : (sessions line : ℕ) (lines : List (List ℕ)) (schedule : List Line)
    → AreScheduleLines sessions lines schedule → IsBadScheduleLine sessions lines line → ⊥
no_bad_line sessions line lines schedule are bad = at (line - 1) lines schedule are.lines_are are.within
    (omega (arith, bad.counted, bad.there)) bad.bad where
      at : (k : ℕ) (lines : List (List ℕ)) (schedule : List Line) → lines ≡ map schedule_line schedule
          → AllByRecursion (λ asked. line_session asked < sessions) schedule → k < length lines
          → ((asked : Line) → line_session asked < sessions → slice_index_or lines k [] ≢ schedule_line asked) → ⊥
      at k lines [] is within there bad = omega (arith, there, ap length is)
      at k [] (asked ∷ schedule) is within there bad = omega (arith, there)
      at zero (line ∷ lines) (asked ∷ schedule) is within there bad = bad asked within.0 (cc is)
      at (suc k) (line ∷ lines) (asked ∷ schedule) is within there bad = at k lines schedule (cc is) within.1
          (omega (arith, there)) bad

module _ {W : Type 0} (job : DriveJob) (before after : Outside W) (done : RunOutcome)
    (none : NoCallFailed job before after done)
    (can : AreOfFiles job.names before.host.holds (sources_of done.sources) → MayDrive (sources_of done.sources)) where
  counts_zero : AllByRecursion (λ n. n ≡ 0) (read_faults_of (sources_of done.sources))
  counts_zero = recursion_from_All (λ (n : ℕ). n ≡ 0) (read_faults_of (sources_of done.sources)) none.reads

  not_opened : (file : ℕ) → OneFails file job.names before.host after.host done.sources → ⊥
  not_opened file one =
      let fails = one.fails in
      let rose = subst (λ n. Rose n (after.host.open_faults fails.name)) (fails.opened.host.open_faults fails.name)
      (subst (Rose (fails.between.open_faults fails.name)) (sym (one.leaves.open_faults fails.name))
      fails.unopened.rose) in
      at_place (λ (name : List ℕ). Rose (before.host.open_faults name) (after.host.open_faults name) → ⊥) job.names
      (length (sources_of done.sources)) fails.name
      (recursion_from_All (λ (name : List ℕ). Rose (before.host.open_faults name) (after.host.open_faults name) → ⊥)
      job.names none.opens) fails.name_is rose

  -- the first source, and those behind it
  same_first : (first other : SourceTold) (rest others : List SourceTold) → sources_of done.sources ≡ first ∷ rest
      → sources_of done.sources ≡ other ∷ others → first ≡ other
  same_first first other rest others is are = let same : first ∷ rest ≡ other ∷ others = sym is ∙ are in cc same

  same_rest : (first other : SourceTold) (rest others : List SourceTold) → sources_of done.sources ≡ first ∷ rest
      → sources_of done.sources ≡ other ∷ others → rest ≡ others
  same_rest first other rest others is are = let same : first ∷ rest ≡ other ∷ others = sym is ∙ are in cc same

  not_driven : (finding : Finding) → finding ≢ Memory → NoneDriven finding job.names before.host after.host done.sources
      → ⊥
  not_driven finding memory was = by finding memory was.undriven where
    may : MayDrive (sources_of done.sources)
    may = can was.opened.of_files

    held : MayHold may.text was.first
    held = subst (MayHold may.text) (same_first may.first was.first may.rest was.rest may.sources_are was.sources_are)
        may.held

    as_many : length may.rest ≡ length was.rest
    as_many = ap length (same_rest may.first was.first may.rest was.rest may.sources_are was.sources_are)

    count : was.first.faults ≡ 0
    count = (subst (λ ss. AllByRecursion (λ n. n ≡ 0) (read_faults_of ss)) was.sources_are counts_zero).0

    by : (finding : Finding) → finding ≢ Memory
        → IsUndriven finding (length was.rest) was.first.given was.first.ended 0 was.first.faults → ⊥
    by BadWords memory undriven = undriven
    by (OpenFault file) memory undriven = undriven
    by (ReadFault file) memory undriven = omega (arith, undriven.1, count)
    by (TooLarge file) memory undriven =
        omega (
          arith,
          undriven.1,
          may.schedule.within,
          ap length held.1,
          length-append was.first.given held.0,
        )
    by (BadLine line) memory undriven =
        let bad = undriven.0 in
        let same : may.text ≡ was.first.given = held.1 ∙ ap (λ rest. was.first.given ++ rest) (held.2 bad.end)
        ∙ append-nil was.first.given in
        no_bad_line (length was.rest) line (lines_of was.first.given) may.schedule.schedule
        (subst (λ n. AreScheduleLines n (lines_of was.first.given) may.schedule.schedule) as_many
        (subst (λ text. AreScheduleLines (length may.rest) (lines_of text) may.schedule.schedule) same
        may.schedule.lines))
        bad.bad
    by (Judged verdict) memory undriven = undriven
    by (BadFrame number) memory undriven = undriven
    by (Missing call frame) memory undriven = undriven
    by Memory memory undriven = memory refl

  refused_whole : length (served_names job) ≤ length before.wires → NothingServed (Some job) before after done
      → done.status ≡ 0
  refused_whole enough why = absurd (by why.finding why.concluded.status why.refused)
    where
      by : (finding : Finding) → IsStatus finding before.host after.host done.status
          → WasRefused finding (Some job) before after.host done.sources → ⊥
      by BadWords status refused = omega (arith, refused.0, enough)
      by (OpenFault file) status refused = not_opened file refused.1
      by (ReadFault file) status refused = not_driven (ReadFault file) (λ is. absurd (cc is)) refused.1
      by (TooLarge file) status refused = not_driven (TooLarge file) (λ is. absurd (cc is)) refused.1
      by (BadLine line) status refused = not_driven (BadLine line) (λ is. absurd (cc is)) refused.1
      by (Judged verdict) status refused = refused
      by (BadFrame number) status refused = refused
      by (Missing call frame) status refused = refused
      by Memory status refused = none.memory status

  driven_whole : DroveFiles job before after done → done.status ≡ 0
  driven_whole drove =
      let w = drove.driven in
      let may = can drove.opened.of_files in
      let count : length done.ends ≡ length (served_names job) =
      omega (
        arith,
        w.sessions,
        ap length w.sources_are,
        as_many_sources job.names before.host.holds (sources_of done.sources) drove.opened.of_files,
        behind_one job.names,
      ) in
      let said : w.failed ≡ false =
      ⊎_elim (λ is. absurd (none.says
      (subst (λ (f : Bool). FaultIs f before.host.say_faults after.host.say_faults) is w.says))) (λ is. is)
      (cases_Bool w.failed) in
      let put : some_put_failed done.ends ≡ false = ⊎_elim (λ is. absurd (fails w.faults count is)) (λ is. is)
      (cases_Bool (some_put_failed done.ends)) in
      let by : done.status ≡ highest_by (ways done.ends) =
      w.status ∙ ap (λ (f : Bool). status_with (f || some_put_failed done.ends) (highest_by (ways done.ends))) said
      ∙ ap (λ (f : Bool). status_with f (highest_by (ways done.ends))) put
      ∙ status_quiet (highest_by (ways done.ends)) in
      by ∙ whole_ends w.run.sessions w.rest done.ends (read_faults_of w.rest) w.run.each_is w.run.given_is
      w.run.ended_is w.run.ends_are w.reads
      (subst (λ ss. AllByRecursion (λ n. n ≡ 0) (read_faults_of ss)) w.sources_are counts_zero).1
      (none_is_six (ways done.ends) (λ six. none.memory (by ∙ six)))
      (subst (AllByRecursion MayHoldRequests)
      (same_rest may.first w.first may.rest w.rest may.sources_are w.sources_are) may.requests)
    where
      fails : FaultsAre (map (λ (end : SessionEnd). end.failed) done.ends) (wire_faults before) (wire_faults after)
          → length done.ends ≡ length (served_names job) → some_put_failed done.ends ≡ true → ⊥
      fails faults count is =
          ⊎_elim (λ never. never) (λ put. none.puts (put.0, omega (arith, put.1, count), put.2))
          (put_or_said done.ends (wire_faults before) (wire_faults after) ⊥ faults (inl is))

no_item : {A : Type 0} (x : A) (xs : List A) → x ∷ xs ≢ []
no_item x xs is = absurd (cc is)

module _ {W : Type 0} (job : DriveJob) (before after : Outside W) (done : RunOutcome)
    (served : done.ends ≢ [] → IsAccepted (Some job) before (λ job. DroveFiles job before after done))
    (refused : done.ends ≡ [] → NothingServed (Some job) before after done) where
  by_ends : length (served_names job) ≤ length before.wires → NoCallFailed job before after done
      → (AreOfFiles job.names before.host.holds (sources_of done.sources) → MayDrive (sources_of done.sources))
      → (ends : List SessionEnd) → done.ends ≡ ends → done.status ≡ 0
  by_ends enough none can [] is = refused_whole job before after done none can enough (refused is)
  by_ends enough none can (end ∷ ends) is = driven_whole job before after done none can
      (served (λ no. no_item end ends (sym is ∙ no))).1

pub drove_whole : {W : Type 0} (task : Option DriveJob) (before after : Outside W) (done : RunOutcome)
    → (done.ends ≢ [] → IsAccepted task before (λ job. DroveFiles job before after done))
    → (done.ends ≡ [] → NothingServed task before after done)
    → IfSome task (λ job. length (served_names job) ≤ length before.wires → NoCallFailed job before after done
    → MayDrive (sources_of done.sources) → done.status ≡ 0)
drove_whole None before after done served refused = tt
drove_whole (Some job) before after done served refused = λ enough none can. by_ends job before after done served
    refused enough none (λ of. can) done.ends refl

-- sources of which the host tells that they can be driven
told_may : (job : DriveJob) (host : HostTold) (sources : List SourceTold) → AreOfFiles job.names host.holds sources
    → AreDistinct job.names → AreDrivable job host → MayDrive sources
told_may job host sources of distinct can = by job.names sources (of.wholes_are distinct) of.fronts can.text_is
    can.requests can.schedule
  where
    by : (names : List (List ℕ)) (sources : List SourceTold) → wholes_of sources ≡ map host.holds names
        → AllByRecursion GaveFront sources → slice_get (map host.holds names) 0 ≡ Some (Some can.text)
        → All (λ name. IsSomeAnd (host.holds name) AreRequests) (drop 1 names)
        → IsScheduleText (length (drop {A = List ℕ} 1 names)) can.text → MayDrive sources
    by [] sources wholes fronts text_is requests schedule = absurd (cc text_is)
    by (name ∷ names) [] wholes fronts text_is requests schedule = absurd (cc wholes)
    by (name ∷ names) (first ∷ rest) wholes fronts text_is requests schedule =
        let held : first.whole ≡ host.holds name = cc wholes in
        let behind : wholes_of rest ≡ map host.holds names = cc wholes in
        let text : host.holds name ≡ Some can.text = cc text_is in
        let count : length names ≡ length rest = sym (length-map names host.holds) ∙ ap length (sym behind)
        ∙ length-map rest (λ (s : SourceTold). s.whole) in
        record {
          first = first;
          rest = rest;
          sources_are = refl;
          text = can.text;
          held = subst (λ w. IsGivenFront w first.given first.ended) (held ∙ text) fronts.0;
          schedule = subst (λ n. IsScheduleText n can.text) count schedule;
          requests = told_requests names host.holds rest behind fronts.1
              (recursion_from_All (λ (name : List ℕ). IsSomeAnd (host.holds name) AreRequests) names requests);
        }

pub drove_told : {W : Type 0} (task : Option DriveJob) (before after : Outside W) (done : RunOutcome)
    → (done.ends ≢ [] → IsAccepted task before (λ job. DroveFiles job before after done))
    → (done.ends ≡ [] → NothingServed task before after done)
    → IfSome task (λ job. length (served_names job) ≤ length before.wires → NoCallFailed job before after done
    → AreDistinct job.names → AreDrivable job before.host → done.status ≡ 0)
drove_told None before after done served refused = tt
drove_told (Some job) before after done served refused = λ enough none distinct can. by_ends job before after done
    served refused enough none
    (λ of. told_may job before.host (sources_of done.sources) of distinct can) done.ends refl
