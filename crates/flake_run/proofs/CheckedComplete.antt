-- Where nothing failed, files as a check wants them get their verdict.
use Rattle.std.proofs.Common.{◌≡◌, ◌⊎◌, ◌<◌, inl, inr, ℕ, ◌-◌, zero, suc, true, List, [], ◌∷◌, ◌++◌, Option, Some}
use Rattle.std.proofs.Common.{None, IsSome, IsSomeAnd, length, map, take, drop, slice_get, slice_index_or, arith}
use Rattle.std.proofs.Common.{refl, sym, ap, ◌∙◌, subst, append-nil, ⊎_elim}
use Rattle.std.specs.List.{AllByRecursion}
use Rattle.std.proofs.lemmas.List.{length-append}
use Rattle.flake_base.specs.Causes.{Rose}
use Rattle.flake_base.specs.Reads.{IsGivenFront}
use Rattle.flake_base.specs.Told.{HostTold}
use Rattle.flake_base.specs.declared.journal.Entry.{Entry}
use Rattle.journal_text.specs.Lines.{lines_of}
use Rattle.journal_text.specs.Reading.{AreJournalLines, IsBadJournalLine}
use Rattle.check_files.specs.Files.{file_limit}
use Rattle.check_files.specs.Named.{Named, AreDistinct, held_by, names_in}
use Rattle.check_files.specs.Stopped.{IsBadLineOf, IsTooLarge}
use Rattle.replay_check.specs.declared.verdict.Verdict.TheVariants.{Same, Differs, BadJournal}
use Rattle.flake_run.specs.Checked.{AreCheckable, Checked, HasFaultsBy, IsConcluded, MayCheck, WasOpened, NoneRose}
use Rattle.flake_run.specs.Checked.{OneUnopened, WasFound}
use Rattle.flake_run.specs.Files.{at_places, named_places, nothing_there}
use Rattle.flake_run.specs.Opening.{AllOpened}
use Rattle.flake_run.specs.Outcome.{RunOutcome, SourceTold, GaveFront, MayHold, sources_of, wholes_of, givens_of}
use Rattle.flake_run.specs.Outcome.{read_faults_of}
use Rattle.flake_run.specs.Outside.{Outside}
use Rattle.flake_run.specs.declared.finding.Finding.{Finding}
use Rattle.flake_run.specs.declared.finding.Finding.TheVariants.{BadWords, OpenFault, ReadFault, TooLarge, BadLine}
use Rattle.flake_run.specs.declared.finding.Finding.TheVariants.{Judged, BadFrame, Missing, Memory}
use Rattle.flake_run.specs.declared.outcome.Opened.{Opened}
use Rattle.flake_run.proofs.CheckedFiles.{sources_all}
use Rattle.flake_run.proofs.Stopped.{at_place, at_map, none_at_map}

-- what holds of each name holds of the one at a place
at_name : (P : List ℕ → Type 0) (words : List Named) (place : ℕ) (name : List ℕ) → AllByRecursion P (names_in words)
    → slice_get words place ≡ Some (Some name) → P name
at_name P [] place name all is = absurd (cc is)
at_name P (None ∷ words) zero name all is = absurd (cc is)
at_name P (Some other ∷ words) zero name all is = let same : other ≡ name = cc is in subst P same all.0
at_name P (None ∷ words) (suc place) name all is = at_name P words place name all is
at_name P (Some other ∷ words) (suc place) name all is = at_name P words place name all.1 is

unopened_rose : (file : ℕ) (words : List Named) (old new : HostTold) (sources : List (Opened SourceTold))
    → OneUnopened file words old new sources
    → AllByRecursion (λ name. Rose (old.open_faults name) (new.open_faults name) → ⊥) (names_in words) → ⊥
unopened_rose file words old new sources was none =
    at_name (λ name. Rose (old.open_faults name) (new.open_faults name) → ⊥) words file was.name none was.name_is
    (subst (λ n. Rose n (new.open_faults was.name))
    (was.opened.leaves.open_faults was.name ∙ was.opened.host.open_faults was.name)
    (subst (Rose (was.between.open_faults was.name)) (sym (was.leaves.open_faults was.name)) was.fails.rose))

no_fault : (file : ℕ) (sources : List (Opened SourceTold)) → AllByRecursion (HasFaultsBy (ReadFault file)) sources
    → WasOpened file sources → AllByRecursion (λ count. count ≡ 0) (read_faults_of (sources_of sources)) → ⊥
no_fault file sources reads opened none =
    let here = at_place (HasFaultsBy (ReadFault file)) sources opened.0 opened.1 reads opened.2 in
    let zero_is = at_place (λ (n : ℕ). n ≡ 0) (read_faults_of (sources_of sources)) opened.0 opened.1.source.faults none
    (at_map (λ (source : SourceTold). source.faults) (sources_of sources) opened.0 opened.1.source
    (at_map (λ (one : Opened SourceTold). one.source) sources opened.0 opened.1 opened.2)) in
    omega (arith, here.0 opened.3, zero_is)

-- a file that may hold no more than it may did not give more
no_more : (files : List SourceTold) (place : ℕ) → MayCheck files → IsTooLarge (givens_of files) place → ⊥
no_more files place may past = by (slice_get files place) refl past
  where
    by : (at : Option SourceTold) → slice_get files place ≡ at → IsTooLarge (givens_of files) place → ⊥
    by None is past = subst (λ o. IsSomeAnd o (λ text. file_limit place < length text))
        (none_at_map (λ (s : SourceTold). s.given) files place is) past
    by (Some source) is past =
        let within = may.within place source is in
        let large : file_limit place < length source.given =
        subst (λ o. IsSomeAnd o (λ text. file_limit place < length text))
        (at_map (λ (s : SourceTold). s.given) files place source is) past in
        omega (
          arith,
          large,
          within.2,
          ap length within.1.1,
          length-append source.given within.1.0,
        )

-- the lines in front of a place, the one at it, and those behind
parted : (lines : List (List ℕ)) (k : ℕ) → k < length lines → lines ≡ (take k lines ++ slice_index_or lines k [] ∷ [])
    ++ drop (suc k) lines
parted [] k within = absurd (omega (arith, within))
parted (line ∷ lines) zero within = refl
parted (line ∷ lines) (suc k) within = ap (λ rest. line ∷ rest) (parted lines k (omega (arith, within)))

no_bad_line : (lines : List (List ℕ)) (journal : List (List Entry)) (line : ℕ) → AreJournalLines lines journal
    → IsBadJournalLine lines line → ⊥
no_bad_line [] journal line are bad = absurd (let none = are.lines_are in cc none)
no_bad_line (first ∷ lines) journal line are bad =
    let within : line - 1 < length (first ∷ lines) = omega (arith, bad.counted, bad.there) in
    bad.bad (record {
      journal = journal;
      more = drop (suc (line - 1)) (first ∷ lines);
      fits = are.fits;
      lines_are = sym are.lines_are ∙ parted (first ∷ lines) (line - 1) within;
    })

no_bad_journal : (files : List SourceTold) (line : ℕ) → MayCheck files
    → AllByRecursion (λ (source : SourceTold). source.ended ≡ true) files → IsBadLineOf (givens_of files) line → ⊥
no_bad_journal files line may ended bad =
    let end = at_place (λ (source : SourceTold). source.ended ≡ true) files 0 may.first ended may.first_is in
    let whole : may.text ≡ may.first.given = may.held.1 ∙ ap (λ rest. may.first.given ++ rest) (may.held.2 end)
    ∙ append-nil may.first.given in
    let gave : Some may.first.given ≡ Some bad.bytes =
    sym (at_map (λ (s : SourceTold). s.given) files 0 may.first may.first_is) ∙ bad.bytes_are.text_is in
    let same : may.text ≡ bad.bytes = whole ∙ cc gave in
    no_bad_line (lines_of bad.bytes) may.journal line
    (subst (λ text. AreJournalLines (lines_of text) may.journal) same may.lines) bad.bad

-- what holds of each source that is there holds at each place, where it holds of what is not
all_at_places : (P : SourceTold → Type 0) (words : List Named) (sources : List SourceTold) → P nothing_there
    → AllByRecursion P sources → AllByRecursion P (at_places words sources)
all_at_places P [] sources none all = tt
all_at_places P (None ∷ words) sources none all = (none, all_at_places P words sources none all)
all_at_places P (Some name ∷ words) [] none all = (none, all_at_places P words [] none all)
all_at_places P (Some name ∷ words) (source ∷ sources) none all = (all.0, all_at_places P words sources none all.1)

-- what they hold, where the names are those
wholes_at : (words : List Named) (host : HostTold) (sources : List SourceTold)
    → wholes_of sources ≡ map host.holds (names_in words)
    → wholes_of (at_places words sources) ≡ map (held_by host) words
wholes_at [] host sources wholes = refl
wholes_at (None ∷ words) host sources wholes =
    ap (λ rest. Some [] ∷ rest) (wholes_at words host sources wholes)
wholes_at (Some name ∷ words) host [] wholes = absurd (cc wholes)
wholes_at (Some name ∷ words) host (source ∷ sources) wholes =
    let here : source.whole ≡ host.holds name = cc wholes in
    let rest = wholes_at words host sources (cc wholes) in cc (here, rest)

-- sources of which the host tells that they hold files as a check wants them
told_may : (words : List Named) (old new : HostTold) (sources : List (Opened SourceTold)) (places : List ℕ)
    → AllOpened places (names_in words) old new sources → AreDistinct (names_in words) → AreCheckable words old
    → MayCheck (at_places words (sources_of sources))
told_may words old new sources places opened distinct files =
    by (slice_get all 0) refl
  where
    all : List SourceTold
    all = at_places words (sources_of sources)

    wholes : wholes_of all ≡ map (held_by old) words
    wholes = wholes_at words old (sources_of sources) (opened.of_files.wholes_are distinct)

    fronts : AllByRecursion GaveFront all
    fronts = all_at_places GaveFront words (sources_of sources) ([], refl, (λ is. refl)) opened.of_files.fronts

    whole_at : (place : ℕ) (source : SourceTold) → slice_get all place ≡ Some source
        → slice_get (map (held_by old) words) place ≡ Some source.whole
    whole_at place source is = ap (λ (ws : List (Option (List ℕ))). slice_get ws place) (sym wholes)
        ∙ at_map (λ (s : SourceTold). s.whole) all place source is

    holds_at : (place : ℕ) (source : SourceTold) → slice_get all place ≡ Some source → (whole : Option (List ℕ))
        → source.whole ≡ whole → (bytes : List ℕ) × MayHold bytes source × (source.whole ≡ Some bytes)
    holds_at place source is None whole_is =
        absurd (let none = at_place (λ (held : Option (List ℕ)). IsSome held) (map (held_by old) words) place None
        files.told (whole_at place source is ∙ ap Some whole_is) in cc none)
    holds_at place source is (Some bytes) whole_is = (
      bytes,
      subst (λ w. IsGivenFront w source.given source.ended) whole_is (at_place GaveFront all place source fronts is),
      whole_is,
    )

    text_at : (first : SourceTold) → slice_get all 0 ≡ Some first → first.whole ≡ Some files.text
    text_at first is =
        let same : Some first.whole ≡ Some (Some files.text) = sym (whole_at 0 first is) ∙ files.text_is in cc same

    by : (first : Option SourceTold) → slice_get all 0 ≡ first → MayCheck all
    by None is = absurd (let none : None ≡ Some (Some files.text) =
        sym (none_at_map (λ (s : SourceTold). s.whole) all 0 is)
        ∙ ap (λ (ws : List (Option (List ℕ))). slice_get ws 0) wholes ∙ files.text_is in cc none)
    by (Some first) is = record {
      within = λ place source at.
          let held = holds_at place source at source.whole refl in
          (held.0, held.1, files.within place held.0 (whole_at place source at ∙ ap Some held.2));
      first = first;
      first_is = is;
      text = files.text;
      held = subst (λ w. IsGivenFront w first.given first.ended) (text_at first is)
          (at_place GaveFront all 0 first fronts is);
      journal = files.journal;
      lines = files.lines;
    }

complete_by : {W : Type 0} (finding : Finding) (words : List Named) (before after : Outside W) (done : RunOutcome)
    → IsConcluded finding before after done → WasFound finding (Some words) before.host after.host done.sources
    → NoneRose words before.host after.host done
    → (AllOpened (named_places 0 words) (names_in words) before.host after.host done.sources
    → MayCheck (at_places words (sources_of done.sources)))
    → (done.status ≡ 0) ⊎ (done.status ≡ 8)
complete_by BadWords words before after done is found none files = absurd (let no = found.0 in cc no)
complete_by (OpenFault file) words before after done is found none files =
    absurd (unopened_rose file words before.host after.host done.sources found none.opens)
complete_by (ReadFault file) words before after done is found none files =
    absurd (no_fault file done.sources found.reads found.comes_to.1 none.reads)
complete_by (TooLarge file) words before after done is found none files =
    absurd (no_more (at_places words (sources_of done.sources)) file (files found.opened) found.comes_to.0)
complete_by (BadLine line) words before after done is found none files =
    absurd (no_bad_journal (at_places words (sources_of done.sources)) line (files found.opened)
    (all_at_places (λ (source : SourceTold). source.ended ≡ true) words (sources_of done.sources) refl
    (sources_all (λ (source : SourceTold). source.ended ≡ true) done.sources found.gave)) found.comes_to.0)
complete_by (Judged Same) words before after done is found none files = ⊎_elim (λ ok. inl ok.0)
    (λ failed. absurd (none.says failed.1)) is.status
complete_by (Judged (Differs session place expected found_byte)) words before after done is found none files =
    inr is.status
complete_by (Judged (BadJournal shard place)) words before after done is found none files = inr is.status
complete_by (BadFrame number) words before after done is found none files = absurd found
complete_by (Missing call frame) words before after done is found none files = absurd found
complete_by Memory words before after done is found none files = absurd (none.memory is.status)

-- what is concluded of a finding that has its cause
pub checked_by : {W : Type 0} (finding : Finding) (task : Option (List Named)) (before after : Outside W)
    (done : RunOutcome) → IsConcluded finding before after done
    → WasFound finding task before.host after.host done.sources → Checked task before after done
checked_by finding None before after done is found = record {
  finding = finding;
  concluded = is;
  found = found;
  complete = tt;
  told = tt;
}
checked_by finding (Some words) before after done is found = record {
  finding = finding;
  concluded = is;
  found = found;
  complete = λ none files. complete_by finding words before after done is found none (λ opened. files);
  told = λ none distinct files. complete_by finding words before after done is found none
      (λ opened. told_may words before.host after.host done.sources (named_places 0 words) opened distinct files);
}
