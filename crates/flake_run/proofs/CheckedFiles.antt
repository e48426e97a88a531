-- What the files of a check come to, as the sources that come back show it.
use Rattle.std.proofs.Common.{◌≡◌, ◌≢◌, ◌≤◌, inl, inr, ℕ, ◌+◌, zero, suc, ◌<◌, Bool, true, false, List, [], ◌∷◌, ◌++◌}
use Rattle.std.proofs.Common.{Option, Some, None, Result, Ok, Err, IfOk, IfErr, length, map, take, slice_get, arith}
use Rattle.std.proofs.Common.{refl, sym, ap, ◌∙◌, subst}
use Rattle.std.specs.Prelude.{is_none, ⊤}
use Rattle.std.specs.List.{AllByRecursion}
use Rattle.std.proofs.lemmas.List.{length-map, length-take}
use Rattle.flake_base.specs.Causes.{Rose}
use Rattle.flake_base.specs.Told.{HostTold}
use Rattle.check_files.specs.Answer.{FailedAt, FailedBy, HasCauseIn, WereJudged}
use Rattle.check_files.specs.Answer as came
use Rattle.check_files.specs.File.{name_in, given_in, ended_in, faults_in, file_names, file_wholes, file_givens}
use Rattle.check_files.specs.File.{file_endeds, file_faults}
use Rattle.check_files.specs.Files.{AllReadToEnd}
use Rattle.check_files.specs.Named.{Named, AreUnread, FilesOpened, HaveTheirOwn, NoneFailed, at_names, endeds_unread}
use Rattle.check_files.specs.Named.{givens_unread, held_by, names_in}
use Rattle.check_files.specs.Stopped.{AreReadTo}
use Rattle.check_files.specs.declared.error.CheckError.{CheckError}
use Rattle.check_files.specs.declared.error.CheckError.TheVariants as errors
use Rattle.check_files.specs.declared.file.File.{File}
use Rattle.check_files.specs.declared.file.File.TheVariants as file
use Rattle.replay_check.specs.declared.verdict.Verdict.{Verdict}
use Rattle.flake_run.specs.Checked.{ComesTo, HasFaultsBy, WasReadBy, WasReadTo, WasFound, WasOpened}
use Rattle.flake_run.specs.Checked.{WasRead, OneUnopened}
use Rattle.flake_run.specs.Files.{at_places, nothing_there, opened_from, named_places}
use Rattle.flake_run.specs.Finding.{found_by}
use Rattle.flake_run.specs.Opening.{AllOpened}
use Rattle.flake_run.specs.Outcome.{SourceTold, IsUntouched, GaveFront, opened_told, files_of, sources_of, source_names}
use Rattle.flake_run.specs.Outcome.{wholes_of, givens_of}
use Rattle.flake_run.specs.Outside.{LeavesFiles}
use Rattle.flake_run.specs.declared.finding.Finding.{Finding}
use Rattle.flake_run.specs.declared.finding.Finding.TheVariants.{ReadFault, TooLarge, BadLine, Judged, Memory}
use Rattle.flake_run.specs.declared.outcome.Opened.{Opened}
use Rattle.flake_run.proofs.Stopped.{at_place, at_map}

-- what holds of what each source tells holds of the sources
pub sources_all : (P : SourceTold → Type 0) (opened : List (Opened SourceTold))
    → AllByRecursion (λ (one : Opened SourceTold). P one.source) opened → AllByRecursion P (sources_of opened)
sources_all P [] all = tt
sources_all P (one ∷ opened) all = (all.0, sources_all P opened all.1)

-- what is held under the names that stand there
named_hold : (words : List Named) (host : HostTold) → at_names words (map (held_by host) words)
    ≡ map host.holds (names_in words)
named_hold [] host = refl
named_hold (None ∷ words) host = named_hold words host
named_hold (Some name ∷ words) host = ap (λ rest. host.holds name ∷ rest) (named_hold words host)

-- what a file tells: one that isn't there holds no bytes, and is at its end
abbrev pub file_told : {S : Type 0} → (S → SourceTold) → File S → SourceTold
file_told tells (file.Opened source) = tells source
file_told tells file.Absent = nothing_there

module _ {S : Type 0} (tells : S → SourceTold) where
  abbrev name : S → List ℕ
  name s = (tells s).name

  abbrev whole : S → Option (List ℕ)
  whole s = (tells s).whole

  abbrev given : S → List ℕ
  given s = (tells s).given

  abbrev ended : S → Bool
  ended s = (tells s).ended

  abbrev faults : S → ℕ
  faults s = (tells s).faults

  abbrev pub told_from : ℕ → List (File S) → List (Opened SourceTold)
  told_from place files = opened_told tells (opened_from place files)

  -- they have the numbers of the files that have names
  told_places : (place : ℕ) (files : List (File S)) (words : List Named) → file_names name files ≡ words
      → files_of (told_from place files) ≡ named_places place words
  told_places place [] [] is = refl
  told_places place [] (word ∷ words) is = absurd (cc is)
  told_places place (file.Opened source ∷ files) [] is = absurd (cc is)
  told_places place (file.Opened source ∷ files) (None ∷ words) is = absurd (cc is)
  told_places place (file.Opened source ∷ files) (Some word ∷ words) is =
      ap (λ places. place ∷ places) (told_places (place + 1) files words (cc is))
  told_places place (file.Absent ∷ files) [] is = absurd (cc is)
  told_places place (file.Absent ∷ files) (None ∷ words) is = told_places (place + 1) files words (cc is)
  told_places place (file.Absent ∷ files) (Some word ∷ words) is = absurd (cc is)

  -- and their names
  told_names : (place : ℕ) (files : List (File S)) (words : List Named) → file_names name files ≡ words
      → source_names (sources_of (told_from place files)) ≡ names_in words
  told_names place [] [] is = refl
  told_names place [] (word ∷ words) is = absurd (cc is)
  told_names place (file.Opened source ∷ files) [] is = absurd (cc is)
  told_names place (file.Opened source ∷ files) (None ∷ words) is = absurd (cc is)
  told_names place (file.Opened source ∷ files) (Some word ∷ words) is =
      let here : name source ≡ word = cc is in
      let rest = told_names (place + 1) files words (cc is) in cc (here, rest)
  told_names place (file.Absent ∷ files) [] is = absurd (cc is)
  told_names place (file.Absent ∷ files) (None ∷ words) is = told_names (place + 1) files words (cc is)
  told_names place (file.Absent ∷ files) (Some word ∷ words) is = absurd (cc is)

  -- what stands at each place is what the file there tells
  told_places_are : (place : ℕ) (files : List (File S)) (words : List Named) → file_names name files ≡ words
      → at_places words (sources_of (told_from place files)) ≡ map (file_told tells) files
  told_places_are place [] [] is = refl
  told_places_are place [] (word ∷ words) is = absurd (cc is)
  told_places_are place (file.Opened source ∷ files) [] is = absurd (cc is)
  told_places_are place (file.Opened source ∷ files) (None ∷ words) is = absurd (cc is)
  told_places_are place (file.Opened source ∷ files) (Some word ∷ words) is =
      ap (λ rest. tells source ∷ rest) (told_places_are (place + 1) files words (cc is))
  told_places_are place (file.Absent ∷ files) [] is = absurd (cc is)
  told_places_are place (file.Absent ∷ files) (None ∷ words) is =
      ap (λ rest. nothing_there ∷ rest) (told_places_are (place + 1) files words (cc is))
  told_places_are place (file.Absent ∷ files) (Some word ∷ words) is = absurd (cc is)

  givens_are : (files : List (File S)) → givens_of (map (file_told tells) files) ≡ file_givens given files
  givens_are [] = refl
  givens_are (file.Opened source ∷ files) = ap (λ rest. given source ∷ rest) (givens_are files)
  givens_are (file.Absent ∷ files) = ap (λ rest. [] ∷ rest) (givens_are files)

  -- what they hold
  told_wholes : (place : ℕ) (files : List (File S)) (words : List Named) → file_names name files ≡ words
      → wholes_of (sources_of (told_from place files)) ≡ at_names words (file_wholes whole files)
  told_wholes place [] [] is = refl
  told_wholes place [] (word ∷ words) is = absurd (cc is)
  told_wholes place (file.Opened source ∷ files) [] is = absurd (cc is)
  told_wholes place (file.Opened source ∷ files) (None ∷ words) is = absurd (cc is)
  told_wholes place (file.Opened source ∷ files) (Some word ∷ words) is =
      ap (λ rest. whole source ∷ rest) (told_wholes (place + 1) files words (cc is))
  told_wholes place (file.Absent ∷ files) [] is = absurd (cc is)
  told_wholes place (file.Absent ∷ files) (None ∷ words) is = told_wholes (place + 1) files words (cc is)
  told_wholes place (file.Absent ∷ files) (Some word ∷ words) is = absurd (cc is)

  -- what holds of what stands at each place holds of the source of the file there
  told_by : (P : ℕ → SourceTold → Type 0) (place : ℕ) (files : List (File S))
      → ((k : ℕ) (source : S) → slice_get files k ≡ Some (file.Opened source) → P (place + k) (tells source))
      → AllByRecursion (λ (one : Opened SourceTold). P one.file one.source) (told_from place files)
  told_by P place [] all = tt
  told_by P place (file.Opened source ∷ files) all = (
    subst (λ n. P n (tells source)) (let here : place + 0 ≡ place = omega arith in here) (all 0 source refl),
    told_by P (place + 1) files (λ k source is. subst (λ n. P n (tells source))
        (let next : place + suc k ≡ place + 1 + k = omega arith in next) (all (suc k) source is)),
  )
  told_by P place (file.Absent ∷ files) all =
      told_by P (place + 1) files (λ k source is. subst (λ n. P n (tells source))
      (let next : place + suc k ≡ place + 1 + k = omega arith in next) (all (suc k) source is))

  told_at : (P : ℕ → SourceTold → Type 0) (files : List (File S))
      → ((k : ℕ) (source : S) → slice_get files k ≡ Some (file.Opened source) → P k (tells source))
      → AllByRecursion (λ (one : Opened SourceTold). P one.file one.source) (told_from 0 files)
  told_at P files all = told_by P 0 files (λ k source is. subst (λ n. P n (tells source))
      (let same : k ≡ 0 + k = omega arith in same) (all k source is))

  none_told : (files : List (File S)) → NoneFailed (file_faults faults files)
      → AllByRecursion (λ (one : Opened SourceTold). one.source.faults ≡ 0) (told_from 0 files)
  none_told files none = told_at (λ n source. source.faults ≡ 0) files
      (λ k source is. at_place (λ (n : ℕ). n ≡ 0) (file_faults faults files) k (faults source) none
      (at_map (faults_in faults) files k (file.Opened source) is))

  all_ended : (files : List (File S)) → AllReadToEnd (file_endeds ended files)
      → AllByRecursion (λ (one : Opened SourceTold). one.source.ended ≡ true) (told_from 0 files)
  all_ended files all = told_at (λ n source. source.ended ≡ true) files
      (λ k source is. at_place (λ (b : Bool). b ≡ true) (file_endeds ended files) k (ended source) all
      (at_map (ended_in ended) files k (file.Opened source) is))

  any_faults : (files : List (File S)) → AllByRecursion (HasFaultsBy Memory) (told_from 0 files)
  any_faults files = told_at (λ n source. ⊤) files (λ k source is. tt)

  any_read : (files : List (File S)) → AllByRecursion (WasReadBy Memory) (told_from 0 files)
  any_read files = told_at (λ n source. ⊤) files (λ k source is. tt)

  -- at a name nothing is at its end before it is read
  not_ended : (words : List Named) (k : ℕ) (word : List ℕ) → slice_get words k ≡ Some (Some word)
      → slice_get (endeds_unread words) k ≡ Some false
  not_ended [] k word is = absurd (cc is)
  not_ended (other ∷ words) zero word is = let same : other ≡ Some word = cc is in ap (λ o. Some (is_none o)) same
  not_ended (other ∷ words) (suc k) word is = not_ended words k word is

  not_given : (words : List Named) (k : ℕ) (word : Named) → slice_get words k ≡ Some word
      → slice_get (givens_unread words) k ≡ Some []
  not_given [] k word is = absurd (cc is)
  not_given (other ∷ words) zero word is = refl
  not_given (other ∷ words) (suc k) word is = not_given words k word is

  word_at : (files : List (File S)) (words : List Named) (k : ℕ) (source : S) → file_names name files ≡ words
      → slice_get files k ≡ Some (file.Opened source) → slice_get words k ≡ Some (Some (name source))
  word_at files words k source names is =
      subst (λ ws. slice_get ws k ≡ Some (Some (name source))) names
      (at_map (name_in name) files k (file.Opened source) is)

  read_to : (n : ℕ) (words : List Named) (files : List (File S)) → file_names name files ≡ words
      → AreReadTo n (givens_unread words) (file_givens given files) (endeds_unread words) (file_endeds ended files)
      → AllByRecursion (WasReadTo n) (told_from 0 files)
  read_to n words files names to =
      told_at (λ k source. (k < n → source.ended ≡ true) × (n < k → (source.given ≡ []) × (source.ended ≡ false))) files
      (λ k source is. (
        (λ below. to.front k (ended source) below (at_map (ended_in ended) files k (file.Opened source) is)),
        (λ above.
            let word = word_at files words k source names is in
            let given_is : Some (given source) ≡ Some [] =
            sym (at_map (given_in given) files k (file.Opened source) is) ∙ to.behind k above
            ∙ not_given words k (Some (name source)) word in
            let ended_is : Some (ended source) ≡ Some false =
            sym (at_map (ended_in ended) files k (file.Opened source) is) ∙ to.behind_ended k above
            ∙ not_ended words k (name source) word in
            (cc given_is, cc ended_is)),
      ))

  untouched : (words : List Named) (files : List (File S)) → file_names name files ≡ words
      → AreUnread words (file_givens given files) (file_endeds ended files) → NoneFailed (file_faults faults files)
      → AllByRecursion (λ (one : Opened SourceTold). IsUntouched one.source) (told_from 0 files)
  untouched words files names unread none =
      told_at (λ k source. IsUntouched source) files
      (λ k source is.
      let word = word_at files words k source names is in
      let given_is : Some (given source) ≡ Some [] =
      sym (at_map (given_in given) files k (file.Opened source) is)
      ∙ ap (λ (gs : List (List ℕ)). slice_get gs k) unread.givens_are
      ∙ not_given words k (Some (name source)) word in
      let ended_is : Some (ended source) ≡ Some false =
      sym (at_map (ended_in ended) files k (file.Opened source) is)
      ∙ ap (λ (es : List Bool). slice_get es k) unread.endeds_are
      ∙ not_ended words k (name source) word in
      record {
        given = cc given_is;
        ended = cc ended_is;
        faults = at_place (λ (n : ℕ). n ≡ 0) (file_faults faults files) k (faults source) none
            (at_map (faults_in faults) files k (file.Opened source) is);
      })

  one_told : (n : ℕ) (files : List (File S)) → FailedAt n (file_faults faults files)
      → AllByRecursion (HasFaultsBy (ReadFault n)) (told_from 0 files)
  one_told n files failed =
      told_at (λ k source. (k ≡ n → Rose 0 source.faults) × (k ≢ n → source.faults ≡ 0)) files
      (λ k source is. (
        (λ same.
            let value : Some (faults source) ≡ Some failed.count =
            sym (at_map (faults_in faults) files k (file.Opened source) is)
            ∙ ap (slice_get (file_faults faults files)) same ∙ failed.count_is in
            let count_is : faults source ≡ failed.count = cc value in
            subst (Rose 0) (sym count_is) failed.rose),
        (λ other. failed.others k (faults source) other
            (at_map (faults_in faults) files k (file.Opened source) is)),
      ))

  opened_told_at : (n place k count : ℕ) (files : List (File S)) → slice_get (file_faults faults files) k ≡ Some count
      → Rose 0 count → place + k ≡ n → WasOpened n (told_from place files)
  opened_told_at n place k count [] is rose same = absurd (cc is)
  opened_told_at n place zero count (file.Opened source ∷ files) is rose same =
      (0, record { file = place; source = tells source }, refl, omega (arith, same))
  opened_told_at n place (suc k) count (file.Opened source ∷ files) is rose same =
      let rest = opened_told_at n (place + 1) k count files is rose (omega (arith, same)) in
      (suc rest.0, rest.1, rest.2, rest.3)
  opened_told_at n place zero count (file.Absent ∷ files) is rose same = let none : 0 ≡ count = cc is in
      absurd (omega (arith, none, rose))
  opened_told_at n place (suc k) count (file.Absent ∷ files) is rose same =
      opened_told_at n (place + 1) k count files is rose (omega (arith, same))

  all_opened : (words : List Named) (old mid new : HostTold) (files : List (File S))
      → AllByRecursion GaveFront (sources_of (told_from 0 files))
      → FilesOpened words old mid (file_names name files) (file_wholes whole files) → mid.said ≡ old.said
      → mid.say_faults ≡ old.say_faults → LeavesFiles mid new
      → AllOpened (named_places 0 words) (names_in words) old new (told_from 0 files)
  all_opened words old mid new files fronts opened said says leaves = record {
    between = mid;
    host = record {
      holds = opened.holds;
      opens = opened.opens;
      open_faults = opened.open_faults;
      said = said;
      say_faults = says;
    };
    leaves = leaves;
    of_files = record {
      names_are = told_names 0 files words opened.names_are;
      wholes_are = λ distinct. told_wholes 0 files words opened.names_are
          ∙ ap (at_names words) (opened.wholes_are distinct) ∙ named_hold words old;
      own = subst (HaveTheirOwn old.holds [] (names_in words)) (sym (told_wholes 0 files words opened.names_are))
          opened.own;
      fronts = fronts;
    };
    files = told_places 0 files words opened.names_are;
  }

  was_read : (finding : Finding) (words : List Named) (old mid new : HostTold) (files : List (File S))
      → AllByRecursion GaveFront (sources_of (told_from 0 files))
      → FilesOpened words old mid (file_names name files) (file_wholes whole files) → mid.said ≡ old.said
      → mid.say_faults ≡ old.say_faults → LeavesFiles mid new
      → AllByRecursion (HasFaultsBy finding) (told_from 0 files)
      → AllByRecursion (WasReadBy finding) (told_from 0 files)
      → ComesTo finding (file_givens given files) (told_from 0 files)
      → WasRead finding words old new (told_from 0 files)
  was_read finding words old mid new files fronts opened said says leaves reads gave comes = record {
    opened = all_opened words old mid new files fronts opened said says leaves;
    reads = reads;
    gave = gave;
    comes_to = subst (λ texts. ComesTo finding texts (told_from 0 files))
        (sym (ap givens_of (told_places_are 0 files words opened.names_are) ∙ givens_are files)) comes;
  }

  was_unopened : (n : ℕ) (words : List Named) (old mid new : HostTold) (files : List (File S))
      → AllByRecursion GaveFront (sources_of (told_from 0 files))
      → came.WasUnopened words old mid (file_names name files) (file_wholes whole files) (file_givens given files)
      (file_endeds ended files) n
      → NoneFailed (file_faults faults files) → mid.said ≡ old.said → mid.say_faults ≡ old.say_faults
      → LeavesFiles mid new → OneUnopened n words old new (told_from 0 files)
  was_unopened n words old mid new files fronts was none said says leaves = record {
    between = was.fails.between;
    opened = all_opened (take n words) old was.fails.between was.fails.between files fronts was.fails.opened
        (sym was.fails.fails.said ∙ said) (sym was.fails.fails.say_faults ∙ says)
        (record { holds = λ name. refl; opens = refl; open_faults = λ name. refl });
    unread = sources_all IsUntouched (told_from 0 files)
        (untouched (take n words) files was.fails.opened.names_are was.unread none);
    name = was.fails.name;
    name_is = was.fails.name_is;
    after = mid;
    fails = was.fails.fails;
    leaves = leaves;
  }

  -- the answer of a check of files comes to its finding
  pub is_found : (answer : Result Verdict CheckError) (words : List Named) (old mid new : HostTold)
      (files : List (File S)) → AllByRecursion GaveFront (sources_of (told_from 0 files))
      → IfOk answer (WereJudged words old mid (file_names name files)
      (file_wholes whole files) (file_givens given files) (file_endeds ended files))
      → IfOk answer (λ v. NoneFailed (file_faults faults files))
      → IfErr answer (HasCauseIn words old mid (file_names name files) (file_wholes whole files)
      (file_givens given files) (file_endeds ended files))
      → IfErr answer (λ e. FailedBy e (file_faults faults files)) → mid.said ≡ old.said
      → mid.say_faults ≡ old.say_faults → LeavesFiles mid new
      → WasFound (found_by answer) (Some words) old new (told_from 0 files)
  is_found (Ok verdict) words old mid new files fronts judged none stopped failed said says leaves =
      was_read (Judged verdict) words old mid new files fronts judged.opened said says leaves
      (none_told files none) (all_ended files judged.ended) judged.judged
  is_found (Err (errors.OpenFault n)) words old mid new files fronts judged none stopped failed said says leaves =
      was_unopened n words old mid new files fronts stopped failed said says leaves
  is_found (Err (errors.ReadFault n)) words old mid new files fronts judged none stopped failed said says leaves =
      was_read (ReadFault n) words old mid new files fronts stopped.opened said says leaves (one_told n files failed)
      (read_to n words files stopped.opened.names_are stopped.reads)
      (stopped.stopped, opened_told_at n 0 n failed.count files failed.count_is failed.rose (omega arith))
  is_found (Err (errors.TooLarge n)) words old mid new files fronts judged none stopped failed said says leaves =
      was_read (TooLarge n) words old mid new files fronts stopped.opened said says leaves (none_told files failed)
      (read_to n words files stopped.opened.names_are stopped.reads) stopped.stopped
  is_found (Err (errors.BadLine line)) words old mid new files fronts judged none stopped failed said says leaves =
      was_read (BadLine line) words old mid new files fronts stopped.opened said says leaves (none_told files failed)
      (all_ended files stopped.reads) stopped.stopped
  is_found (Err errors.Memory) words old mid new files fronts judged none stopped failed said says leaves =
      inr (inl (was_read Memory words old mid new files fronts stopped.opened said says leaves (any_faults files)
      (any_read files) tt))

  -- and where memory is wanting to say it, to that
  pub memory_found : (answer : Result Verdict CheckError) (words : List Named) (old mid new : HostTold)
      (files : List (File S)) → AllByRecursion GaveFront (sources_of (told_from 0 files))
      → IfOk answer (WereJudged words old mid (file_names name files)
      (file_wholes whole files) (file_givens given files) (file_endeds ended files))
      → IfErr answer (HasCauseIn words old mid (file_names name files) (file_wholes whole files)
      (file_givens given files) (file_endeds ended files))
      → IfErr answer (λ e. FailedBy e (file_faults faults files)) → mid.said ≡ old.said
      → mid.say_faults ≡ old.say_faults → LeavesFiles mid new
      → WasFound Memory (Some words) old new (told_from 0 files)
  memory_found (Ok verdict) words old mid new files fronts judged stopped failed said says leaves =
      inr (inl (was_read Memory words old mid new files fronts judged.opened said says leaves (any_faults files)
      (any_read files) tt))
  memory_found (Err (errors.OpenFault n)) words old mid new files fronts judged stopped failed said says leaves =
      inr (inr (n, was_unopened n words old mid new files fronts stopped failed said says leaves))
  memory_found (Err (errors.ReadFault n)) words old mid new files fronts judged stopped failed said says leaves =
      inr (inl (was_read Memory words old mid new files fronts stopped.opened said says leaves (any_faults files)
      (any_read files) tt))
  memory_found (Err (errors.TooLarge n)) words old mid new files fronts judged stopped failed said says leaves =
      inr (inl (was_read Memory words old mid new files fronts stopped.opened said says leaves (any_faults files)
      (any_read files) tt))
  memory_found (Err (errors.BadLine line)) words old mid new files fronts judged stopped failed said says leaves =
      inr (inl (was_read Memory words old mid new files fronts stopped.opened said says leaves (any_faults files)
      (any_read files) tt))
  memory_found (Err errors.Memory) words old mid new files fronts judged stopped failed said says leaves =
      inr (inl (was_read Memory words old mid new files fronts stopped.opened said says leaves (any_faults files)
      (any_read files) tt))

there_many : {S : Type 0} (name : S → List ℕ) (files : List (File S)) (words : List Named)
    → file_names name files ≡ words → length files ≡ length words
there_many name files words is = sym (length-map files (name_in name)) ∙ ap length is

-- no more files come back than were named
pub as_many_files : {S : Type 0} (name : S → List ℕ) (answer : Result Verdict CheckError) (words : List Named)
    (old mid : HostTold) (files : List (File S)) (wholes : List (Option (List ℕ))) (givens : List (List ℕ))
    (endeds : List Bool) → IfOk answer (WereJudged words old mid (file_names name files) wholes givens endeds)
    → IfErr answer (HasCauseIn words old mid (file_names name files) wholes givens endeds)
    → length files ≤ length words
as_many_files name (Ok verdict) words old mid files wholes givens endeds judged stopped =
    omega (arith, there_many name files words judged.opened.names_are)
as_many_files name (Err (errors.OpenFault n)) words old mid files wholes givens endeds judged stopped =
    omega (arith, there_many name files (take n words) stopped.fails.opened.names_are, length-take n words)
as_many_files name (Err (errors.ReadFault n)) words old mid files wholes givens endeds judged stopped =
    omega (arith, there_many name files words stopped.opened.names_are)
as_many_files name (Err (errors.TooLarge n)) words old mid files wholes givens endeds judged stopped =
    omega (arith, there_many name files words stopped.opened.names_are)
as_many_files name (Err (errors.BadLine line)) words old mid files wholes givens endeds judged stopped =
    omega (arith, there_many name files words stopped.opened.names_are)
as_many_files name (Err errors.Memory) words old mid files wholes givens endeds judged stopped =
    omega (arith, there_many name files words stopped.opened.names_are)

-- no more sources than files
pub few_opened : {S : Type 0} (place : ℕ) (files : List (File S)) → length (opened_from place files) ≤ length files
few_opened place [] = omega arith
few_opened place (file.Opened source ∷ files) = omega (arith, few_opened (place + 1) files)
few_opened place (file.Absent ∷ files) = omega (arith, few_opened (place + 1) files)

-- one file more
pub opened_more : {S : Type 0} (place n : ℕ) (files : List (File S)) (one : File S) → n ≡ place + length files
    → opened_from place (files ++ one ∷ []) ≡ opened_from place files ++ opened_from n (one ∷ [])
opened_more place n [] one is = let same : n ≡ place = omega (arith, is) in ap (λ k. opened_from k (one ∷ []))
    (sym same)
opened_more place n (file.Opened source ∷ files) one is = ap (λ rest. record { file = place; source = source } ∷ rest)
    (opened_more (place + 1) n files one (omega (arith, is)))
opened_more place n (file.Absent ∷ files) one is = opened_more (place + 1) n files one (omega (arith, is))
