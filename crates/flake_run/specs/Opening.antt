-- What opens of files in their order do, until one fails.
use Rattle.std.specs.Prelude.{◌≡◌, ℕ, List, [], Option, Some, length, map, take, slice_get}
use Rattle.std.specs.List.{AllByRecursion}
use Rattle.flake_base.specs.Calls.{counted}
use Rattle.flake_base.specs.Causes.{Rose}
use Rattle.flake_base.specs.Told.{HostTold}
use Rattle.check_files.specs.Named.{AreDistinct, AreOther, HaveTheirOwn, counted_times}
use Rattle.flake_run.specs.Outcome.{SourceTold, IsUntouched, GaveFront, files_of, sources_of, source_names, wholes_of}
use Rattle.flake_run.specs.Outside.{LeavesFiles}
use Rattle.flake_run.specs.declared.outcome.Opened.{Opened}

-- These are the sources of the files of these names, and of no others.
pub record AreOfFiles (names : List (List ℕ)) (holds : List ℕ → Option (List ℕ)) (sources : List SourceTold) : Type 0
  where
    -- each was opened under the name of its file
    pub names_are : source_names sources ≡ names
    -- what it holds was held under the name, where no name stands twice; else so it is of each that stands under its
    -- name first
    pub wholes_are : AreDistinct names → wholes_of sources ≡ map holds names
    pub own : HaveTheirOwn holds [] names (wholes_of sources)
    -- and what it gave is a front of that
    pub fronts : AllByRecursion GaveFront sources

-- files of these names were opened, each once, and no other
pub record HaveOpened (names : List (List ℕ)) (old new : HostTold) : Type 0 where
  pub holds : (other : List ℕ) → AreOther other names → new.holds other ≡ old.holds other
  pub opens : new.opens ≡ counted_times (length names) old.opens
  pub open_faults : (name : List ℕ) → new.open_faults name ≡ old.open_faults name
  pub said : new.said ≡ old.said
  pub say_faults : new.say_faults ≡ old.say_faults

-- so each file was, and nothing was read of the sources
pub record AreOpened (names : List (List ℕ)) (old new : HostTold) (sources : List SourceTold) : Type 0 where
  pub of_files : AreOfFiles names old.holds sources
  pub unread : AllByRecursion IsUntouched sources
  pub host : HaveOpened names old new

-- so all files were by then, and each source comes back; these are the files' places
pub record AllOpened (places : List ℕ) (names : List (List ℕ)) (old new : HostTold) (sources : List (Opened SourceTold))
    : Type 0 where
  pub between : HostTold
  pub host : HaveOpened names old between
  pub leaves : LeavesFiles between new
  pub of_files : AreOfFiles names old.holds (sources_of sources)
  pub files : files_of sources ≡ places

-- the open of this name failed, and left all but the counts as it was
pub record IsUnopened (name : List ℕ) (old new : HostTold) : Type 0 where
  pub holds : (other : List ℕ) → new.holds other ≡ old.holds other
  pub opens : new.opens ≡ counted old.opens
  pub rose : Rose (old.open_faults name) (new.open_faults name)
  pub said : new.said ≡ old.said
  pub say_faults : new.say_faults ≡ old.say_faults

-- the files in front were opened, and the open of the next one failed
pub record FailsToOpen (names : List (List ℕ)) (old new : HostTold) (sources : List SourceTold) : Type 0 where
  pub between : HostTold
  pub opened : AreOpened (take (length sources) names) old between sources
  pub name : List ℕ
  pub name_is : slice_get names (length sources) ≡ Some name
  pub unopened : IsUnopened name between new
