-- The files of a check that were opened, with their numbers.
use Rattle.std.specs.Prelude.{ℕ, ◌+◌, true, List, [], ◌∷◌, Some, None}
use Rattle.check_files.specs.Named.{Named}
use Rattle.check_files.specs.declared.file.File.{File}
use Rattle.check_files.specs.declared.file.File.TheVariants as file
use Rattle.flake_run.specs.declared.outcome.Opened.{Opened}
use Rattle.flake_run.specs.Outcome.{SourceTold}

-- the sources of the files that are there, with their numbers
abbrev pub opened_from : {S : Type 0} → ℕ → List (File S) → List (Opened S)
opened_from place [] = []
opened_from place (file.Opened source ∷ files) =
    record { file = place; source = source } ∷ opened_from (place + 1) files
opened_from place (file.Absent ∷ files) = opened_from (place + 1) files

-- the numbers of the files that have names
abbrev pub named_places : ℕ → List Named → List ℕ
named_places place [] = []
named_places place (None ∷ words) = named_places (place + 1) words
named_places place (Some name ∷ words) = place ∷ named_places (place + 1) words

-- where no file stands there are no bytes, and they are at their end
abbrev pub nothing_there : SourceTold
nothing_there = record { name = []; whole = Some []; given = []; ended = true; faults = 0 }

-- what stands at each place, by the sources of the files that have names
abbrev pub at_places : List Named → List SourceTold → List SourceTold
at_places [] sources = []
at_places (None ∷ words) sources = nothing_there ∷ at_places words sources
at_places (Some name ∷ words) [] = nothing_there ∷ at_places words []
at_places (Some name ∷ words) (source ∷ sources) = source ∷ at_places words sources
