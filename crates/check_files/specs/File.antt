-- A file that was opened, or none.
use Rattle.std.specs.Prelude.{ℕ, Bool, true, List, [], Option, Some, None, map}
use Rattle.check_files.specs.Named.{Named}
use Rattle.check_files.specs.declared.file.File.{File}
use Rattle.check_files.specs.declared.file.File.TheVariants.{Opened, Absent}

-- the name under which a file was opened
abbrev pub name_in : {S : Type 0} → (S → List ℕ) → File S → Named
name_in name (Opened source) = Some (name source)
name_in name Absent = None

-- a file that isn't there holds no bytes
abbrev pub whole_in : {S : Type 0} → (S → Option (List ℕ)) → File S → Option (List ℕ)
whole_in whole (Opened source) = whole source
whole_in whole Absent = Some []

-- it gives none
abbrev pub given_in : {S : Type 0} → (S → List ℕ) → File S → List ℕ
given_in given (Opened source) = given source
given_in given Absent = []

-- it is at its end
abbrev pub ended_in : {S : Type 0} → (S → Bool) → File S → Bool
ended_in ended (Opened source) = ended source
ended_in ended Absent = true

-- and no read of it fails
abbrev pub faults_in : {S : Type 0} → (S → ℕ) → File S → ℕ
faults_in faults (Opened source) = faults source
faults_in faults Absent = 0

-- the same of each file
abbrev pub file_names : {S : Type 0} → (S → List ℕ) → List (File S) → List Named
file_names name files = map (λ file. name_in name file) files

abbrev pub file_wholes : {S : Type 0} → (S → Option (List ℕ)) → List (File S) → List (Option (List ℕ))
file_wholes whole files = map (λ file. whole_in whole file) files

abbrev pub file_givens : {S : Type 0} → (S → List ℕ) → List (File S) → List (List ℕ)
file_givens given files = map (λ file. given_in given file) files

abbrev pub file_endeds : {S : Type 0} → (S → Bool) → List (File S) → List Bool
file_endeds ended files = map (λ file. ended_in ended file) files

abbrev pub file_faults : {S : Type 0} → (S → ℕ) → List (File S) → List ℕ
file_faults faults files = map (λ file. faults_in faults file) files
