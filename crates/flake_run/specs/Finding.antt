-- What files come to, and what is answered and said of it.
use Rattle.std.specs.Prelude.{ℕ, ◌++◌, List, Option, Some, None, Result, Ok, Err, codes}
use Rattle.std.specs.Fmt.{decimal}
use Rattle.flake_model.specs.Said.{said_line}
use Rattle.check_files.specs.declared.error.CheckError.{CheckError}
use Rattle.check_files.specs.declared.error.CheckError.TheVariants as errors
use Rattle.replay_check.specs.declared.verdict.Verdict.{Verdict}
use Rattle.replay_check.specs.declared.verdict.Verdict.TheVariants.{Same, Differs, BadJournal}
use Rattle.flake_run.specs.declared.outcome.Detail.{Detail}
use Rattle.flake_run.specs.declared.outcome.Detail.TheVariants as detail
use Rattle.flake_run.specs.declared.finding.Finding.{Finding}
use Rattle.flake_run.specs.declared.finding.Finding.TheVariants.{BadWords, OpenFault, ReadFault, TooLarge, BadLine}
use Rattle.flake_run.specs.declared.finding.Finding.TheVariants.{Judged, BadFrame, Missing, Memory}

abbrev pub stopped_by : CheckError → Finding
stopped_by (errors.OpenFault file) = OpenFault file
stopped_by (errors.ReadFault file) = ReadFault file
stopped_by (errors.TooLarge file) = TooLarge file
stopped_by (errors.BadLine line) = BadLine line
stopped_by errors.Memory = Memory

abbrev pub found_by : Result Verdict CheckError → Finding
found_by (Ok verdict) = Judged verdict
found_by (Err error) = stopped_by error

abbrev pub verdict_status : Verdict → ℕ
verdict_status Same = 0
verdict_status (Differs session place expected found) = 8
verdict_status (BadJournal shard place) = 8

-- the status, where saying it does not fail
abbrev pub finding_status : Finding → ℕ
finding_status BadWords = 1
finding_status (OpenFault file) = 2
finding_status (ReadFault file) = 4
finding_status (TooLarge file) = 9
finding_status (BadLine line) = 7
finding_status (Judged verdict) = verdict_status verdict
finding_status (BadFrame number) = 7
finding_status (Missing call frame) = 8
finding_status Memory = 6

-- the status, where saying it fails
abbrev pub status_unsaid : Finding → ℕ
status_unsaid (Judged Same) = 5
status_unsaid finding = finding_status finding

abbrev pub verdict_detail : Verdict → Detail
verdict_detail Same = detail.Nothing
verdict_detail (Differs session place expected found) = detail.Differs session place expected found
verdict_detail (BadJournal shard place) = detail.Journal shard place

abbrev pub finding_detail : Finding → Detail
finding_detail BadWords = detail.Nothing
finding_detail (OpenFault file) = detail.File file
finding_detail (ReadFault file) = detail.File file
finding_detail (TooLarge file) = detail.File file
finding_detail (BadLine line) = detail.Line line
finding_detail (Judged verdict) = verdict_detail verdict
finding_detail (BadFrame number) = detail.Frame number
finding_detail (Missing call frame) = detail.Missing call frame
finding_detail Memory = detail.Nothing

abbrev pub byte_text : Option ℕ → List ℕ
byte_text (Some byte) = decimal byte
byte_text None = codes "end"

abbrev pub verdict_text : Verdict → List ℕ
verdict_text Same = said_line (codes "same")
verdict_text (Differs session place expected found) =
    said_line (codes "differs session " ++ decimal session ++ codes " place " ++ decimal place
    ++ codes " expected " ++ byte_text expected ++ codes " found " ++ byte_text found)
verdict_text (BadJournal shard place) =
    said_line (codes "bad journal shard " ++ decimal shard ++ codes " place " ++ decimal place)

abbrev pub finding_text : Finding → List ℕ
finding_text BadWords = said_line (codes "bad words")
finding_text (OpenFault file) = said_line (codes "cannot open " ++ decimal file)
finding_text (ReadFault file) = said_line (codes "read fault " ++ decimal file)
finding_text (TooLarge file) = said_line (codes "too large " ++ decimal file)
finding_text (BadLine line) = said_line (codes "bad line " ++ decimal line)
finding_text (Judged verdict) = verdict_text verdict
finding_text (BadFrame number) = said_line (codes "bad frame " ++ decimal number)
finding_text (Missing call frame) =
    said_line (codes "missing call " ++ decimal call ++ codes " frame " ++ decimal frame)
finding_text Memory = said_line (codes "out of memory")
