-- Why nothing was served, and what a run that served nothing has done.
use Rattle.std.specs.Prelude.{◌≡◌, ℕ, ◌<◌, List, [], None, codes, ⊤}
use Rattle.flake_model.specs.Said.{said_line}
use Rattle.serve_inputs.specs.Dumped.{no_dump}
use Rattle.flake_run.specs.Outside.{Outside, LeavesFiles}
use Rattle.flake_run.specs.Outcome.{RunOutcome, none_held}
use Rattle.flake_run.specs.Said.{PrintsStatus, unopened_text}
use Rattle.flake_run.specs.declared.outcome.Detail.{Detail}
use Rattle.flake_run.specs.declared.outcome.Detail.TheVariants.{Nothing, File}
use Rattle.flake_run.specs.declared.outcome.Refusal.{Refusal}
use Rattle.flake_run.specs.declared.outcome.Refusal.TheVariants.{BadWords, OpenFault, Memory}

-- there are at most 16 files
abbrev pub IsNumbered : Refusal → Type 0
IsNumbered (OpenFault file) = file < 16
IsNumbered refusal = ⊤

abbrev pub status_of : Refusal → ℕ
status_of BadWords = 1
status_of (OpenFault file) = 2
status_of Memory = 6

-- the file's number, where the fault is a file's
abbrev pub detail_of : Refusal → Detail
detail_of BadWords = Nothing
detail_of (OpenFault file) = File file
detail_of Memory = Nothing

abbrev pub refusal_text : Refusal → List ℕ
refusal_text BadWords = said_line (codes "bad words")
refusal_text (OpenFault file) = unopened_text (File file)
refusal_text Memory = said_line (codes "out of memory")

-- it is said why, and all else is as it was
pub record RunRefused {W : Type 0} (refusal : Refusal) (before after : Outside W) (done : RunOutcome) : Type 0 where
  pub status : done.status ≡ status_of refusal
  pub detail : done.detail ≡ detail_of refusal
  pub ends : done.ends ≡ []
  pub journal : done.journal ≡ []
  pub held : done.held ≡ none_held
  pub pool : done.pool ≡ None
  pub dump : done.dump ≡ no_dump
  pub sources : done.sources ≡ []
  pub wires : after.wires ≡ before.wires
  pub said : PrintsStatus (refusal_text refusal) before.host after.host
  pub files : LeavesFiles before.host after.host
