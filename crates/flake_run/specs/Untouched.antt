-- What a run leaves as it was.
use Rattle.std.specs.Prelude.{◌≡◌, ◌⊎◌, ℕ, suc, ◌==◌, if◌then◌else◌, List, [], None, length, take}
use Rattle.std.specs.List.{AllByRecursion}
use Rattle.check_files.specs.Named.{AreOther, counted_times}
use Rattle.serve_inputs.specs.Dumped.{no_dump}
use Rattle.flake_run.specs.Opening.{AreOfFiles}
use Rattle.flake_run.specs.Task.{RunTask, names_of}
use Rattle.flake_run.specs.Outside.{Outside}
use Rattle.flake_run.specs.Outcome.{RunOutcome, IsUntouched, none_held, sources_of}

-- the files that were opened
abbrev pub opened_of : RunTask → RunOutcome → List (List ℕ)
opened_of task done = take (length done.sources) (names_of task)

-- how often an open was called: once for each of them, and where one failed for that too
abbrev pub opens_of : RunOutcome → ℕ
opens_of done = if done.status == 2 then suc (length done.sources) else length done.sources

pub record Untouched {W : Type 0} (task : RunTask) (before after : Outside W) (done : RunOutcome) : Type 0 where
  -- where nothing was served the wires are as handed in
  pub wires : done.ends ≡ [] → after.wires ≡ before.wires
  -- and there is no history
  pub journal : done.ends ≡ [] → done.journal ≡ []
  -- and no pool, of which anything is held
  pub pool : done.ends ≡ [] → (done.pool ≡ None) × (done.held ≡ none_held)
  -- and no dump
  pub dump : done.ends ≡ [] → done.dump ≡ no_dump
  -- and nothing was read of a source that comes back
  pub unread : done.ends ≡ [] → AllByRecursion IsUntouched (sources_of done.sources)
  -- whatever the status, those that come back are the sources of the first files
  pub of_files : AreOfFiles (opened_of task done) before.host.holds (sources_of done.sources)
  -- bad words and a file that doesn't open serve nothing
  pub refused : (done.status ≡ 1) ⊎ (done.status ≡ 2) → done.ends ≡ []
  -- no source comes of bad words
  pub sources : done.status ≡ 1 → done.sources ≡ []
  -- and the host holds every name as before
  pub holds : done.status ≡ 1 → (name : List ℕ) → after.host.holds name ≡ before.host.holds name
  -- whatever the status, it holds the names of files that weren't opened as before
  pub other_files : (name : List ℕ) → AreOther name (opened_of task done)
      → after.host.holds name ≡ before.host.holds name
  -- no file is opened for bad words
  pub unopened : done.status ≡ 1 → after.host.opens ≡ before.host.opens
  -- nor any behind one that doesn't open, nor any a second time
  pub opens : after.host.opens ≡ counted_times (opens_of done) before.host.opens
