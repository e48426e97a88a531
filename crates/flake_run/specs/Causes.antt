-- When a run answers what.
use Rattle.std.specs.Prelude.{◌≡◌, ◌≢◌, ◌⊎◌, ◌≤◌, ◌<◌, ◌∷◌, [], ℕ, List, length, max, slice_get, slice_index_or}
use Rattle.std.specs.Prelude.{All, IsNone, IfSome, IsSomeAnd, None, true}
use Rattle.std.specs.List.{range_with_len}
use Rattle.flake_base.specs.Causes.{Rose}
use Rattle.flake_base.specs.Told.{HostTold}
use Rattle.flake_base.specs.declared.session.End.{End}
use Rattle.flake_base.specs.declared.session.End.TheVariants.{Clean, Protocol, Truncated, TooLong, ReadFault, Memory}
use Rattle.flake_base.specs.declared.session.End.TheVariants.{Left}
use Rattle.command_pump.specs.Pump.{EndFaults}
use Rattle.flake_run.specs.Dumping.{puts_failed}
use Rattle.flake_run.specs.Task.{RunTask, dump_of, names_of, wires_needed}
use Rattle.flake_run.specs.Outside.{Outside, wire_faults}
use Rattle.flake_run.specs.Outcome.{RunOutcome, ways, files_of, sources_of, read_faults_of}
use Rattle.flake_run.specs.declared.outcome.Detail.{Detail}
use Rattle.flake_run.specs.declared.outcome.Detail.TheVariants.{Nothing, File}

-- the status of a session that ended so, where nothing else failed
abbrev pub status_by : End → ℕ
status_by Clean = 0
status_by (Protocol kind place) = 3
status_by (Truncated place) = 3
status_by TooLong = 3
status_by ReadFault = 4
status_by Memory = 6
status_by Left = 0

-- the status of sessions that ended so: the highest
abbrev pub highest_by : List End → ℕ
highest_by [] = 0
highest_by (way ∷ ways) = max (status_by way) (highest_by ways)

-- each session's source has the count of faults of its end, from 0
abbrev pub AreCountsOf : List End → List ℕ → Type 0
AreCountsOf [] counts = counts ≡ []
AreCountsOf (end ∷ ends) [] = ⊥
AreCountsOf (end ∷ ends) (count ∷ counts) = EndFaults end 0 count × AreCountsOf ends counts

-- the count of puts that failed rose, or that of flushes
abbrev pub EitherRose : ℕ × ℕ → ℕ × ℕ → Type 0
EitherRose old new = Rose old.0 new.0 ⊎ Rose old.1 new.1

-- so it did on one of so many first wires
abbrev pub SomeWireFailed : {W : Type 0} → ℕ → Outside W → Outside W → Type 0
SomeWireFailed sessions before after = (session : ℕ) × (session < sessions)
    × EitherRose (slice_index_or (wire_faults before) session (0, 0))
    (slice_index_or (wire_faults after) session (0, 0))

-- the open of the file that is named failed
abbrev pub OpenFailed : List (List ℕ) → Detail → HostTold → HostTold → Type 0
OpenFailed names (File file) old new =
    IsSomeAnd (slice_get names file) (λ name. Rose (old.open_faults name) (new.open_faults name))
OpenFailed names detail old new = ⊥

-- there is no task, or not a wire for each file and the dump
abbrev pub IsRefusable : {W : Type 0} → RunTask → Outside W → Type 0
IsRefusable task before = IsNone task ⊎ (length before.wires < wires_needed task)

pub record Causes {W : Type 0} (task : RunTask) (before after : Outside W) (done : RunOutcome) : Type 0 where
  pub statuses : (done.status ≡ 0) ⊎ (done.status ≡ 1) ⊎ (done.status ≡ 2) ⊎ (done.status ≡ 3)
      ⊎ (done.status ≡ 4) ⊎ (done.status ≡ 5) ⊎ (done.status ≡ 6)
  -- where the words are accepted, the files were opened and memory was not wanting, each session has its end
  pub served : (done.status ≡ 0) ⊎ (done.status ≡ 3) ⊎ (done.status ≡ 4) ⊎ (done.status ≡ 5)
      → (done.ends ≢ []) × (length done.ends ≡ length (names_of task))
  -- and no other has, or none has
  pub sessions : (done.ends ≡ []) ⊎ (length done.ends ≡ length (names_of task))
  -- the status is the highest by the ends, where nothing else failed
  pub by_end : done.ends ≢ [] → done.status ≢ 5 → done.status ≢ 6 → done.status ≡ highest_by (ways done.ends)
  -- 1 comes where the words are bad words or there are fewer wires than files, and one for the dump
  pub bad_words : done.status ≡ 1 → IsRefusable task before
  -- and there nothing else comes, but that memory was wanting
  pub refused : done.status ≢ 6 → IsRefusable task before → done.status ≡ 1
  -- 2 only where an open of the file that the detail names failed
  pub open_fault : done.status ≡ 2 → IfSome task (λ job. OpenFailed job.names done.detail before.host after.host)
  -- and with every other status but 6 none did
  pub opened : done.status ≢ 2 → done.status ≢ 6
      → (name : List ℕ) → after.host.open_faults name ≡ before.host.open_faults name
  -- a read failed exactly where the end says so
  pub reads : done.ends ≢ [] → AreCountsOf (ways done.ends) (read_faults_of (sources_of done.sources))
  -- 5 only where a put, a flush or a say failed, and memory was not wanting
  pub write_fault : done.status ≡ 5 → All (λ way. status_by way ≢ 6) (ways done.ends)
      × (Rose before.host.say_faults after.host.say_faults
      ⊎ SomeWireFailed (length (puts_failed done.ends done.dump)) before after)
  -- unless memory was wanting, a dump that was asked for was taken
  pub dump : done.status ≢ 6 → done.ends ≢ [] → dump_of task ≢ None → done.dump.taken ≡ true
  -- and with 0, 3 and 4 none did
  pub written : (done.status ≡ 0) ⊎ (done.status ≡ 3) ⊎ (done.status ≡ 4)
      → (after.host.say_faults ≡ before.host.say_faults) × (wire_faults after ≡ wire_faults before)
  -- the detail names the file that did not open, the one behind those that did
  pub detail : done.status ≡ 2 → done.detail ≡ File (length done.sources)
  pub no_detail : done.status ≢ 2 → done.detail ≡ Nothing
  -- at most as many sources were opened as there are files, each in its order
  pub sources : length done.sources ≤ length (names_of task)
  pub in_order : files_of done.sources ≡ range_with_len 0 (length done.sources)
