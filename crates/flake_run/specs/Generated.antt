-- What a run of generated requests does, and what it says.
use Rattle.std.specs.Prelude.{◌≡◌, ◌≢◌, ◌⊎◌, ◌≤◌, ◌<◌, ℕ, Bool, List, [], ◌∷◌, Option, Some, None, codes, ⊤}
use Rattle.std.specs.Prelude.{length, map}
use Rattle.std.specs.Prelude.{drop, take, All, IfSome, IsSomeAnd}
use Rattle.std.specs.List.{AllByRecursion}
use Rattle.view_sums.specs.Total.{total}
use Rattle.flake_base.specs.Causes.{Rose}
use Rattle.flake_base.specs.Told.{WireTold}
use Rattle.flake_base.specs.declared.journal.Entry.{Entry}
use Rattle.flake_base.specs.declared.session.End.TheVariants.{Clean, Memory}
use Rattle.flake_base.specs.declared.session.SessionEnd.{SessionEnd}
use Rattle.flake_model.specs.Run.{WasServed, all_commands, missing_writes, wire_texts}
use Rattle.flake_model.specs.Said.{said_line}
use Rattle.flake_model.specs.Wire.{FaultsAre, KeptAre, WiresGrew}
use Rattle.pinned_pool.specs.Ends.{End}
use Rattle.any_wire.specs.Texts.{AreWhole, WireGrew, joined}
use Rattle.report_text.specs.Report.{total_line}
use Rattle.serve_model.specs.Replies.{all_replies}
use Rattle.serve_model.specs.Shown.{IsCounted}
use Rattle.serve_inputs.specs.Whole.{raised}
use Rattle.run_resources.specs.Opened.{pool_sizes}
use Rattle.any_wire.specs.Sent.{WasSentByPuts}
use Rattle.command_line.specs.declared.generate_task.GenTask.{GenTask}
use Rattle.serve_generated.specs.Generated.{AreFronts, HadMemory, IsTooMuch, commands_in_all, inputs_of}
use Rattle.serve_generated.specs.Generated.{generated_sizes}
use Rattle.flake_run.specs.Causes.{SomeWireFailed, status_by, highest_by}
use Rattle.flake_run.specs.Outside.{Outside, LeavesFiles, wires_told, put_on, kept_by, wire_faults}
use Rattle.flake_run.specs.Outcome.{RunOutcome, none_held, ways}
use Rattle.flake_run.specs.Said.{PrintsStatus}
use Rattle.flake_run.specs.Serving.{IsServedRun}
use Rattle.flake_run.specs.declared.outcome.Detail.TheVariants.{Nothing}

-- all replies, and their bytes
abbrev pub replies_in : List SessionEnd → ℕ
replies_in ends = total (λ (end : SessionEnd). end.replies) ends

abbrev pub sum_of : List ℕ → ℕ
sum_of counts = total (λ (count : ℕ). count) counts

-- the bytes of the first so many of some texts
abbrev pub texts_length : ℕ → List (List ℕ) → ℕ
texts_length count texts = length (joined (take count texts))

-- So many of a session's replies were put whole: all of them where its wire didn't fail; and where it did, a front of
-- the next one behind them, if there is one. They have so many bytes.
pub record SentInWhole (replies : Bool × List (List ℕ)) (bytes : ℕ) (old new : WireTold) : Type 0 where
  pub whole : ℕ
  pub are_whole : AreWhole replies.0 whole (length replies.1)
  pub grew : WireGrew WasSentByPuts replies.0 whole replies.1 old new
  pub bytes_are : bytes ≡ texts_length whole replies.1

-- so it is of each session, and wires past them are as they were
abbrev pub AllInWhole : List (Bool × List (List ℕ)) → List ℕ → List WireTold → List WireTold → Type 0
AllInWhole [] counts olds news = (counts ≡ []) × (news ≡ olds)
AllInWhole (replies ∷ more) [] olds news = ⊥
AllInWhole (replies ∷ more) (count ∷ counts) [] news = ⊥
AllInWhole (replies ∷ more) (count ∷ counts) (old ∷ olds) [] = ⊥
AllInWhole (replies ∷ more) (count ∷ counts) (old ∷ olds) (new ∷ news) =
    SentInWhole replies count old new × AllInWhole more counts olds news

-- The generated inputs were served, and so many bytes of each were put in whole replies, as a `u64` shows it.
pub record IsGeneratedRun {W : Type 0} (task : GenTask) (givens : List (List ℕ)) (endeds : List Bool)
    (ends : List SessionEnd) (shown : List ℕ) (journal : List (List Entry)) (pool : End) (olds news : List W)
    (told : W → WireTold) : Type 0 where
  pub gave : AreFronts (inputs_of task) givens endeds
  pub run : IsServedRun (pool_sizes task.sessions (generated_sizes task)) (generated_sizes task).threshold givens
      endeds ends journal pool olds news told
  pub ways : AllByRecursion (λ end. (end.end ≡ Clean) ⊎ (end.end ≡ Memory)) ends
  pub commands : HadMemory ends → all_commands run.run.sessions ≡ commands_in_all task
  pub none_missing : HadMemory ends → missing_writes run.run.sessions journal ≡ 0
  pub counts : List ℕ
  pub wholes : AllInWhole (all_replies run.run.sessions journal) counts (map told olds) (map told news)
  pub sums : raised 0 (sum_of shown) ≡ raised 0 (sum_of counts)

-- What a run says of generated requests that it served.
pub record ServedRequests {W : Type 0} (task : GenTask) (before after : Outside W) (done : RunOutcome) : Type 0 where
  -- what the sessions' sources gave: fronts of the generated inputs, and all of one where its source gave none at last
  pub givens : List (List ℕ)
  pub endeds : List Bool
  pub gave : AreFronts (inputs_of task) givens endeds
  -- the journal has the parts of these requests that were run, in one history
  pub run : WasServed givens endeds done.ends done.journal
  -- what was put on a wire grew by the texts of its session's replies, which the journal gives; or by a front of them,
  -- where it failed
  pub wires : WiresGrew (wire_texts run.sessions done.journal) (put_on before) (put_on after)
  -- what the closed pool shows by the journal: it had as many buffers as the commands may claim
  pub pool : End
  pub pool_is : done.pool ≡ Some pool
  pub shows : IsCounted (pool_sizes task.sessions (generated_sizes task)) (generated_sizes task).threshold run.sessions
      done.journal pool
  pub held : (done.held.small ≡ pool.small) × (done.held.large ≡ pool.large)
  -- each session ended clean, but for want of memory
  pub ways : AllByRecursion (λ end. (end.end ≡ Clean) ⊎ (end.end ≡ Memory)) done.ends
  -- without that their commands are those that were generated, and each write found its buffers
  pub commands : HadMemory done.ends → all_commands run.sessions ≡ commands_in_all task
  pub none_missing : HadMemory done.ends → missing_writes run.sessions done.journal ≡ 0
  -- a wire that didn't fail keeps none of them back
  pub flushed : KeptAre (map (λ end. end.failed) done.ends) (kept_by before) (kept_by after)
  -- a session failed where its wire's count of faults rose, and else that count is as it was
  pub faults : FaultsAre (map (λ end. end.failed) done.ends) (wire_faults before) (wire_faults after)
  -- the wires past the sessions are as handed in
  pub others : drop (length done.ends) after.wires ≡ drop (length done.ends) before.wires
  pub sessions : length done.ends ≡ task.sessions
  pub shards : length done.journal ≡ 8
  -- so many bytes of each session were put in whole replies
  pub counts : List ℕ
  pub wholes : AllInWhole (all_replies run.sessions done.journal) counts (wires_told before) (wires_told after)
  -- and that is said: all replies, all these bytes, and what is held
  pub said : PrintsStatus (total_line (replies_in done.ends) (raised 0 (sum_of counts)) done.held)
      before.host after.host

-- there is no task, or not a wire for each session, or no pool can have as many buffers as it needs
abbrev pub IsUngenerated : {W : Type 0} → Option GenTask → Outside W → Type 0
IsUngenerated None before = ⊤
IsUngenerated (Some task) before = (length before.wires < task.sessions) ⊎ IsTooMuch task

-- No file is opened for generated requests, whatever comes of them.
pub record Generated {W : Type 0} (task : Option GenTask) (before after : Outside W) (done : RunOutcome) : Type 0 where
  pub statuses : (done.status ≡ 0) ⊎ (done.status ≡ 1) ⊎ (done.status ≡ 5) ⊎ (done.status ≡ 6)
  -- the headline, where something was served: that was a task, with its wires, for which a pool can be large enough
  pub served : done.ends ≢ []
      → (IsUngenerated task before → ⊥) × IsSomeAnd task (λ task. ServedRequests task before after done)
  -- which is so with 0 and 5
  pub some : (done.status ≡ 0) ⊎ (done.status ≡ 5) → done.ends ≢ []
  -- the status is the highest by the ends, where nothing else failed
  pub by_end : done.ends ≢ [] → done.status ≢ 5 → done.status ≢ 6 → done.status ≡ highest_by (ways done.ends)
  -- where nothing was, the wires are as handed in, and there is no history and no pool
  pub wires : done.ends ≡ [] → after.wires ≡ before.wires
  pub journal : done.ends ≡ [] → done.journal ≡ []
  pub pool : done.ends ≡ [] → (done.pool ≡ None) × (done.held ≡ none_held)
  -- no file is opened, and no source comes back
  pub files : LeavesFiles before.host after.host
  pub sources : done.sources ≡ []
  pub detail : done.detail ≡ Nothing
  -- 1 comes where the words are bad words, there are fewer wires than sessions or no pool can be large enough
  pub bad_words : done.status ≡ 1 → IsUngenerated task before
  pub nothing : done.status ≡ 1 → done.ends ≡ []
  -- and there nothing else comes, but that memory was wanting
  pub refused : done.status ≢ 6 → IsUngenerated task before → done.status ≡ 1
  -- 5 only where a put, a flush or a say failed, and memory was not wanting
  pub write_fault : done.status ≡ 5 → All (λ way. status_by way ≢ 6) (ways done.ends)
      × (Rose before.host.say_faults after.host.say_faults ⊎ SomeWireFailed (length done.ends) before after)
  -- and with 0 none did
  pub written : done.status ≡ 0
      → (after.host.say_faults ≡ before.host.say_faults) × (wire_faults after ≡ wire_faults before)
  -- so it is 0 where nothing is wanting and nothing fails
  pub whole : IfSome task (λ task. task.sessions ≤ length before.wires → (IsTooMuch task → ⊥) → done.status ≢ 6
      → (Rose before.host.say_faults after.host.say_faults → ⊥) → (SomeWireFailed task.sessions before after → ⊥)
      → done.status ≡ 0)
  -- what is said where the words are bad words; of what was served `served` says it
  pub said : done.status ≡ 1 → PrintsStatus (said_line (codes "bad words")) before.host after.host
  -- and where memory was wanting before anything was served
  pub no_memory : done.status ≡ 6 → done.ends ≡ [] → PrintsStatus (said_line (codes "out of memory")) before.host
      after.host
