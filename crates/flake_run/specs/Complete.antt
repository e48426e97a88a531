-- Nothing is refused without a cause.
use Rattle.std.specs.Prelude.{◌≡◌, ◌≢◌, ◌≤◌, ℕ, List, length, All, IfSome, IsSomeAnd}
use Rattle.std.specs.List.{AllByRecursion}
use Rattle.flake_base.specs.Causes.{Rose}
use Rattle.flake_base.specs.declared.session.End.TheVariants.{Clean}
use Rattle.flake_model.specs.Resp.{Words, Parses}
use Rattle.check_files.specs.Named.{AreDistinct}
use Rattle.flake_run.specs.Task.{RunTask, wires_of}
use Rattle.flake_run.specs.Outside.{Outside}
use Rattle.flake_run.specs.Outcome.{RunOutcome, SourceTold, MayHold, read_faults_of, sources_of}
use Rattle.flake_run.specs.Causes.{SomeWireFailed}

-- memory was not wanting, and no count of failed calls rose, of so many wires
pub record NothingFailed {W : Type 0} (names : List (List ℕ)) (wires : ℕ) (before after : Outside W)
    (done : RunOutcome) : Type 0 where
  pub memory : done.status ≢ 6
  pub opens : All (λ name. Rose (before.host.open_faults name) (after.host.open_faults name) → ⊥) names
  pub reads : All (λ count. count ≡ 0) (read_faults_of (sources_of done.sources))
  pub says : Rose before.host.say_faults after.host.say_faults → ⊥
  pub puts : SomeWireFailed wires before after → ⊥

-- whole requests
abbrev pub AreRequests : List ℕ → Type 0
AreRequests bytes = (requests : List Words) × Parses bytes requests Clean

-- by what a source gave, its bytes may be whole requests, also where it doesn't tell what it holds
abbrev pub MayHoldRequests : SourceTold → Type 0
MayHoldRequests source = (bytes : List ℕ) × MayHold bytes source × AreRequests bytes

pub record Complete {W : Type 0} (task : RunTask) (before after : Outside W) (done : RunOutcome) : Type 0 where
  -- where the words are accepted and nothing failed, sources of whole requests are served with status 0
  pub whole : IfSome task (λ job. wires_of job ≤ length before.wires
      → NothingFailed job.names (wires_of job) before after done
      → AllByRecursion MayHoldRequests (sources_of done.sources) → done.status ≡ 0)
  -- and so are those that the host tells to be that, where no name stands twice
  pub told : IfSome task (λ job. wires_of job ≤ length before.wires
      → NothingFailed job.names (wires_of job) before after done
      → AreDistinct job.names → All (λ name. IsSomeAnd (before.host.holds name) AreRequests) job.names
      → done.status ≡ 0)
