-- A transcript that was judged by the sessions' own deeds, and what ties these to the journal.
use Rattle.std.specs.Prelude.{◌≡◌, ℕ, ◌<◌, List, map, slice_get, Some}
use Rattle.std.specs.List.{AllByRecursion, flat_map}
use Rattle.flake_base.specs.declared.journal.Entry.{Entry}
use Rattle.flake_base.specs.declared.session.SessionEnd.{SessionEnd}
use Rattle.flake_model.specs.Store.{IsWrite}
use Rattle.flake_model.specs.Command.{Command, parts}
use Rattle.flake_model.specs.Journal.{commands_of, operation_at}
use Rattle.flake_model.specs.Deed.{Deed, entries_of, IsLegal}
use Rattle.transcript_model.specs.Deeds.{find_deed}
use Rattle.transcript_model.specs.Transcript.{DrivenRun}

-- a deed of some shard is one that its session was told, and does what its entry stands for; a write is of a call that
-- was posted
pub record IsOwnDeed (run : DrivenRun) (own : ℕ → List Deed) (stages : List (List ℕ)) (deed : Deed) : Type 0 where
  pub end : SessionEnd
  pub stage : List ℕ
  pub command : Command
  pub end_is : slice_get run.ends deed.entry.session ≡ Some end
  pub stage_is : slice_get stages deed.entry.session ≡ Some stage
  pub asked : slice_get (commands_of run.sessions deed.entry.session) deed.entry.call ≡ Some command
  pub part : slice_get (parts command) deed.entry.part ≡ Some deed.operation
  pub stands : operation_at run.sessions deed.entry ≡ Some deed.operation
  pub told : find_deed deed.entry (own deed.entry.session) ≡ Some deed
  pub posted : IsWrite deed.operation → deed.entry.call < end.replies

-- each shard's list of deeds, and each session's
pub record AreSources (run : DrivenRun) (shards : List (List Deed)) (own : ℕ → List Deed) (stages : List (List ℕ))
    : Type 0 where
  pub journal : run.journal ≡ map entries_of shards
  pub legal : AllByRecursion IsLegal shards
  pub owned : AllByRecursion (λ deeds. AllByRecursion (IsOwnDeed run own stages) deeds) shards
  -- at a session's entries the shards have what the session was told, and nothing else
  pub shared : (entry : Entry)
      → find_deed entry (flat_map (λ deeds. deeds) shards) ≡ find_deed entry (own entry.session)
