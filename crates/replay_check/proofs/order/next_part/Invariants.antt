use Rattle.std.proofs.Common.{◌≡◌, ℕ, List, map, drop}
use Rattle.flake_model.specs.Journal.{Step, in_shard}
use Rattle.replay_check.specs.Places.{step_place}
use Rattle.replay_check.proofs.Passed.{Passes}
use Rattle.replay_check.proofs.order.next_part.Given as goal

-- the shard's parts so far were passed
abbrev pub invariant-loop-found : goal.invariant-loop-found
invariant-loop-found l = (shards : ℕ) (steps : List Step) → l.places ≡ map (step_place shards) steps
    → Passes l.entry (in_shard shards l.shard (drop l.at steps)) (in_shard shards l.shard (drop l.found steps))
