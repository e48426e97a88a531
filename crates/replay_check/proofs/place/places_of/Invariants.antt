use Rattle.std.proofs.Common.{◌≡◌, map, take}
use Rattle.flake_model.specs.Journal.{session_steps}
use Rattle.replay_check.specs.Places.{step_place}
use Rattle.replay_check.proofs.place.places_of.Given as goal

-- the places of the first calls' parts
abbrev pub invariant-loop-call : goal.invariant-loop-call
invariant-loop-call l = l.places.items ≡ map (step_place l.shards) (session_steps l.session 0 (take l.call l.commands))
