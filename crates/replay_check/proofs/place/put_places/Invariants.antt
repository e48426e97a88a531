use Rattle.std.proofs.Common.{◌≡◌, ◌++◌, map, take}
use Rattle.flake_model.specs.Command.{parts}
use Rattle.flake_model.specs.Journal.{call_steps}
use Rattle.replay_check.specs.Places.{step_place}
use Rattle.replay_check.proofs.place.put_places.Given as goal

-- the places of the first parts
abbrev pub invariant-loop-j : goal.invariant-loop-j
invariant-loop-j l = l.places.items ≡ l.fn.places.items ++ map (step_place l.shards)
    (call_steps l.session l.call 0 (take l.j (parts l.command)))
