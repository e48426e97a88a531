use Rattle.std.proofs.Common.{◌≡◌, ◌++◌, ◌∷◌, [], ◌∙◌, map, take}
use Rattle.flake_model.specs.Command.{parts}
use Rattle.flake_model.specs.Journal.{call_steps}
use Rattle.shard_part.specs.Parts.{operation_of}
use Rattle.replay_check.specs.Places.{step_place}
use Rattle.replay_check.proofs.Placed.{step_of_part, places_more}
use Rattle.replay_check.proofs.place.put_places.Goals as goal

pub loop-j-preserved : goal.loop-j-preserved
loop-j-preserved c =
    let shards = c.args.shards in
    let operations = parts c.args.command.now in
    let operation = operation_of c.part-part.result in
    let grown : c.loop-j.places.items ++ c.place_of.result ∷ []
    ≡ (c.args.places.now.items ++ map (step_place shards)
    (call_steps c.args.session c.args.call 0 (take c.loop-j.j operations)))
    ++ step_place shards (step_of_part c.args.session c.args.call c.loop-j.j operation) ∷ [] =
    λ i. c.loop-j.invariant i ++ c.place_of.ensures i ∷ [] in
    c.in_ok-push.ensures.items ∙ grown ∙ places_more shards c.args.session c.args.call operations c.loop-j.j operation
    c.args.places.now.items c.part-part.ensures.operation
