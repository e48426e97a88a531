use Rattle.std.proofs.Common.{◌++◌, ◌∙◌, ap, refl, length, map}
use Rattle.std.proofs.lemmas.Option.{slice_get_read}
use Rattle.flake_model.specs.Command.{parts}
use Rattle.flake_model.specs.Journal.{call_steps}
use Rattle.replay_check.specs.Places.{step_place}
use Rattle.replay_check.proofs.Placed.{places_of_calls}
use Rattle.replay_check.proofs.place.places_of.Goals as goal

pub loop-call-preserved : goal.loop-call-preserved
loop-call-preserved c =
    let commands = c.args.commands.now in
    let call = c.loop-call.call in
    let more = map (step_place c.args.shards) (call_steps c.args.session call 0 (parts c.index-commands-call.result)) in
    c.in_ok-put_places.ensures ∙ ap (λ places. places ++ more) c.loop-call.invariant
    ∙ places_of_calls c.args.shards c.args.session commands call c.index-commands-call.result
    (slice_get_read commands (length commands) call c.index-commands-call.result refl c.loop-call-test.true
    c.index-commands-call.is)
