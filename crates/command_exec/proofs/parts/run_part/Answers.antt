use Rattle.std.proofs.Common.{◌≡◌, true, sym, subst, []}
use Rattle.std.specs.Prelude.{IfOk, OnErr}
use Rattle.std.proofs.lemmas.Option.{get_or_from_slice_get}
use Rattle.flake_model.specs.Command.{parts}
use Rattle.flake_model.specs.Store as part
use Rattle.flake_model.specs.Store.{Operation}
use Rattle.shard_part.specs.Parts.{operation_of}
use Rattle.shard_core.specs.Done.{is_taking, is_ranged}
use Rattle.command_exec.specs.Kinds.{part_at}
use Rattle.command_exec.specs.Passes.{PassView, pass_of}
use Rattle.command_exec.specs.Parted.{RunsPart, MissesPart}
use Rattle.command_exec.proofs.Parting.{ran_part, missed_part, untold_segs}
use Rattle.command_exec.proofs.parts.run_part.Goals as goal

pub run_part-requires-clause-taker : goal.run_part-requires-clause-taker
run_part-requires-clause-taker g c =
    let operation = operation_of c.part-part.result in
    let same : operation ≡ part_at c.args.command.now c.args.at.part =
    sym (get_or_from_slice_get (parts c.args.command.now) c.args.at.part operation
    (part.get []) c.part-part.ensures.operation) in
    record {
      none = c.requires.none;
      room = λ taking. c.requires.room (subst (λ (o : Operation). is_taking o ≡ true) same taking);
      range_room = λ range. c.requires.range_room (subst (λ (o : Operation). is_ranged o ≡ true) same range);
    }

pub returns-clause-untold : goal.returns-clause-untold
returns-clause-untold g c = untold_segs c.run_part.ensures.part

pub returns-clause-ran : goal.returns-clause-ran
returns-clause-ran g c =
    let z = g.P.PoolName.sizes in
    let shards = g.N.BookName.sizes.shards in
    let p = c.pass.inside in
    let was : PassView = pass_of p.mine p.seat p.opened.value p.stage p.threshold in
    let new : PassView = pass_of c.run_part.new.mine c.run_part.new.seat p.opened.value p.stage p.threshold in
    let operation = operation_of c.part-part.result in
    let same : operation ≡ part_at c.args.command.now c.args.at.part =
    sym (get_or_from_slice_get (parts c.args.command.now) c.args.at.part operation
    (part.get []) c.part-part.ensures.operation) in
    subst (λ (old : PassView). IfOk c.run_part.result
    (λ said. RunsPart z shards c.args.at (part_at c.args.command.now c.args.at.part) said old new
    c.args.stored.now.items c.run_part.new.stored.items c.args.plan.now c.run_part.new.taker)) c.pass.view_is
    (subst (λ (o : Operation). IfOk c.run_part.result
    (λ said. RunsPart z shards c.args.at o said was new c.args.stored.now.items c.run_part.new.stored.items
    c.args.plan.now c.run_part.new.taker)) same
    (ran_part z shards c.args.at operation c.run_part.result p.mine c.run_part.new.mine p.seat c.run_part.new.seat
    p.opened.value p.stage p.threshold c.args.stored.now.items c.run_part.new.stored.items c.args.plan.now
    c.run_part.new.taker
    c.run_part.ensures.part.told c.run_part.ensures.part.seat c.run_part.ensures.taker.base
    c.run_part.ensures.taker.none c.run_part.ensures.taker.room))

pub returns-clause-missed : goal.returns-clause-missed
returns-clause-missed g c =
    let z = g.P.PoolName.sizes in
    let p = c.pass.inside in
    let was : PassView = pass_of p.mine p.seat p.opened.value p.stage p.threshold in
    let new : PassView = pass_of c.run_part.new.mine c.run_part.new.seat p.opened.value p.stage p.threshold in
    let operation = operation_of c.part-part.result in
    let same : operation ≡ part_at c.args.command.now c.args.at.part =
    sym (get_or_from_slice_get (parts c.args.command.now) c.args.at.part operation
    (part.get []) c.part-part.ensures.operation) in
    subst (λ (old : PassView). OnErr c.run_part.result
    (MissesPart z (part_at c.args.command.now c.args.at.part) old new)) c.pass.view_is
    (subst (λ (o : Operation). OnErr c.run_part.result (MissesPart z o was new)) same
    (missed_part z operation c.run_part.result p.mine c.run_part.new.mine p.seat c.run_part.new.seat p.opened.value
    p.stage p.threshold c.args.stored.now.items c.run_part.new.stored.items c.args.plan.now c.run_part.new.taker
    c.run_part.ensures.part.untold c.run_part.ensures.part.seat))
