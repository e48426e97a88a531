use Rattle.std.proofs.Common.{◌≢◌, ap, arith, subst, sym}
use Rattle.std.proofs.lemmas.List.Elements.{recursion_from_All}
use Rattle.flake_base.specs.declared.session.End.TheVariants.{Left}
use Rattle.flake_base.specs.declared.session.SessionEnd.{SessionEnd}
use Rattle.flake_base.specs.Histories.{histories}
use Rattle.run_resources.specs.Opened.{HasRunSizes, dump_wires}
use Rattle.run_resources.specs.declared.sizes.RunSizes.{RunSizes}
use Rattle.serve_inputs.specs.Dumped.{dump_told}
use Rattle.serve_generated.proofs.Inputs.{unread}
use Rattle.serve_generated.proofs.Ran.{ran_generated}
use Rattle.serve_generated.proofs.serve.serve_generated.Goals as goal

pub serve_inputs-requires-clause-sized : goal.serve_inputs-requires-clause-sized
serve_inputs-requires-clause-sized g c κs within = subst (λ n. HasRunSizes n c.in-Some.sizes) (sym c.in-Ok.ensures.many)
    c.in-Some.ensures.sized

pub serve_inputs-requires-clause-unread : goal.serve_inputs-requires-clause-unread
serve_inputs-requires-clause-unread g c κs within =
    unread c.args.task.now.number c.args.task.now.requests c.args.task.now.sessions c.in-Ok.sources.items
    c.in-Ok.ensures.inputs

pub serve_inputs-requires-clause-wires : goal.serve_inputs-requires-clause-wires
serve_inputs-requires-clause-wires g c κs within =
    omega (
      arith,
      c.in-Ok.ensures.many,
      c.requires.wires,
      ap (λ (s : RunSizes). dump_wires s.dump) c.in-Some.ensures.sizes,
    )

pub returns-in-Ok-serve_inputs-clause-ran : goal.returns-in-Ok-serve_inputs-clause-ran
returns-in-Ok-serve_inputs-clause-ran g c =
    let served = c.in-Ok-serve_inputs.served in
    ran_generated _ _ c.args.task.now c.in-Some.sizes c.in-Ok.sources.items served.sources.items served.ends.items
    served.sent.items (histories served.journal.items) served.pool (dump_told served.dump)
    c.args.wires.items served.wires.items c.requires.task.sessions.1 c.requires.task.requests.1 c.in-Some.ensures.sizes
    c.in-Ok.ensures.inputs
    c.in-Ok-serve_inputs.ensures.ran c.in-Ok-serve_inputs.ensures.wholes c.in-Ok-serve_inputs.ensures.reads
    (recursion_from_All (λ (end : SessionEnd). end.end ≢ Left) served.ends.items
    c.in-Ok-serve_inputs.ensures.to_the_end)
