use Rattle.std.proofs.Common.{true, false, refl, sym, ◌∙◌}
use Rattle.flake_run.proofs.RanDump.{any_with}
use Rattle.flake_run.proofs.tell.any_put_failed.Goals as goal

pub returns-then-some_failed : goal.returns-then-some_failed
returns-then-some_failed c =
    any_with c.args.ends.now c.args.dump true _ (sym c.if-some_failed.true ∙ c.some_failed.ensures) refl

pub returns : goal.returns
returns c =
    any_with c.args.ends.now c.args.dump false c.dump_failed.result
    (sym c.if-some_failed.false ∙ c.some_failed.ensures) c.dump_failed.ensures
