use Rattle.std.proofs.Common.{sym, subst}
use Rattle.pinned_pool.specs.declared.view.View.{View}
use Rattle.frag_value.specs.Values.{HasValue}
use Rattle.value_bench.proofs.read_often.Goals as goal

pub read_into-requires-clause-value : goal.read_into-requires-clause-value
read_into-requires-clause-value g c = subst (λ (v : View). HasValue v.holds c.args.value.now)
    (sym c.loop.invariant) c.requires.value
