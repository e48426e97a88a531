use Rattle.std.proofs.Common.{Some, sym, ap, ◌∙◌}
use Rattle.frag_value.proofs.Lists.{got-map}
use Rattle.shard_core.proofs.Changed.{at_index}
use Rattle.shard_core.proofs.kept.value_in.Goals as goal

pub returns : goal.returns
returns g c = at_index c.args.key.now c.args.values.now.entries c.args.index c.requires
    ∙ got-map (λ e. e.1) c.args.values.now.entries c.args.index (c.in-Some.field-0-0.now, c.in-Some.slot.now)
    (sym c.in-Some.ensures.entry) ∙ ap Some (sym c.value.ensures)
