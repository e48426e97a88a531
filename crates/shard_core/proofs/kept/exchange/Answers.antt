use Rattle.std.proofs.Common.{Some, sym, ap, ◌∙◌}
use Rattle.indexmap.specs.IndexMap.{set_value_at}
use Rattle.indexmap.proofs.CallerLemmas.{keys-with_value_at}
use Rattle.shard_core.specs.Kept.{value_at}
use Rattle.shard_core.proofs.Changed.{at_index, changed-set}
use Rattle.shard_core.proofs.kept.exchange.Goals as goal

pub returns-clause-old : goal.returns-clause-old
returns-clause-old g c =
    at_index c.args.key.now c.args.values.now.entries c.args.index c.requires ∙ sym c.in-Some.ensures.value
    ∙ ap Some (sym c.exchange.ensures.old)

pub returns-clause-changed : goal.returns-clause-changed
returns-clause-changed g c = λ k.
    let m = c.args.values.now in
    let there = at_index c.args.key.now m.entries c.args.index c.requires ∙ sym c.in-Some.ensures.value in
    ap (λ w. value_at k (set_value_at m.entries c.args.index w)) c.exchange.ensures.new
    ∙ changed-set m c.args.key.now c.args.index c.in-Some.slot.now c.args.value c.get_index_mut.ensures.unique
    c.requires there k

pub returns-clause-keys : goal.returns-clause-keys
returns-clause-keys g c = keys-with_value_at c.args.values.now c.args.index c.exchange.new.self
