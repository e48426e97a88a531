use Rattle.std.proofs.Common.{Some, cond, ap, ◌∙◌}
use Rattle.frag_value.specs.Values.{Frags}
use Rattle.shard_core.specs.Keys.{same_bytes}
use Rattle.shard_core.specs.Kept.{value_at}
use Rattle.shard_core.proofs.Entries.{updated}
use Rattle.shard_core.proofs.kept.insert.Goals as goal

pub returns-clause-changed : goal.returns-clause-changed
returns-clause-changed g c = λ k.
    let m = c.args.values.now in
    updated c.args.name.items m c.insert.new.self (Some c.new.result) c.in-Ok.ensures.updates k
    ∙ ap (λ (w : Frags). cond (same_bytes c.args.name.items k) (Some w) (value_at k m.entries)) c.new.ensures
