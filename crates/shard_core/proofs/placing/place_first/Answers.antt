use Rattle.std.proofs.Common.{cond, None, Some, sym, ap, ◌∙◌}
use Rattle.indexmap.specs.IndexMap.{insert_entry}
use Rattle.shard_core.specs.Keys.{same_bytes, key_eq}
use Rattle.shard_core.specs.Kept.{value_at}
use Rattle.shard_core.proofs.Brought.{placed, unpaid}
use Rattle.shard_core.proofs.Changed.{put-insert}
use Rattle.shard_core.proofs.placing.place_first.Goals as goal

pub returns-in_default-clause-paid : goal.returns-in_default-clause-paid
returns-in_default-clause-paid g c = unpaid g.P.PoolName.sizes _ c.args.payer.now

pub returns-in_default-reserve-clause-paid : goal.returns-in_default-reserve-clause-paid
returns-in_default-reserve-clause-paid g c = unpaid g.P.PoolName.sizes _ c.args.payer.now

pub returns-clause-placed : goal.returns-clause-placed
returns-clause-placed g c =
    let es = c.args.kept.now.values.entries in
    let v = c.in_ok-value.value in
    let name = c.in-Ok.name in
    let same = c.in-Ok-reserve.ensures.entries in
    let put = put-insert es c.insert.new.values.entries c.args.key.now name v c.in-Ok.ensures.items
    (c.insert.ensures.entries ∙ ap (λ l. insert_entry key_eq l name v) same)
    (λ k. c.insert.ensures.changed k ∙ ap (λ l. cond (same_bytes name.items k) (Some v) (value_at k l)) same) in
    placed g.P.PoolName.sizes c.args.key.now c.args.bytes.now es c.insert.new.values.entries v None c.args.kept.now.own
    c.bring.new.own c.args.stored.now.items c.show.new.stored.items
    c.requires.kept c.in_ok-value.ensures.brought put (sym c.requires.missing) c.show.ensures.items
