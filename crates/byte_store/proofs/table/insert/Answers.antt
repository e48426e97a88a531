use Rattle.std.proofs.Common.{ℕ, List, Some, subst}
use Rattle.std.specs.Global.{Vec}
use Rattle.std.specs.HashMap.{UpdatesBy}
use Rattle.byte_store.specs.Table.{equal_bytes}
use Rattle.byte_store.proofs.Bytes.{updated, key_eq}
use Rattle.byte_store.proofs.table.insert.Goals as goal

pub returns-in-Ok-clause-ok : goal.returns-in-Ok-clause-ok
returns-in-Ok-clause-ok c =
    let old = c.args.table.now in
    let new = c.insert.new.self in
    let value = c.args.value in
    updated c.args.key.now old new (Some value)
    (subst (λ (bytes : List ℕ). UpdatesBy key_eq (λ (name : Vec ℕ). equal_bytes bytes name.items) old new (Some value))
    c.in_ok-key.ensures.items c.in-Ok.ensures.updates)
