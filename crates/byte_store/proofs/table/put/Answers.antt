use Rattle.std.proofs.Common.{ℕ, List, Some, sym, subst}
use Rattle.byte_store.specs.Table.{HasChanged}
use Rattle.byte_store.proofs.Bytes.{through}
use Rattle.byte_store.proofs.table.put.Goals as goal

pub returns-in-Some-clause-ok : goal.returns-in-Some-clause-ok
returns-in-Some-clause-ok c =
    let old = c.args.table.now in
    let value = c.in_ok-value.value in
    let new = c.get_mut.follows.lender value in
    subst (λ (bytes : List ℕ). HasChanged c.args.key.now (Some bytes) old.entries new.entries)
    c.in_ok-value.ensures.items
    (through c.args.key.now old new c.in-Some.place.now value (sym c.in-Some.ensures.value)
    (c.get_mut.follows.holds value))
