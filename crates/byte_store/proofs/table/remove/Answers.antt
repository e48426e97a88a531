use Rattle.std.proofs.Common.{None}
use Rattle.byte_store.proofs.Bytes.{updated}
use Rattle.byte_store.proofs.table.remove.Goals as goal

pub returns-clause-removed : goal.returns-clause-removed
returns-clause-removed c = updated c.args.key.now c.args.table.now c.swap_remove.new.self None
    c.swap_remove.ensures.updates
