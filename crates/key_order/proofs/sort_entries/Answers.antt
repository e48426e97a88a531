use Rattle.std.proofs.lemmas.Result.{on_ok_weaker}
use Rattle.key_order.proofs.Rising.{ascending, kept}
use Rattle.key_order.proofs.sort_entries.Goals as goal

pub returns-clause-kept : goal.returns-clause-kept
returns-clause-kept g c = kept c.args.values.now.entries c.sort_keys.new.self.entries c.sort_keys.ensures.reordered.2

pub returns-clause-ordered : goal.returns-clause-ordered
returns-clause-ordered g c =
    on_ok_weaker c.sort_keys.result
    (λ sorted. ascending c.sort_keys.new.self.entries sorted c.sort_keys.ensures.unique) c.sort_keys.ensures.sorted
