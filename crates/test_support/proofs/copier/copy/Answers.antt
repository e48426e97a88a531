use Rattle.std.proofs.Common.{ℕ, ◌<◌, sym, subst}
use Rattle.view_sums.specs.Total.{total}
use Rattle.pin_core.specs.Holding.{at}
use Rattle.pinned_pool.proofs.Keys.{some-at}
use Rattle.test_support.proofs.copier.copy.Goals as goal

pub load_bytes-requires-clause-held : goal.load_bytes-requires-clause-held
load_bytes-requires-clause-held g c =
    subst (λ (n : ℕ). 0 < total (at n) c.args.owner.now.holds) (sym c.buffer-buffer.ensures.buffer)
    (some-at c.args.frag.now.hold c.args.owner.now.holds c.requires.held)
