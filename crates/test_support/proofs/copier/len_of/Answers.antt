use Rattle.std.proofs.Common.{arith}
use Rattle.pinned_pool.proofs.Keys.{some-at}
use Rattle.pinned_pool.proofs.Within.{front-short}
use Rattle.pinned_pool.proofs.WordRuns.{room-most}
use Rattle.test_support.proofs.copier.len_of.Goals as goal

pub returns-clause-short : goal.returns-clause-short
returns-clause-short g c =
    let z = g.N.PoolName.sizes in
    let b = c.args.frag.now.hold.buffer in
    omega (
      arith,
      front-short z c.args.owner.now c.is_seat.ensures b
          (some-at c.args.frag.now.hold c.args.owner.now.holds c.requires.held),
      room-most z b,
      c.requires.filled,
    )
