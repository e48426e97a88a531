use Rattle.std.proofs.Common.{◌≡◌, min, subst, arith}
use Rattle.shard_store.specs.Gathered.{AreGathered}
use Rattle.flake_base.specs.Histories.{histories}
use Rattle.shard_store.proofs.Stocked.{are_parts, values_left}
use Rattle.shard_store.proofs.parts.all_taken.Goals as goal

pub returns-clause-values : goal.returns-clause-values
returns-clause-values g c =
    let parts = c.args.parts.now in
    let gathered = c.requires.parts.gathered in
    values_left g.P.PoolName.sizes parts.seat.holds parts.books.items gathered.shard_maps gathered.in_shard_maps

pub returns-clause-parts : goal.returns-clause-parts
returns-clause-parts g c =
    let z = g.P.PoolName.sizes in
    let parts = c.args.parts.now in
    let all : min 16 c.args.shards ≡ g.N.BookName.sizes.shards = omega (arith, c.requires.shards.0, c.requires.shards.1)
    in
    are_parts z g.N.BookName.sizes.shards parts.books.items (histories parts.journal.items) parts.seat
    (subst (λ n. AreGathered z n parts.books.items (histories parts.journal.items) parts.seat) all
    c.requires.parts.gathered)
