use Rattle.std.proofs.Common.{◌≡◌, [], subst}
use Rattle.view_sums.specs.Total.{Each}
use Rattle.view_sums.proofs.Eachs.{each-front}
use Rattle.order_book.specs.Pages.{ShardList}
use Rattle.test_pool.proofs.books.shard_maps_of.Goals as goal

pub loop-seat-preserved : goal.loop-seat-preserved
loop-seat-preserved g c =
    let P : ShardList → Type 0 = λ list. list.told ≡ [] in
    each-front P _ _ (subst (Each P) c.in-Some.ensures.some c.loop-seat.invariant)
