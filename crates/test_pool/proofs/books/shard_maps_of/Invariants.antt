use Rattle.std.proofs.Common.{◌≡◌, [], length}
use Rattle.view_sums.specs.Total.{Each}
use Rattle.order_book.specs.Pages.{ShardList}
use Rattle.test_pool.proofs.books.shard_maps_of.Given as goal

abbrev pub invariant-loop-seat : goal.invariant-loop-seat
invariant-loop-seat g l = Each (λ (list : ShardList). list.told ≡ []) l.seats.items

abbrev pub decreases-loop-seat : goal.decreases-loop-seat
decreases-loop-seat g l = length l.seats.items
