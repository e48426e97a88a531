use Rattle.std.proofs.Common.{◌≡◌, [], sym, subst}
use Rattle.view_sums.specs.Total.{Each}
use Rattle.order_book.specs.Pages.{ShardList}
use Rattle.order_book.proofs.Shown.{none_told}
use Rattle.test_pool.proofs.books.run_named.Goals as goal

pub shard_maps_of-requires : goal.shard_maps_of-requires
shard_maps_of-requires g c = subst (Each (λ (list : ShardList). list.told ≡ [])) (sym c.name-book.ensures.shards)
    (none_told 0 g.N.BookName.sizes.shards)
