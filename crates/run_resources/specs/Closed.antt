-- What the closing of a book, of a pool and of what stands on them says.
use Rattle.std.specs.Prelude.{◌≡◌, List}
use Rattle.flake_base.specs.declared.journal.Entry.{Entry}
use Rattle.pin_core.specs.declared.sizes.Sizes as pool
use Rattle.pinned_pool.specs.Ends.{End, pool_end, LooksClaimed}
use Rattle.pinned_pool.specs.Moves.{joined_views}
use Rattle.pinned_pool.specs.Named.{ClaimsAreNearby}
use Rattle.pinned_pool.specs.Views.{IsLoose}
use Rattle.pinned_pool.specs.declared.view.View.{View}
use Rattle.order_book.specs.Closed.{AreClosed}
use Rattle.order_book.specs.Pages.{ShardList, SessionList}
use Rattle.order_book.specs.declared.rule.BookSizes as book
use Rattle.shard_core.specs.Stock.{AreParts}

-- The lists of the shards and of the sessions belong together, and the shards' make the journal. The pool's last seat,
-- by which its end is, has what this one had, and with it the store's.
pub record WasClosed (b : book.BookSizes) (z : pool.Sizes) (lists : List SessionList) (main : View)
    (journal : List (List Entry)) (closed : End) : Type 0 where
  pub shards : List ShardList
  pub store : View
  pub last : View
  pub tied : AreClosed b shards lists
  pub parts : AreParts z b.shards shards journal store
  pub last_is : last ≡ joined_views main store
  pub loose : IsLoose last
  pub looked : LooksClaimed last
  pub nearby : ClaimsAreNearby z last
  pub closed_is : closed ≡ pool_end z last
