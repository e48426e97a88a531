-- What is known when book and pool are closed.
use Rattle.std.specs.Prelude.{◌≡◌, List, length}
use Rattle.flake_base.specs.declared.journal.Entry.{Entry}
use Rattle.pin_core.specs.declared.sizes.Sizes as pool_sizes
use Rattle.pinned_pool.specs.Ends.{End, LooksClaimed, pool_end}
use Rattle.pinned_pool.specs.Moves.{joined_views}
use Rattle.pinned_pool.specs.Named.{ClaimsAreNearby}
use Rattle.pinned_pool.specs.Views.{IsLoose}
use Rattle.pinned_pool.specs.declared.view.View.{View}
use Rattle.order_book.specs.Closed.{AreClosed}
use Rattle.order_book.specs.Pages.{ShardList, SessionList}
use Rattle.order_book.specs.declared.rule.BookSizes as book_sizes
use Rattle.shard_core.specs.Stock.{AreParts}

-- A store was taken apart, the book was closed with the lists of all sessions, and then the pool with the store's seat
-- in the last one.
pub record WereClosed (books : book_sizes.BookSizes) (z : pool_sizes.Sizes) (shards : List ShardList)
    (lists : List SessionList) (journal : List (List Entry)) (main store last : View) (closed : End) : Type 0 where
  pub parts : AreParts z books.shards shards journal store
  pub book : AreClosed books shards lists
  pub as_many : length lists ≡ books.sessions
  pub last_is : last ≡ joined_views main store
  pub loose : IsLoose last
  pub looked : LooksClaimed last
  pub nearby : ClaimsAreNearby z last
  pub closed_is : closed ≡ pool_end z last
