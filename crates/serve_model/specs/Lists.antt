-- The lists of a book when all sessions were served.
use Rattle.std.specs.Prelude.{◌≡◌, List, length, map}
use Rattle.std.specs.List.{range_with_len}
use Rattle.view_sums.specs.Total.{Each}
use Rattle.flake_model.specs.Deed.{IsLegal}
use Rattle.order_book.specs.Closed.{AreClosed}
use Rattle.order_book.specs.Pages.{ShardList, SessionList}
use Rattle.order_book.specs.declared.rule.BookSizes.{BookSizes}
use Rattle.serve_model.specs.Runs.{Run, IsRun, lists_told}

pub record AreLists (books : BookSizes) (runs : List Run) (shards : List ShardList) (sessions : List SessionList)
    : Type 0 where
  -- of the closed book
  pub closed : AreClosed books shards sessions
  -- of the store's parts
  pub numbered : map (λ (shard : ShardList). shard.number) shards ≡ range_with_len 0 books.shards
  pub legal : Each (λ (shard : ShardList). IsLegal shard.told) shards
  -- of the sessions
  pub runs_are : Each IsRun runs
  pub as_many : length runs ≡ books.sessions
  pub told : sessions ≡ lists_told books.shards 0 runs
