-- A run of one session alone.
use Rattle.std.specs.Prelude.{◌≡◌, ℕ, List, [], ◌∷◌, Bool}
use Rattle.std.specs.List.{flat_map}
use Rattle.flake_base.specs.declared.journal.Entry.{Entry}
use Rattle.flake_base.specs.declared.session.SessionEnd.{SessionEnd}
use Rattle.pin_core.specs.declared.sizes.Sizes as pool_sizes
use Rattle.pinned_pool.specs.Ends.{pool_end}
use Rattle.pinned_pool.specs.declared.view.View.{View}
use Rattle.flake_model.specs.Journal.{wire_text}
use Rattle.flake_model.specs.Run.{all_commands}
use Rattle.order_book.specs.Closed.{AreClosed}
use Rattle.order_book.specs.Pages.{ShardList, SessionList}
use Rattle.order_book.specs.declared.rule.BookSizes as book_sizes
use Rattle.shard_core.specs.Stock.{AreParts}
use Rattle.serve_model.specs.Handed.{SessionHasRun, IsLastSeat}
use Rattle.serve_model.specs.Shown.{WasRun}

-- The only session of a book ran: so it is a whole run, in which the journal gives its replies' texts.
abbrev pub OneRan : Type 0
OneRan = (books : book_sizes.BookSizes) (z : pool_sizes.Sizes) (threshold : ℕ) (shards : List ShardList)
    (list : SessionList) (journal : List (List Entry)) (store : View) (given : List ℕ) (ended : Bool)
    (end : SessionEnd) (seat : View) (texts : List (List ℕ)) (spare : List View) (last : View)
    → AreClosed books shards (list ∷ []) → books.sessions ≡ 1 → AreParts z books.shards shards journal store
    → SessionHasRun z threshold books.shards 0 given ended end list seat texts
    → IsLastSeat z store spare (seat ∷ []) last
    → (run : WasRun z threshold (given ∷ []) (ended ∷ []) (end ∷ []) journal (pool_end z last))
    × (flat_map (λ text. text) texts ≡ wire_text (all_commands run.served.sessions) journal 0 end.replies)
