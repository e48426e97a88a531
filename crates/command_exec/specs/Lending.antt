-- What a pass ends as, once the `&mut` to its session's seat has ended.
use Rattle.std.specs.Borrow.{Lends, Fml, RattleType, MutBor}
use Rattle.order_book.specs.Pages.{SessionList}
use Rattle.order_book.specs.declared.name.BookName.{Ghosts as BookGhosts}
use Rattle.order_book.specs.contracts.kind.Sessions.{the_row as sessions_row}
use Rattle.order_book.specs.contracts.kind.SessionsSeatKind.TheImpl as sessions
use Rattle.order_book.specs.contracts.seat.BookSeat.{the_row as seat_row}
use Rattle.pinned_pool.specs.declared.name.PoolName.{Ghosts as PoolGhosts}
use Rattle.command_exec.specs.Passes.{PassView}
use Rattle.command_exec.specs.contracts.pass.Pass.{the_row}

module _ (N P : RattleType) (book : BookGhosts N.Denot) (pool : PoolGhosts P.Denot) (p : MutBor PassView) where
  -- its list is the last one that was left behind r, and all else of it is as it was
  abbrev pub lends_list : MutBor SessionList → Fml
  lends_list r =
      Lends (the_row N P book pool) (seat_row sessions_row N sessions.ghosts book) p r
      (λ list. record p.now { list = list })
