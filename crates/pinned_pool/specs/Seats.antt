-- What contracts see of a list of seats.
use Rattle.std.specs.Prelude.{ℕ, List}
use Rattle.pinned_pool.specs.declared.view.View.{View}

pub record SeatList : Type 0 where
  pub items : List View
  pub spare : ℕ
