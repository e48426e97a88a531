-- A seat that took others in.
use Rattle.std.specs.Prelude.{List, ◌++◌}
use Rattle.pinned_pool.specs.declared.view.View.{View}
use Rattle.serve_model.specs.Seats.{HasAll}

-- what the seat had of others it has still, and with them all that these have
pub record HasJoined (seats : List View) (old new : View) : Type 0 where
  pub all : (others : List View) → HasAll others old → HasAll (others ++ seats) new
