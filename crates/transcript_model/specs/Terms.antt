-- What the lines of one session are judged by.
use Rattle.std.specs.Prelude.{ℕ, List}
use Rattle.flake_base.specs.declared.session.SessionEnd.{SessionEnd}
use Rattle.flake_model.specs.Command.{Command}
use Rattle.flake_model.specs.Deed.{Deed}
use Rattle.pin_core.specs.declared.sizes.Sizes.{Sizes}

pub record Terms : Type 0 where
  -- the session's number
  pub number : ℕ
  -- how many buffers of each class the pool has
  pub sizes : Sizes
  -- how many descriptors the session's ring has
  pub ring : ℕ
  -- stored pieces of at least so many bytes stay where they lie
  pub threshold : ℕ
  -- the addresses of its staging buffers
  pub stage : List ℕ
  -- what its input asks for
  pub commands : List Command
  pub end : SessionEnd
  -- so many frames were sent whole; those behind them were dropped
  pub whole : ℕ
  -- the deeds in which its entries stand
  pub deeds : List Deed
