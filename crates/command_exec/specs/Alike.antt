-- Pieces that make the same text, and the same layout whatever comes before and behind them.
use Rattle.std.specs.Prelude.{◌≡◌, ℕ, List, ◌++◌}
use Rattle.reply_layout.specs.Pieces.{Piece}
use Rattle.reply_layout.specs.Layout.{Placing, placings_of, runs}
use Rattle.reply_layout.specs.Gathered.{text_of_pieces}

pub record Alike (threshold : ℕ) (xs ys : List Piece) : Type 0 where
  pub text : text_of_pieces xs ≡ text_of_pieces ys
  pub runs_are : (run : ℕ) (rest : List Placing)
      → runs run (placings_of threshold xs ++ rest) ≡ runs run (placings_of threshold ys ++ rest)
