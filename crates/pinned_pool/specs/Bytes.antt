-- The bytes of words, and runs of words that are written one after another.
use Rattle.std.specs.Prelude.{◌≡◌, ℕ, suc, ◌+◌, ◌/◌, List, [], ◌∷◌, ◌++◌, length, take}
use Rattle.std.specs.Int.{w64, to_le_bytes}
use Rattle.pinned_pool.specs.Moves.{put}
use Rattle.pinned_pool.specs.declared.view.View.{View}

-- the first byte of each word is its lowest
abbrev pub bytes_of_words : List ℕ → List ℕ
bytes_of_words [] = []
bytes_of_words (w ∷ ws) = to_le_bytes w64 w ++ bytes_of_words ws

-- the seat after puts of these words to a buffer, from an index on
abbrev pub put_all : ℕ → ℕ → List ℕ → View → View
put_all b i [] v = v
put_all b i (w ∷ ws) v = put_all b (suc i) ws (put b i w v)

-- bytes were written to a buffer from the word at an index on, 8 to a word, of which the last one may have others
-- behind them
pub record PutsBytes (b i : ℕ) (bytes : List ℕ) (old new : View) : Type 0 where
  pub words : List ℕ
  pub count : length words ≡ (length bytes + 7) / 8
  pub begin : take (length bytes) (bytes_of_words words) ≡ bytes
  pub seat : new ≡ put_all b i words old
