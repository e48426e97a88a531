-- What is put on a wire and handed on.
use Rattle.std.specs.Prelude.{ℕ, Bool, false, List}
use Rattle.std.specs.Borrow.{Bor}
use Rattle.any_wire.specs.Sends.{Sends, Flushes}

module _ {W : Type 0} (put_may : W → Bor (List ℕ) → (W × Bool) → Type 0) (flush_may : W → (W × Bool) → Type 0) where
  -- the text is put, and last of all the wire is flushed, where nothing has failed
  pub record SendsOut (failed now : Bool) (text : List ℕ) (old new : W) : Type 0 where
    pub between : Bool
    pub middle : W
    pub sends : Sends put_may flush_may failed between text old middle
    pub flushed : Flushes flush_may between now middle new

  -- a wire that hasn't failed was flushed last of all
  pub record WasFlushed (old new : W) : Type 0 where
    pub middle : W
    pub flushed : flush_may middle (new, false)
