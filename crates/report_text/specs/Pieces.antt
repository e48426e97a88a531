-- What is said of a text, piece by piece.
use Rattle.std.specs.Prelude.{◌≡◌, ℕ, List, ◌++◌}
use Rattle.flake_base.specs.Told.{HostTold}

-- a text was said, but for what stands ready at its end
pub record SaidBut (ready text old new : List ℕ) : Type 0 where
  pub front : List ℕ
  pub said : new ≡ old ++ front
  pub whole : text ≡ front ++ ready

-- what is held, and how often it was opened, are as before
pub record KeepsFiles (old new : HostTold) : Type 0 where
  pub holds : (name : List ℕ) → new.holds name ≡ old.holds name
  pub opens : new.opens ≡ old.opens
  pub open_faults : (name : List ℕ) → new.open_faults name ≡ old.open_faults name
