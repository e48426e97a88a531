-- The demand of some commands, worked by hand.
use Rattle.std.specs.Prelude.{◌≡◌, ℕ, List, [], ◌∷◌, false, replicate}
use Rattle.view_sums.specs.Total.{Each}
use Rattle.pin_core.specs.declared.class.Class.TheVariants.{Small, Large}
use Rattle.flake_model.specs.Command.{Command, get, set, append}
use Rattle.flake_model.specs.Store.{always}
use Rattle.serve_model.specs.Demand.{session_row}

-- a session of these commands may claim so many buffers
pub record Row : Type 0 where
  pub commands : List Command
  pub small : ℕ
  pub large : ℕ

abbrev pub row : List Command → ℕ → ℕ → Row
row commands small large = record { commands = commands; small = small; large = large }

-- the key a
abbrev pub key : List ℕ
key = 97 ∷ []

abbrev pub setting : ℕ → Command
setting n = set always false key (replicate n 0)

abbrev pub appending : ℕ → Command
appending n = append key (replicate n 0)

-- 128 small ones are the stage's
abbrev pub rows : List Row
rows =
    row [] 128 0
    ∷ row (get key ∷ []) 128 0
    ∷ row (setting 0 ∷ []) 128 0
    ∷ row (setting 512 ∷ []) 129 0
    ∷ row (setting 513 ∷ []) 128 1
    ∷ row (setting 4097 ∷ []) 129 1
    ∷ row (appending 0 ∷ []) 128 0
    ∷ row (appending 1 ∷ []) 129 1
    ∷ row (appending 2 ∷ []) 129 2
    ∷ row (setting 512 ∷ get key ∷ appending 1 ∷ []) 130 1
    ∷ []

pub record IsRow (row : Row) : Type 0 where
  pub small : session_row Small row.commands ≡ row.small
  pub large : session_row Large row.commands ≡ row.large

abbrev pub AreRows : Type 0
AreRows = Each IsRow rows
