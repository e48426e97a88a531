-- What a driven session was asked, of its input.
use Rattle.std.specs.Prelude.{◌≡◌, ℕ, ◌+◌, ◌⊎◌, List, [], ◌∷◌, ◌++◌, length, Option, None, Some}
use Rattle.flake_base.specs.declared.session.End.{End}
use Rattle.flake_base.specs.declared.session.End.TheVariants.{Memory}
use Rattle.flake_model.specs.Command.{Command}
use Rattle.command_pump.specs.Pump.{Origin, PumpState, IsPump, HasEnded}

-- all that was given was posted, but for the last one, where it was kept back
abbrev pub IsKeptBack : Option Command → List Command → ℕ → Type 0
IsKeptBack None given posted = length given ≡ posted
IsKeptBack (Some command) given posted =
    (front : List Command) × (given ≡ front ++ command ∷ []) × (length front ≡ posted)

-- Of an input, these commands were given, so many of them were posted, and there may be more. No read has failed.
pub record MayGiveMore (origin : Origin) (before : ℕ) (given : List Command) (posted : ℕ)
    (kept : Option Command)
    (pump : PumpState) : Type 0 where
  pub pump_is : IsPump origin before given pump
  pub kept_back : IsKeptBack kept given posted
  pub unfailed : pump.faults ≡ before

-- this command comes behind those that were posted
pub record AsksNext (origin : Origin) (before : ℕ) (given : List Command) (posted : ℕ) (command : Command)
    (pump : PumpState) : Type 0 where
  pub front : List Command
  pub given_is : (given ≡ front) ⊎ (given ≡ front ++ command ∷ [])
  pub count : length front ≡ posted
  pub pump_is : IsPump origin before (front ++ command ∷ []) pump
  pub unfailed : pump.faults ≡ before

-- the input ended, and all that it gave was posted; or memory was wanting in the call of the last command
abbrev pub IsSessionStopped : Origin → ℕ → List Command → ℕ → End → PumpState → Type 0
IsSessionStopped origin before given posted end pump =
    (HasEnded origin before given end pump × (length given ≡ posted))
    ⊎ ((end ≡ Memory) × IsPump origin before given pump × (length given ≡ posted + 1) × (pump.faults ≡ before))

-- the session goes on, or ended so
abbrev pub IsAsked : Origin → ℕ → List Command → ℕ → Option Command → Option End → PumpState → Type 0
IsAsked origin before given posted kept None pump = MayGiveMore origin before given posted kept pump
IsAsked origin before given posted kept (Some end) pump = IsSessionStopped origin before given posted end pump

-- What a line says holds of the commands that were given by then.
pub record GoesOn (origin : Origin) (before : ℕ) (posted : ℕ) (kept : Option Command) (end : Option End)
    (pump : PumpState) (right : List Command → Type 0) : Type 0 where
  pub given : List Command
  pub asked : IsAsked origin before given posted kept end pump
  pub is : right given
