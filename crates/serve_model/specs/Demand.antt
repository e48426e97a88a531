-- How many buffers of a class sessions may claim.
use Rattle.std.specs.Prelude.{ℕ, ◌+◌, List}
use Rattle.view_sums.specs.Total.{total}
use Rattle.pin_core.specs.declared.class.Class.{Class}
use Rattle.pin_core.specs.declared.class.Class.TheVariants.{Small}
use Rattle.pinned_pool.specs.Classes.{just}
use Rattle.flake_model.specs.Command.{Command, parts}
use Rattle.shard_core.specs.CallDemand.{parts_row}

-- the buffers of one staging area
abbrev pub stage_row : Class → ℕ
stage_row class = just Small 128 class

abbrev pub commands_row : Class → List Command → ℕ
commands_row class commands = total (λ (command : Command). parts_row class (parts command)) commands

-- one session: its stage and its commands
abbrev pub session_row : Class → List Command → ℕ
session_row class commands = stage_row class + commands_row class commands

-- the demand of all sessions
abbrev pub demand_of : Class → List (List Command) → ℕ
demand_of class sessions = total (session_row class) sessions
