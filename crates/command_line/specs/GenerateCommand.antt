-- The command line of `gen`, as a command of the kit's `clap`: three options, and a number.
use Rattle.std.specs.Prelude.{ℕ, List, Option, Some, None, codes, if◌then◌else◌, true}
use Rattle.clap.specs.Walk.{Row, Rule, is_empty}
use Rattle.clap.specs.Simple.{App, matches_of, new_app, new_rule, on_top, with_rule}
use Rattle.clap.specs.Faults.{fault_of}
use Rattle.command_line.specs.Command.{option_rule}

-- the only word that is no option
abbrev pub number_rule : Rule
number_rule = new_rule (codes "number")

-- neither help nor a version is offered
abbrev pub bare_gen_command : App
bare_gen_command = on_top (λ shape. record shape { disable_help_flag = true; disable_version_flag = true })
    (new_app (codes "gen"))

abbrev pub gen_command : App
gen_command = with_rule (with_rule (with_rule (with_rule bare_gen_command (option_rule (codes "sessions")))
    (option_rule (codes "requests"))) (option_rule (codes "workers"))) number_rule

-- what stands behind each name, where the words fit the command
abbrev pub rows_in : List (List ℕ) → Option (List Row)
rows_in words = if is_empty (fault_of gen_command words) then Some (matches_of gen_command words) else None
