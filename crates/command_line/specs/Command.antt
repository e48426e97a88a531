-- The command lines of `serve`, `frames`, `drive`, `check` and `join`, as commands of the kit's `clap`.
use Rattle.std.specs.Prelude.{ℕ, List, Option, Some, None, codes, if◌then◌else◌, true}
use Rattle.clap.specs.Walk.{Row, Rule, is_empty}
use Rattle.clap.specs.Simple.{App, matches_of, new_app, new_rule, on_top, with_rule}
use Rattle.clap.specs.Faults.{fault_of}
use Rattle.clap.specs.declared.builder.action.ArgAction.TheVariants.{Append, SetTrue}

-- an option `--name VALUE`
abbrev pub option_rule : List ℕ → Rule
option_rule name = record (new_rule name) { long = Some name }

-- an option `--name` without a value
abbrev pub flag_rule : List ℕ → Rule
flag_rule name = record (option_rule name) { action = Some SetTrue }

-- words that are no options are files, any number of them
abbrev pub file_rule : Rule
file_rule = record (new_rule (codes "file")) { action = Some Append }

-- neither help nor a version is offered
abbrev pub bare_command : List ℕ → App
bare_command name = on_top (λ shape. record shape { disable_help_flag = true; disable_version_flag = true })
    (new_app name)

-- the sizes of a run: five options
abbrev pub sized_command : List ℕ → App
sized_command name = with_rule (with_rule (with_rule (with_rule (with_rule (bare_command name)
    (option_rule (codes "shards"))) (option_rule (codes "small"))) (option_rule (codes "large")))
    (option_rule (codes "ring"))) (option_rule (codes "threshold"))

-- `serve`: the sizes, two options more, a flag, and files
abbrev pub serve_command : App
serve_command = with_rule (with_rule (with_rule (with_rule (sized_command (codes "serve"))
    (option_rule (codes "workers"))) (option_rule (codes "dump"))) (flag_rule (codes "journal"))) file_rule

-- `frames`: the sizes, an option more, and a number and files, which are told apart by their places
abbrev pub frames_command : App
frames_command = with_rule (with_rule (sized_command (codes "frames")) (option_rule (codes "workers"))) file_rule

-- `drive`: the sizes, and files
abbrev pub drive_command : App
drive_command = with_rule (sized_command (codes "drive")) file_rule

-- `check`: files alone
abbrev pub check_command : App
check_command = with_rule (bare_command (codes "check")) file_rule

-- `join`: two numbers and a file, which are told apart by their places
abbrev pub join_command : App
join_command = with_rule (bare_command (codes "join")) file_rule

-- what stands behind each name, where the words fit the command
abbrev pub rows_by : App → List (List ℕ) → Option (List Row)
rows_by command words = if is_empty (fault_of command words) then Some (matches_of command words) else None
