use Rattle.std.proofs.Common.{◌≡◌, drop, false}
use Rattle.flake_model.specs.Store.{always}
use Rattle.flake_model.specs.Command.{with_options}
use Rattle.command_parts.specs.Settings.{options_of}
use Rattle.command_parts.proofs.options.set_options.Given as goal

-- what the words so far add is added, and the others are left
abbrev pub invariant-loop-i : goal.invariant-loop-i
invariant-loop-i l = with_options (drop 3 l.request) (always, false) ≡ with_options (drop l.i l.request)
    (options_of l.setting)
