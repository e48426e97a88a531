use Rattle.std.proofs.Common.{◌∙◌, ap₂}
use Rattle.clap.specs.Simple.{with_rule}
use Rattle.command_line.proofs.command.frames_command.Goals as goal

-- each option adds its rule, in order
pub returns : goal.returns
returns c =
    let workers = c.in_ok-arg.ensures.shape c.number_option.ensures.local
    ∙ ap₂ with_rule c.in_ok-sized_command.ensures c.number_option.ensures.rule in
    c.in_ok-command.ensures.shape c.files.ensures.local ∙ ap₂ with_rule workers c.files.ensures.rule
