use Rattle.std.proofs.Common.{◌∙◌, ap₂}
use Rattle.clap.specs.Simple.{with_rule}
use Rattle.command_line.proofs.command.serve_command.Goals as goal

-- each option adds its rule, in order
pub returns : goal.returns
returns c =
    let workers = c.in_ok-arg.ensures.shape c.number_option.ensures.local
    ∙ ap₂ with_rule c.in_ok-sized_command.ensures c.number_option.ensures.rule in
    let dump = c.in_ok-arg-2.ensures.shape c.number_option-2.ensures.local
    ∙ ap₂ with_rule workers c.number_option-2.ensures.rule in
    let journal = c.in_ok-arg-3.ensures.shape c.flag.ensures.local ∙ ap₂ with_rule dump c.flag.ensures.rule in
    c.in_ok-command.ensures.shape c.files.ensures.local ∙ ap₂ with_rule journal c.files.ensures.rule
