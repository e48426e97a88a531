use Rattle.std.proofs.Common.{◌∙◌, ap₂}
use Rattle.clap.specs.Simple.{with_rule}
use Rattle.command_line.proofs.generate_command.gen_command.Goals as goal

-- each option adds its rule, in order, and then the number
pub returns : goal.returns
returns c =
    let sessions = c.in_ok-arg.ensures.shape c.named_option.ensures.local
    ∙ ap₂ with_rule c.bare_command.ensures c.named_option.ensures.rule in
    let requests = c.in_ok-arg-2.ensures.shape c.named_option-2.ensures.local
    ∙ ap₂ with_rule sessions c.named_option-2.ensures.rule in
    let workers = c.in_ok-arg-3.ensures.shape c.named_option-3.ensures.local
    ∙ ap₂ with_rule requests c.named_option-3.ensures.rule in
    c.in_ok-command.ensures.shape c.new.ensures.optional.1 ∙ ap₂ with_rule workers c.new.ensures.rule
