use Rattle.std.proofs.Common.{◌∙◌, ap₂}
use Rattle.clap.specs.Simple.{with_rule}
use Rattle.command_line.proofs.command.sized_command.Goals as goal

-- each option adds its rule, in order
pub returns : goal.returns
returns c =
    let shards = c.in_ok-arg.ensures.shape c.number_option.ensures.local
    ∙ ap₂ with_rule c.bare_command.ensures c.number_option.ensures.rule in
    let small = c.in_ok-arg-2.ensures.shape c.number_option-2.ensures.local
    ∙ ap₂ with_rule shards c.number_option-2.ensures.rule in
    let large = c.in_ok-arg-3.ensures.shape c.number_option-3.ensures.local
    ∙ ap₂ with_rule small c.number_option-3.ensures.rule in
    let ring = c.in_ok-arg-4.ensures.shape c.number_option-4.ensures.local
    ∙ ap₂ with_rule large c.number_option-4.ensures.rule in
    c.in_ok-command.ensures.shape c.number_option-5.ensures.local ∙ ap₂ with_rule ring c.number_option-5.ensures.rule
