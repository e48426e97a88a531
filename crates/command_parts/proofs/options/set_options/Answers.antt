use Rattle.std.proofs.Common.{◌∙◌, sym, ap, ◌+◌, drop, arith}
use Rattle.std.specs.Option.{option_map, option_and_then}
use Rattle.flake_model.specs.Command.{with_option, with_options}
use Rattle.command_parts.specs.Settings.{options_of}
use Rattle.command_parts.proofs.Words.{next_option}
use Rattle.command_parts.proofs.options.set_options.Goals as goal

pub returns-in_err-setting : goal.returns-in_err-setting
returns-in_err-setting c =
    let words = c.args.request.now in
    let options = options_of c.loop-i.setting in
    ap (option_map options_of) c.from_residual.ensures
    ∙ sym (c.loop-i.invariant ∙ next_option words c.loop-i.i options (omega arith)
    ∙ ap (option_and_then (with_options (drop (c.loop-i.i + 1) words)))
    (ap (λ word. with_option word options) (sym c.word.ensures) ∙ sym c.in_err-setting.ensures))

pub loop-i-preserved : goal.loop-i-preserved
loop-i-preserved c =
    let words = c.args.request.now in
    let options = options_of c.loop-i.setting in
    c.loop-i.invariant ∙ next_option words c.loop-i.i options (omega arith)
    ∙ ap (option_and_then (with_options (drop (c.loop-i.i + 1) words)))
    (ap (λ word. with_option word options) (sym c.word.ensures) ∙ sym c.in_ok-setting.ensures)
