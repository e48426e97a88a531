use Rattle.std.proofs.Common.{◌≡◌, ◌∙◌, ap, sym, List, ℕ, Option, Some}
use Rattle.std.specs.Option.{option_map_or}
use Rattle.flake_model.specs.Range.{signed_of}
use Rattle.clap.specs.Matches.{found_of}
use Rattle.clap.specs.Walk.{first_of, rows_of}
use Rattle.clap.proofs.WalkLemmas.{first_value-rows}
use Rattle.command_line.specs.Sizes.{number_between}
use Rattle.command_line.specs.declared.sizes.Limits.{Limits}
use Rattle.command_line.proofs.sizes.size_in.Goals as goal

-- the size that the text of an option gives, as `size_in` says
abbrev read_by : Limits → Option (List ℕ) → Option ℕ
read_by limits text =
    option_map_or (λ t. number_between limits.least limits.most (signed_of t)) text (Some limits.usual)

pub returns-in-Some-clause-value : goal.returns-in-Some-clause-value
returns-in-Some-clause-value c =
    let name = c.args.name.now in
    let found = found_of c.args.matches.now in
    let first : first_of name (rows_of found) ≡ Some c.in-Some.text.now =
    sym (first_value-rows found name) ∙ sym c.in-Some.ensures in
    c.number_between.ensures.value ∙ ap (read_by c.args.limits) (sym first)

pub returns-in-None-clause-value : goal.returns-in-None-clause-value
returns-in-None-clause-value c =
    let name = c.args.name.now in
    let found = found_of c.args.matches.now in
    ap (read_by c.args.limits) (c.in-None.ensures ∙ first_value-rows found name)
