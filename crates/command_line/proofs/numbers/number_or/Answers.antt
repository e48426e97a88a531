use Rattle.std.proofs.Common.{◌≡◌, ◌∙◌, ap, sym, List, ℕ, Option, Some}
use Rattle.std.specs.Option.{option_map_or}
use Rattle.flake_model.specs.Range.{signed_of}
use Rattle.clap.specs.Matches.{found_of}
use Rattle.clap.specs.Walk.{first_of, rows_of}
use Rattle.clap.proofs.WalkLemmas.{first_value-rows}
use Rattle.command_line.specs.Numbers.{number_between}
use Rattle.command_line.proofs.numbers.number_or.Goals as goal

-- the number that the text of an option gives
abbrev read_by : ℕ → ℕ → Option (List ℕ) → Option ℕ
read_by most usual text = option_map_or (λ t. number_between 1 most (signed_of t)) text (Some usual)

pub returns-in-Some-clause-value : goal.returns-in-Some-clause-value
returns-in-Some-clause-value c =
    let name = c.args.name.now in
    let found = found_of c.args.matches.now in
    let first : first_of name (rows_of found) ≡ Some c.in-Some.text.now =
    sym (first_value-rows found name) ∙ sym c.in-Some.ensures in
    c.within.ensures.value ∙ ap (read_by c.args.most c.args.usual) (sym first)

pub returns-in-None-clause-value : goal.returns-in-None-clause-value
returns-in-None-clause-value c =
    let name = c.args.name.now in
    let found = found_of c.args.matches.now in
    ap (read_by c.args.most c.args.usual) (c.in-None.ensures ∙ first_value-rows found name)
