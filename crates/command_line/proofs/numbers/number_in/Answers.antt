use Rattle.std.proofs.Common.{◌≡◌, ◌∙◌, ap, sym, List, ℕ, Option, Some}
use Rattle.std.specs.Option.{option_and_then}
use Rattle.flake_model.specs.Range.{signed_of}
use Rattle.clap.specs.Matches.{found_of}
use Rattle.clap.specs.Walk.{first_of, rows_of}
use Rattle.clap.proofs.WalkLemmas.{first_value-rows}
use Rattle.command_line.specs.Numbers.{number_between}
use Rattle.command_line.proofs.numbers.number_in.Goals as goal

-- the number that a text gives
abbrev read_by : ℕ → Option (List ℕ) → Option ℕ
read_by most text = option_and_then (λ t. number_between 0 most (signed_of t)) text

pub returns : goal.returns
returns c =
    let name = c.args.name.now in
    let found = found_of c.args.matches.now in
    let first : first_of name (rows_of found) ≡ Some c.in_ok-text.text.now =
    sym (first_value-rows found name) ∙ sym c.in_ok-text.ensures in
    record { value = c.within.ensures.value ∙ ap (read_by c.args.most) (sym first) }

pub returns-in_err-text : goal.returns-in_err-text
returns-in_err-text c =
    let name = c.args.name.now in
    let found = found_of c.args.matches.now in
    record {
      value = c.from_residual.ensures
          ∙ ap (read_by c.args.most) (c.in_err-text.ensures ∙ first_value-rows found name);
    }
