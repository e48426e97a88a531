use Rattle.std.proofs.Common.{◌≡◌, ◌∙◌, ◌^◌, ◌-◌, ap, sym, List, ℕ, Option, Some, None, option_map}
use Rattle.std.specs.Prelude.{codes}
use Rattle.std.specs.Option.{option_map_or}
use Rattle.flake_model.specs.Range.{signed_of}
use Rattle.clap.specs.Matches.{found_of}
use Rattle.clap.specs.Walk.{first_of, rows_of}
use Rattle.clap.proofs.WalkLemmas.{first_value-rows}
use Rattle.command_line.specs.Sizes.{number_between}
use Rattle.command_line.proofs.sizes.dump_in.Goals as goal

abbrev as_dump : Option ℕ → Option (Option ℕ)
as_dump number = option_map (λ call. Some call) number

-- the call that the text of the option gives, as `dump_in` says
abbrev read_by : Option (List ℕ) → Option (Option ℕ)
read_by text = option_map_or (λ t. as_dump (number_between 0 (2 ^ 32 - 1) (signed_of t))) text (Some None)

pub returns-in_ok-call-in-Some : goal.returns-in_ok-call-in-Some
returns-in_ok-call-in-Some c =
    let found = found_of c.args.matches.now in
    let first : first_of (codes "dump") (rows_of found) ≡ Some c.in-Some.text.now =
    sym (first_value-rows found (codes "dump")) ∙ sym c.in-Some.ensures in
    ap as_dump c.in_ok-call-in-Some.ensures.value ∙ ap read_by (sym first)

pub returns-in_err-call-in-Some : goal.returns-in_err-call-in-Some
returns-in_err-call-in-Some c =
    let found = found_of c.args.matches.now in
    let first : first_of (codes "dump") (rows_of found) ≡ Some c.in-Some.text.now =
    sym (first_value-rows found (codes "dump")) ∙ sym c.in-Some.ensures in
    c.from_residual.ensures ∙ ap as_dump c.in_err-call-in-Some.ensures.value ∙ ap read_by (sym first)

pub returns-in-None : goal.returns-in-None
returns-in-None c =
    let found = found_of c.args.matches.now in
    ap read_by (c.in-None.ensures ∙ first_value-rows found (codes "dump"))
