use Rattle.std.proofs.Common.{◌≡◌, ◌∙◌, ap, sym, List, ℕ, Option, Some, Bool, false}
use Rattle.std.specs.Prelude.{codes}
use Rattle.std.specs.Option.{option_map_or}
use Rattle.std.specs.Str.{bytes_eq}
use Rattle.clap.specs.Matches.{found_of}
use Rattle.clap.specs.Walk.{first_of, rows_of}
use Rattle.clap.proofs.WalkLemmas.{first_value-rows}
use Rattle.command_line.proofs.task.flag_in.Goals as goal

-- whether a flag's text says that it is there
abbrev says : Option (List ℕ) → Bool
says text = option_map_or (λ t. bytes_eq t (codes "true")) text false

pub returns-in-Some : goal.returns-in-Some
returns-in-Some c =
    let name = c.args.name.now in
    let found = found_of c.args.matches.now in
    let first : first_of name (rows_of found) ≡ Some c.in-Some.text.now =
    sym (first_value-rows found name) ∙ sym c.in-Some.ensures in
    c.eq.ensures ∙ ap says (sym first)

pub returns-in-None : goal.returns-in-None
returns-in-None c =
    let name = c.args.name.now in
    let found = found_of c.args.matches.now in
    ap says (c.in-None.ensures ∙ first_value-rows found name)
