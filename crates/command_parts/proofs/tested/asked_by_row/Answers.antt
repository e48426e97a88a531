use Rattle.std.proofs.Common.{◌∙◌, sym, subst, arith, rules}
use Rattle.command_parts.specs.Meaning.{FitsWords}
use Rattle.command_parts.proofs.Tests.{row_fits}
use Rattle.command_parts.proofs.tested.asked_by_row.Goals as goal

pub returns-clause-words : goal.returns-clause-words
returns-clause-words c =
    let words = c.args.request.now in
    subst (λ op. FitsWords op words) (sym c.with_places.ensures)
    (row_fits c.args.row c.in-Some.op words c.key_count-keys.result c.requires.words (search rules)
    (sym c.with_options.ensures ∙ c.in-Some.is) (search rules) (omega arith) (search rules) (search rules))
