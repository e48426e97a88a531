use Rattle.std.proofs.Common.{◌∷◌, ◌++◌, ◌∙◌, refl, ap, subst}
use Rattle.std.specs.Fmt.{decimal}
use Rattle.journal_text.proofs.Places.{HasNo, none_before, none_at_all, parts_at, stands, behind}
use Rattle.journal_text.proofs.EntryLines.{no_field}
use Rattle.journal_text.proofs.fields.field.Goals as goal

pub returns-in_err-end-clause-none : goal.returns-in_err-end-clause-none
returns-in_err-end-clause-none c = λ none n rest below is.
    stands 32 (decimal n) rest (subst (HasNo 32) is (none_at_all 32 c.args.line.now c.in_err-end.ensures))

pub returns-in_err-n-clause-none : goal.returns-in_err-n-clause-none
returns-in_err-n-clause-none c =
    let found = c.in_ok-end.ensures in
    let line = c.args.line.now in
    let end = c.in_ok-end.end in
    λ none. no_field c.args.limit line end (parts_at 32 line end found.0.high found.1)
    (none_before 32 line end found.0.before) (c.in_err-n.ensures.none refl)

pub returns-clause-some : goal.returns-clause-some
returns-clause-some c =
    let found = c.in_ok-end.ensures in
    let line = c.args.line.now in
    let end = c.in_ok-end.end in
    parts_at 32 line end found.0.high found.1 ∙ ap (λ word. word ++ 32 ∷ behind end line) c.in_ok-n.ensures.some.1
