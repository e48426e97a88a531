use Rattle.std.proofs.Common.{◌∙◌, sym, ap, take}
use Rattle.journal_text.specs.Lines.{lines_of}
use Rattle.journal_text.proofs.Places.{none_before, none_at_all, behind, parts_at}
use Rattle.journal_text.proofs.LinesOf.{first_of, last_line}
use Rattle.journal_text.proofs.lines.first_line.Goals as goal

pub returns-in-Some-clause-some : goal.returns-in-Some-clause-some
returns-in-Some-clause-some c =
    let text = c.args.text.now in
    let end = c.in-Some.end in
    let found = c.in-Some.ensures in
    ap lines_of (parts_at 10 text end found.0.high found.1) ∙ first_of (take end text) (behind end text)
    (none_before 10 text end found.0.before)

pub returns-in-None-clause-some : goal.returns-in-None-clause-some
returns-in-None-clause-some c = last_line c.args.text.now (sym c.if-is_empty.ensures)
    (none_at_all 10 c.args.text.now c.in-None.ensures)
