-- A schedule's text has its lines.
use Rattle.std.proofs.Common.{◌≡◌, List, [], ◌∷◌, arith, map}
use Rattle.std.specs.Prelude.{codes}
use Rattle.std.specs.List.{AllByRecursion}
use Rattle.std.specs.Fmt.{decimal}
use Rattle.journal_text.specs.Lines.{lines_of}
use Rattle.journal_text.proofs.LinesOf.{all_of, no_lf_in_number}
use Rattle.journal_text.proofs.Places.{HasNo, HasNo-append}
use Rattle.schedule_text.specs.declared.line.Line.{Line}
use Rattle.schedule_text.specs.declared.line.Line.TheVariants.{Call, Gather, Reap}
use Rattle.schedule_text.specs.Text.{schedule_line, schedule_text_of}

-- no line has an LF
no_lf : (line : Line) → HasNo 10 (schedule_line line)
no_lf (Call n) = HasNo-append 10 (codes "call ") (decimal n)
    (omega arith, (omega arith, (omega arith, (omega arith, (omega arith, tt))))) (no_lf_in_number n)
no_lf (Gather n) = HasNo-append 10 (codes "gather ") (decimal n)
    (omega arith, (omega arith, (omega arith, (omega arith, (omega arith, (omega arith, (omega arith, tt)))))))
    (no_lf_in_number n)
no_lf (Reap n) = HasNo-append 10 (codes "reap ") (decimal n)
    (omega arith, (omega arith, (omega arith, (omega arith, (omega arith, tt))))) (no_lf_in_number n)

no_lf_in : (schedule : List Line) → AllByRecursion (HasNo 10) (map schedule_line schedule)
no_lf_in [] = tt
no_lf_in (line ∷ schedule) = (no_lf line, no_lf_in schedule)

pub written_lines : (schedule : List Line) → lines_of (schedule_text_of schedule) ≡ map schedule_line schedule
written_lines schedule = all_of (map schedule_line schedule) (no_lf_in schedule)
