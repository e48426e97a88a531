-- What a line asks for is determined by it.
use Rattle.std.proofs.Common.{◌≡◌, ◌∙◌, refl, sym, ap, ℕ, ◌<◌, ◌≤◌, ◌^◌, List, [], ◌∷◌, ◌++◌, arith, drop, map}
use Rattle.std.specs.Prelude.{codes}
use Rattle.std.specs.Fmt.{decimal}
use Rattle.std.specs.List.{AllByRecursion}
use Rattle.flake_model.proofs.Decimals.{same_decimal}
use Rattle.schedule_text.specs.declared.line.Line.{Line}
use Rattle.schedule_text.specs.declared.line.Line.TheVariants.{Call, Gather, Reap}
use Rattle.schedule_text.specs.Text.{schedule_line, line_session}
use Rattle.schedule_text.specs.Reading.{AreScheduleLines}

-- a line that begins with a byte doesn't begin with another
pub other_first : (a b : ℕ) (some others : List ℕ) → (a ≡ b → ⊥) → a ∷ some ≡ b ∷ others → ⊥
other_first a b some others other is = other (let same : a ≡ b = cc in same)

pub one_line : (sessions : ℕ) (some other : Line) → sessions ≤ 2 ^ 16 → line_session some < sessions
    → line_session other < sessions → schedule_line some ≡ schedule_line other → some ≡ other
one_line sessions (Call m) (Call n) few below also is = ap Call (same_decimal m n (omega arith) (ap (drop 5) is))
one_line sessions (Call m) (Gather n) few below also is =
    absurd (other_first 99 103 (codes "all " ++ decimal m) (codes "ather " ++ decimal n) (λ same. omega arith) is)
one_line sessions (Call m) (Reap n) few below also is =
    absurd (other_first 99 114 (codes "all " ++ decimal m) (codes "eap " ++ decimal n) (λ same. omega arith) is)
one_line sessions (Gather m) (Call n) few below also is =
    absurd (other_first 103 99 (codes "ather " ++ decimal m) (codes "all " ++ decimal n) (λ same. omega arith) is)
one_line sessions (Gather m) (Gather n) few below also is = ap Gather (same_decimal m n (omega arith) (ap (drop 7) is))
one_line sessions (Gather m) (Reap n) few below also is =
    absurd (other_first 103 114 (codes "ather " ++ decimal m) (codes "eap " ++ decimal n) (λ same. omega arith) is)
one_line sessions (Reap m) (Call n) few below also is =
    absurd (other_first 114 99 (codes "eap " ++ decimal m) (codes "all " ++ decimal n) (λ same. omega arith) is)
one_line sessions (Reap m) (Gather n) few below also is =
    absurd (other_first 114 103 (codes "eap " ++ decimal m) (codes "ather " ++ decimal n) (λ same. omega arith) is)
one_line sessions (Reap m) (Reap n) few below also is = ap Reap (same_decimal m n (omega arith) (ap (drop 5) is))

same_lines : (sessions : ℕ) (some others : List Line) → sessions ≤ 2 ^ 16
    → AllByRecursion (λ line. line_session line < sessions) some
    → AllByRecursion (λ line. line_session line < sessions) others
    → map schedule_line some ≡ map schedule_line others → some ≡ others
same_lines sessions [] [] few below also is = refl
same_lines sessions [] (other ∷ others) few below also is = absurd (cc)
same_lines sessions (first ∷ some) [] few below also is = absurd (cc)
same_lines sessions (first ∷ some) (other ∷ others) few below also is =
    let here : schedule_line first ≡ schedule_line other = cc in
    let rest : map schedule_line some ≡ map schedule_line others = cc in
    let same : first ≡ other = one_line sessions first other few below.0 also.0 here in
    let tails : some ≡ others = same_lines sessions some others few below.1 also.1 rest in
    cc

pub one_schedule_lem : (sessions : ℕ) (lines : List (List ℕ)) (schedule other : List Line) → sessions ≤ 2 ^ 16
    → AreScheduleLines sessions lines schedule → AreScheduleLines sessions lines other → schedule ≡ other
one_schedule_lem sessions lines schedule other few are also = same_lines sessions schedule other few are.within
    also.within (sym are.lines_are ∙ also.lines_are)
