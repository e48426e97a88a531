-- How far the lines of a text were read.
use Rattle.std.proofs.Common.{◌≡◌, ◌≢◌, ◌∙◌, refl, sym, ap, subst, ℕ, ◌+◌, ◌-◌, ◌<◌, List, [], ◌∷◌, ◌++◌, arith}
use Rattle.std.proofs.Common.{append_assoc, append-nil, length, length-append, map, get_or, take}
use Rattle.std.specs.List.{AllByRecursion}
use Rattle.std.proofs.lemmas.List.{take_at, length-map, map-append}
use Rattle.schedule_text.specs.declared.line.Line.{Line}
use Rattle.schedule_text.specs.Text.{schedule_line, line_session}
use Rattle.schedule_text.specs.Reading.{AreScheduleLines, IsBadScheduleLine}

-- so many lines are those of this schedule, and the rest is still to be read
pub record HasRead (sessions : ℕ) (all : List (List ℕ)) (schedule : List Line) (rest : List (List ℕ))
    (line : ℕ) : Type 0 where
  pub lines_are : all ≡ map schedule_line schedule ++ rest
  pub count : line ≡ length schedule
  pub within : AllByRecursion (λ asked. line_session asked < sessions) schedule

pub has_begun : (sessions : ℕ) (schedule : List Line) (rest : List (List ℕ)) → schedule ≡ []
    → HasRead sessions rest schedule rest 0
has_begun sessions schedule rest empty = subst (λ (list : List Line). HasRead sessions rest list rest 0) (sym empty)
    (record { lines_are = refl; count = refl; within = tt })

within_more : (sessions : ℕ) (schedule : List Line) (asked : Line)
    → AllByRecursion (λ line. line_session line < sessions) schedule → line_session asked < sessions
    → AllByRecursion (λ line. line_session line < sessions) (schedule ++ asked ∷ [])
within_more sessions [] asked within below = (below, tt)
within_more sessions (first ∷ schedule) asked within below =
    (within.0, within_more sessions schedule asked within.1 below)

-- one line more
pub goes_on : (sessions : ℕ) (all : List (List ℕ)) (schedule next : List Line) (text : List ℕ) (rest : List (List ℕ))
    (line : ℕ) (asked : Line) → HasRead sessions all schedule (text ∷ rest) line
    → text ≡ schedule_line asked → line_session asked < sessions → next ≡ schedule ++ asked ∷ []
    → HasRead sessions all next rest (line + 1)
goes_on sessions all schedule next text rest line asked was is below pushed =
    subst (λ (list : List Line). HasRead sessions all list rest (line + 1)) (sym pushed)
    (record {
      lines_are = was.lines_are ∙ sym (append_assoc (map schedule_line schedule) (text ∷ []) rest)
          ∙ ap (λ front. front ++ rest)
          (ap (λ t. map schedule_line schedule ++ t ∷ []) is ∙ sym (map-append schedule_line schedule (asked ∷ [])));
      count = omega (arith, was.count, length-append schedule (asked ∷ []));
      within = within_more sessions schedule asked was.within below;
    })

behind_all : (front : List (List ℕ)) (line : List ℕ) (rest : List (List ℕ))
    → get_or (front ++ line ∷ rest) (length front) [] ≡ line
behind_all [] line rest = refl
behind_all (first ∷ front) line rest = behind_all front line rest

-- a line that asks for nothing
pub is_bad : (sessions : ℕ) (all : List (List ℕ)) (schedule : List Line) (text : List ℕ) (rest : List (List ℕ))
    (line : ℕ) → HasRead sessions all schedule (text ∷ rest) line
    → ((asked : Line) → line_session asked < sessions → text ≢ schedule_line asked)
    → IsBadScheduleLine sessions all (line + 1)
is_bad sessions all schedule text rest line was none =
    let read = map schedule_line schedule in
    let as_many : length read ≡ length schedule = length-map schedule schedule_line in
    let place : line + 1 - 1 ≡ length read = omega (arith, was.count, as_many) in
    let front : take (line + 1 - 1) all ≡ read = ap (λ n. take n all) place ∙ ap (take (length read)) was.lines_are
    ∙ take_at read (text ∷ rest) (length read) refl in
    let here : get_or all (line + 1 - 1) [] ≡ text = ap (λ n. get_or all n []) place
    ∙ ap (λ lines. get_or lines (length read) []) was.lines_are ∙ behind_all read text rest in
    record {
      counted = omega arith;
      there = omega (arith, was.count, as_many, ap length was.lines_are, length-append read (text ∷ rest));
      schedule = schedule;
      good = record { within = was.within; lines_are = front };
      bad = λ asked below is. none asked below (sym here ∙ is);
    }

-- all lines are read
pub is_read : (sessions : ℕ) (all : List (List ℕ)) (schedule : List Line) (rest : List (List ℕ)) (line : ℕ)
    → HasRead sessions all schedule rest line → rest ≡ [] → AreScheduleLines sessions all schedule
is_read sessions all schedule rest line was none =
    record {
      within = was.within;
      lines_are = was.lines_are ∙ ap (λ list. map schedule_line schedule ++ list) none
          ∙ append-nil (map schedule_line schedule);
    }
