-- Whether a session's end was said, by what was said.
use Rattle.std.proofs.Common.{◌≡◌, Bool, true, false, List, [], ◌∷◌, ◌++◌, refl, ap, sym, ◌∙◌}
use Rattle.std.specs.Prelude.{◌||◌}
use Rattle.transcript_model.specs.Lines.{LineEvent, posted, ring_full, stage_full, at_end, sent, dropped}
use Rattle.transcript_model.specs.Lines.{nothing_posted, reaped, nothing_reaped}
use Rattle.transcript_model.specs.Terms.{Terms}
use Rattle.transcript_model.specs.Standing.{Standing, at_first}
use Rattle.transcript_model.specs.Right.{IsRight, AreRight}
use Rattle.drive_script.specs.Quiet.{is_end, says_end}
use Rattle.drive_script.specs.Views.{SessionShown, DeviceShown}
use Rattle.drive_script.specs.Matches.{IsRightSoFar}

or_false : (b : Bool) → (b || false) ≡ b
or_false true = refl
or_false false = refl

or_true : (b : Bool) → (b || true) ≡ true
or_true true = refl
or_true false = refl

or_assoc : (a b c : Bool) → ((a || b) || c) ≡ (a || (b || c))
or_assoc true b c = refl
or_assoc false b c = refl

one_line : (terms : Terms) (before after : Standing) (event : LineEvent) → IsRight terms before event after
    → after.ended ≡ (before.ended || is_end event)
one_line terms before after (posted call freed segments fragments) right =
    ap (λ (standing : Standing). standing.ended) right.leaves ∙ sym (or_false before.ended)
one_line terms before after (ring_full need room) right = ap (λ (standing : Standing). standing.ended) right.leaves
    ∙ sym (or_false before.ended)
one_line terms before after (stage_full need free) right = ap (λ (standing : Standing). standing.ended) right.leaves
    ∙ sym (or_false before.ended)
one_line terms before after at_end right = ap (λ (standing : Standing). standing.ended) right.leaves
    ∙ sym (or_true before.ended)
one_line terms before after (sent call bytes) right = ap (λ (standing : Standing). standing.ended) right.0.leaves
    ∙ sym (or_false before.ended)
one_line terms before after (dropped call bytes) right = ap (λ (standing : Standing). standing.ended) right.0.leaves
    ∙ sym (or_false before.ended)
one_line terms before after nothing_posted right = ap (λ (standing : Standing). standing.ended) right.1
    ∙ sym (or_false before.ended)
one_line terms before after (reaped call recycled) right = ap (λ (standing : Standing). standing.ended) right.leaves
    ∙ sym (or_false before.ended)
one_line terms before after nothing_reaped right = ap (λ (standing : Standing). standing.ended) right.1
    ∙ sym (or_false before.ended)

ended_from : (terms : Terms) (before last : Standing) (events : List LineEvent) → AreRight terms before events last
    → last.ended ≡ (before.ended || says_end events)
ended_from terms before last [] right = ap (λ (standing : Standing). standing.ended) right ∙ sym (or_false before.ended)
ended_from terms before last (event ∷ events) right =
    ended_from terms right.0 last events right.2 ∙ ap (λ b. b || says_end events)
    (one_line terms before right.0 event right.1) ∙ or_assoc before.ended (is_end event) (says_end events)

-- the end was said where it stands among the lines
pub kept_ended : (terms : Terms) (session : SessionShown) (device : DeviceShown) (events : List LineEvent)
    (kept : IsRightSoFar terms session device events) → kept.standing.ended ≡ says_end events
kept_ended terms session device events kept = ended_from terms at_first kept.standing events kept.right

pub says_end-append : (some more : List LineEvent) → says_end (some ++ more) ≡ (says_end some || says_end more)
says_end-append [] more = refl
says_end-append (event ∷ some) more = ap (λ b. is_end event || b) (says_end-append some more)
    ∙ sym (or_assoc (is_end event) (says_end some) (says_end more))

-- a line that doesn't say the end changes nothing of that
pub says_end-other : (events : List LineEvent) (event : LineEvent) → is_end event ≡ false
    → says_end (events ++ event ∷ []) ≡ says_end events
says_end-other events event other = says_end-append events (event ∷ [])
    ∙ ap (λ b. says_end events || (b || false)) other ∙ or_false (says_end events)

pub says_end-now : (events : List LineEvent) → says_end (events ++ at_end ∷ []) ≡ true
says_end-now events = says_end-append events (at_end ∷ []) ∙ or_true (says_end events)
