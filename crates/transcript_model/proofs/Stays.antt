-- Lines that were right stay right.
use Rattle.std.proofs.Common.{◌≡◌, ℕ, ◌+◌, ◌<◌, ◌≤◌, true, List, [], ◌∷◌, ◌++◌, length, arith, refl, ap, sym, ◌∙◌}
use Rattle.std.proofs.Common.{subst, length-append}
use Rattle.std.specs.Prelude.{map}
use Rattle.std.specs.List.{flat_map}
use Rattle.flake_base.specs.declared.journal.Entry.{Entry}
use Rattle.flake_base.specs.declared.session.End.{End}
use Rattle.flake_base.specs.declared.session.SessionEnd.{SessionEnd}
use Rattle.flake_model.specs.Store.{Operation}
use Rattle.flake_model.specs.Command.{Command, parts}
use Rattle.flake_model.specs.Journal.{call_steps}
use Rattle.flake_model.specs.Deed.{Deed}
use Rattle.transcript_model.specs.Deeds.{find_deed}
use Rattle.transcript_model.specs.Lines.{LineEvent, posted, ring_full, stage_full, at_end, sent, dropped}
use Rattle.transcript_model.specs.Lines.{nothing_posted, reaped, nothing_reaped}
use Rattle.transcript_model.specs.Terms.{Terms}
use Rattle.transcript_model.specs.Standing.{Standing, frames_waiting, free}
use Rattle.reply_layout.specs.Frames.{frame_from}
use Rattle.transcript_model.specs.Frames.{deeds_of, frame_of, fragments_stored}
use Rattle.transcript_model.specs.Right.{is_known, MayHaveReaped, IsRight, AreRight}
use Rattle.transcript_model.specs.News.{with_news, LeavesSaid}

-- where a session stands later
pub record IsLater (before after : Standing) : Type 0 where
  pub frames : length before.frames ≤ length after.frames
  pub gathered : before.gathered ≤ after.gathered
  pub ended : before.ended ≡ true → after.ended ≡ true

itself : (standing : Standing) → IsLater standing standing
itself standing = record { frames = omega arith; gathered = omega arith; ended = λ is. is }

later_still : (a b c : Standing) → IsLater a b → IsLater b c → IsLater a c
later_still a b c x y = record {
  frames = omega (arith, x.frames, y.frames);
  gathered = omega (arith, x.gathered, y.gathered);
  ended = λ is. y.ended (x.ended is);
}

by_leaves : (before after made : Standing) → after ≡ made → IsLater before made → IsLater before after
by_leaves before after made is later = subst (λ (standing : Standing). IsLater before standing) (sym is) later

-- a line leads on
one_later : (terms : Terms) (before after : Standing) (event : LineEvent) → IsRight terms before event after
    → IsLater before after
one_later terms before after (posted call freed segments fragments) right = by_leaves before after _ right.leaves
    (record {
      frames = omega (
        arith,
        length-append before.frames
            (frame_of terms (free terms.stage (frames_waiting before (before.reaped + freed))) call right.command ∷ []),
      );
      gathered = omega arith;
      ended = λ is. is;
    })
one_later terms before after (ring_full need room) right = by_leaves before after _ right.leaves
    (record { frames = omega arith; gathered = omega arith; ended = λ is. is })
one_later terms before after (stage_full need free) right = by_leaves before after _ right.leaves
    (record { frames = omega arith; gathered = omega arith; ended = λ is. is })
one_later terms before after at_end right = by_leaves before after _ right.leaves
    (record { frames = omega arith; gathered = omega arith; ended = λ is. refl })
one_later terms before after (sent call bytes) right = by_leaves before after _ right.0.leaves
    (record { frames = omega arith; gathered = omega arith; ended = λ is. is })
one_later terms before after (dropped call bytes) right = by_leaves before after _ right.0.leaves
    (record { frames = omega arith; gathered = omega arith; ended = λ is. is })
one_later terms before after nothing_posted right = by_leaves before after _ right.1 (itself before)
one_later terms before after (reaped call recycled) right = by_leaves before after _ right.leaves
    (record { frames = omega arith; gathered = omega arith; ended = λ is. is })
one_later terms before after nothing_reaped right = by_leaves before after _ right.1 (itself before)

pub all_later : (terms : Terms) (before last : Standing) (events : List LineEvent) → AreRight terms before events last
    → IsLater before last
all_later terms before last [] right = by_leaves before last _ right (itself before)
all_later terms before last (event ∷ events) right = later_still before right.0 last
    (one_later terms before right.0 event right.1) (all_later terms right.0 last events right.2)

-- what is found at the entries of a call, where the deeds there stay
calls_found : (session call part : ℕ) (operations : List Operation) (olds news : List Deed)
    → ((entry : Entry) → entry.session ≡ session → entry.call ≡ call → find_deed entry news ≡ find_deed entry olds)
    → map (λ step. find_deed step.0 news) (call_steps session call part operations)
    ≡ map (λ step. find_deed step.0 olds) (call_steps session call part operations)
calls_found session call part [] olds news stay = refl
calls_found session call part (operation ∷ operations) olds news stay =
    let here = stay (record { session = session; call = call; part = part }) refl refl in
    let rest = calls_found session call (part + 1) operations olds news stay in
    λ i. here i ∷ rest i

module _ (terms : Terms) (now : Standing) (commands : List Command) (end : SessionEnd) (whole : ℕ) (deeds : List Deed)
    (leaves : LeavesSaid terms now commands end whole deeds) where
  pub found_stay : (call : ℕ) (command : Command) → call < length now.frames
      → deeds_of (with_news terms commands end whole deeds) call command ≡ deeds_of terms call command
  found_stay call command below = calls_found terms.number call 0 (parts command) terms.deeds deeds
      (λ entry session is. leaves.deeds_stay entry session (subst (λ n. n < length now.frames) (sym is) below))

  one_stays : (before after : Standing) (event : LineEvent) → IsRight terms before event after → IsLater after now
      → IsRight (with_news terms commands end whole deeds) before event after
  one_stays before after (posted call freed segments fragments) right later =
      let called : call < length now.frames = omega (
        arith,
        later.frames,
        right.next,
        ap (λ (standing : Standing). length standing.frames) right.leaves,
        length-append before.frames
            (frame_of terms (free terms.stage (frames_waiting before (before.reaped + freed))) call right.command ∷ []),
      ) in
      let found = sym (found_stay call right.command called) in
      record {
        command = right.command;
        next = right.next;
        asked = leaves.asked call right.command right.asked;
        least = record { gathered = right.least.gathered; fits = right.least.fits; least = right.least.least };
        segments_are = right.segments_are
            ∙ ap (λ outcomes. (frame_from terms.threshold
            (free terms.stage (frames_waiting before (before.reaped + freed))) right.command outcomes).segments) found;
        fragments_are = right.fragments_are ∙ ap (flat_map fragments_stored) found;
        buffers = right.buffers;
        leaves = right.leaves ∙ ap (λ outcomes. let made : Standing = record before {
          frames = before.frames ++ frame_from terms.threshold
              (free terms.stage (frames_waiting before (before.reaped + freed))) right.command outcomes ∷ [];
          reaped = before.reaped + freed;
        } in made) found;
      }
  one_stays before after (ring_full need room) right later =
      record {
        command = right.command;
        asked = leaves.asked _ right.command right.asked;
        open_yet = right.open_yet;
        needs = right.needs;
        has = right.has;
        less = right.less;
        leaves = right.leaves;
      }
  one_stays before after (stage_full need free) right later =
      record {
        command = right.command;
        asked = leaves.asked _ right.command right.asked;
        open_yet = right.open_yet;
        enough = right.enough;
        needs = right.needs;
        has = right.has;
        less = right.less;
        leaves = right.leaves;
      }
  one_stays before after at_end right later =
      let is = leaves.end_stays (later.ended (ap (λ (standing : Standing). standing.ended) right.leaves)) in
      record {
        freed = right.freed;
        served = right.served ∙ sym is.1;
        known = ap is_known is.0 ∙ right.known;
        may = subst (λ (e : End). MayHaveReaped e before.ended right.freed) (sym is.0) right.may;
        gathered = right.gathered;
        leaves = right.leaves;
      }
  one_stays before after (sent call bytes) right later = (
    record {
      frame = right.0.frame;
      next = right.0.next;
      posted_is = right.0.posted_is;
      bytes_are = right.0.bytes_are;
      leaves = right.0.leaves;
    },
    leaves.sent_stay call
        (omega (arith, later.gathered, right.0.next, ap (λ (standing : Standing). standing.gathered) right.0.leaves))
        right.1,
  )
  one_stays before after (dropped call bytes) right later = (
    record {
      frame = right.0.frame;
      next = right.0.next;
      posted_is = right.0.posted_is;
      bytes_are = right.0.bytes_are;
      leaves = right.0.leaves;
    },
    leaves.dropped_stay call
        (omega (arith, later.gathered, right.0.next, ap (λ (standing : Standing). standing.gathered) right.0.leaves))
        right.1,
  )
  one_stays before after nothing_posted right later = right
  one_stays before after (reaped call recycled) right later =
      record {
        frame = right.frame;
        next = right.next;
        gathered = right.gathered;
        posted_is = right.posted_is;
        recycles = right.recycles;
        leaves = right.leaves;
      }
  one_stays before after nothing_reaped right later = right

  pub all_stay : (before : Standing) (events : List LineEvent) → AreRight terms before events now
      → AreRight (with_news terms commands end whole deeds) before events now
  all_stay before [] right = right
  all_stay before (event ∷ events) right = (
    right.0,
    one_stays before right.0 event right.1 (all_later terms right.0 now events right.2),
    all_stay right.0
        events right.2,
  )

-- one line more, at the end
pub right-append : (terms : Terms) (before last after : Standing) (events : List LineEvent) (event : LineEvent)
    → AreRight terms before events last → IsRight terms last event after
    → AreRight terms before (events ++ event ∷ []) after
right-append terms before last after [] event right next =
    (after, subst (λ (standing : Standing). IsRight terms standing event after) right next, refl)
right-append terms before last after (first ∷ events) event right next =
    (right.0, right.1, right-append terms right.0 last after events event right.2 next)
