-- From the first line to the last, and what is gathered and reaped behind it.
use Rattle.std.proofs.Common.{◌≡◌, ℕ, suc, ◌+◌, ◌<◌, Bool, true, false, List, [], ◌∷◌, ◌++◌, length, slice_get, take}
use Rattle.std.proofs.Common.{Some, arith, refl, ap, sym, ◌∙◌, subst}
use Rattle.std.specs.Prelude.{map}
use Rattle.std.specs.List.{AllByRecursion}
use Rattle.flake_base.specs.declared.session.SessionEnd.{SessionEnd}
use Rattle.flake_model.specs.Command.{Command}
use Rattle.flake_model.specs.Reply.{reply_text}
use Rattle.flake_model.specs.Deed.{Deed}
use Rattle.reply_layout.specs.Pieces.{reply_from}
use Rattle.transcript_model.specs.Lines.{LineEvent, posted, ring_full, stage_full, at_end, sent, dropped}
use Rattle.transcript_model.specs.Lines.{nothing_posted, reaped, nothing_reaped}
use Rattle.transcript_model.specs.Terms.{Terms}
use Rattle.reply_layout.specs.Frames.{Frame}
use Rattle.transcript_model.specs.Standing.{Standing, at_first}
use Rattle.transcript_model.specs.Frames.{deeds_of}
use Rattle.transcript_model.specs.Right.{is_known, IsRight, AreRight}
use Rattle.any_wire.specs.Texts.{AreWhole}
use Rattle.transcript_model.specs.Sessions.{texts_from, texts_of, IsRightSession}
use Rattle.transcript_model.specs.News.{with_news, LeavesSaid}
use Rattle.reply_planner.specs.Parcels.{Sent, texts_in}
use Rattle.drive_script.specs.Views.{SessionShown, DeviceShown}
use Rattle.drive_script.specs.Quiet.{IsAtStart, IsQuiet}
use Rattle.drive_script.specs.Matches.{IsRightSoFar}
use Rattle.transcript_model.proofs.Stays.{all_stay}
use Rattle.drive_script.proofs.Keeps.{replies_stay}
use Rattle.drive_script.proofs.KeepsReaps.{frames_count}

none_at : {A : Type 0} (place : ℕ) (x : A) → slice_get [] place ≡ Some x → ⊥
none_at place x is = cc

-- nothing was said, and all matches
pub kept_at_first : (terms : Terms) (session : SessionShown) (device : DeviceShown) → IsAtStart terms session device
    → IsRightSoFar terms session device []
kept_at_first terms session device is = record {
  standing = at_first;
  right = refl;
  matches = record {
    shown = record {
      number = is.number;
      sizes = is.sizes;
      ring = is.ring;
      threshold = is.threshold;
      stage = is.stage;
      deeds = is.deeds ∙ sym is.no_deeds;
    };
    frames = ap (map _) (sym is.posted);
    reaped = ap (λ (parcels : List Sent). length parcels) (sym is.reaped);
    gathered = ap (λ (parcels : List Sent). length parcels) (sym is.completed);
    whole = subst (λ b. AreWhole b terms.whole (length device.completed)) (sym is.failed)
        (is.none_sent ∙ ap (λ (parcels : List Sent). length parcels) (sym is.completed));
    in_order = record {
      reaped = (device.completed, ap (λ parcels. parcels ++ device.completed) (sym is.reaped));
      completed = (session.posted, ap (λ parcels. parcels ++ session.posted) (sym is.completed));
    };
    told = is.told ∙ ap (λ (parcels : List Sent). length parcels) (sym is.completed);
    device_told = is.device_told ∙ ap (λ (parcels : List Sent). length parcels) (sym is.posted);
    texts = λ call parcel at. absurd
        (none_at call parcel (subst (λ parcels. slice_get parcels call ≡ Some parcel) is.posted at));
    numbered = λ place parcel at. absurd
        (none_at place parcel (subst (λ parcels. slice_get parcels place ≡ Some parcel) is.posted at));
    known = λ said. absurd (cc);
    earlier = λ open_yet. subst
        (λ deeds. AllByRecursion (λ (deed : Deed). deed.entry.call < length session.posted) deeds) (sym is.deeds) tt;
  };
}

-- more becomes known, and nothing is said
pub kept_news : (terms : Terms) (session : SessionShown) (device : DeviceShown) (events : List LineEvent)
    (kept : IsRightSoFar terms session device events) (commands : List Command) (end : SessionEnd)
    → ((number : ℕ) (earlier : Command) → slice_get terms.commands number ≡ Some earlier → slice_get commands number
    ≡ Some earlier)
    → (kept.standing.ended ≡ true → (end.end ≡ terms.end.end) × (end.replies ≡ terms.end.replies))
    → IsRightSoFar (with_news terms commands end terms.whole terms.deeds) session device events
kept_news terms session device events kept commands end asked same =
    let leaves : LeavesSaid terms kept.standing commands end terms.whole terms.deeds = record {
      asked = asked;
      deeds_stay = λ entry own below. refl;
      sent_stay = λ call below is. is;
      dropped_stay = λ call below is. is;
      end_stays = same;
    } in
    let m = kept.matches in
    record {
      standing = kept.standing;
      right = all_stay terms kept.standing commands end terms.whole terms.deeds leaves at_first events kept.right;
      matches = record {
        shown = record {
          number = m.shown.number;
          sizes = m.shown.sizes;
          ring = m.shown.ring;
          threshold = m.shown.threshold;
          stage = m.shown.stage;
          deeds = m.shown.deeds;
        };
        frames = m.frames;
        reaped = m.reaped;
        gathered = m.gathered;
        whole = m.whole;
        in_order = m.in_order;
        told = m.told;
        device_told = m.device_told;
        texts = replies_stay terms session kept.standing commands end terms.whole terms.deeds leaves
            (ap (λ (frames : List Frame). length frames) m.frames ∙ frames_count session) m.texts;
        numbered = m.numbered;
        known = λ said. ((m.known said).0 ∙ sym (same said).1, ap is_known (same said).0 ∙ (m.known said).1);
        earlier = m.earlier;
      };
    }

-- the texts of the posted frames are those of the replies
texts_are : (terms : Terms) (call : ℕ) (commands : List Command) (parcels : List Sent)
    → ((n : ℕ) (parcel : Sent) → slice_get parcels n ≡ Some parcel → (command : Command)
    × (slice_get commands n ≡ Some command)
    × (parcel.text ≡ reply_text (reply_from command (deeds_of terms (call + n) command))))
    → texts_from terms call (take (length parcels) commands) ≡ texts_in parcels
texts_are terms call commands [] each = refl
texts_are terms call [] (parcel ∷ parcels) each = absurd (none_at 0 (each 0 parcel refl).0 (each 0 parcel refl).1)
texts_are terms call (command ∷ commands) (parcel ∷ parcels) each =
    let first = each 0 parcel refl in
    let same : command ≡ first.0 = cc first.1 in
    let here : reply_text (reply_from command (deeds_of terms call command)) ≡ parcel.text =
    let at : call ≡ call + 0 = omega arith in
    (λ i. reply_text (reply_from (same i) (deeds_of terms (at i) (same i)))) ∙ sym first.2 in
    let rest = texts_are terms (suc call) commands parcels (λ n later at.
    let is = each (suc n) later at in
    let moved : call + suc n ≡ suc call + n = omega arith in
    (is.0, is.1, subst (λ number. later.text ≡ reply_text (reply_from is.0 (deeds_of terms number is.0))) moved is.2))
    in
    λ i. here i ∷ rest i

-- what was right before the quiet lines, with as many frames
before_quiet : (terms : Terms) (events quiet : List LineEvent) (before last : Standing) → AllByRecursion IsQuiet quiet
    → AreRight terms before (events ++ quiet) last
    → (standing : Standing) × AreRight terms before events standing × (last.frames ≡ standing.frames)
    × (last.ended ≡ standing.ended)
before_quiet terms [] [] before last all right = (
  before,
  refl,
  ap (λ (standing : Standing). standing.frames) right,
  ap (λ (standing : Standing). standing.ended)
      right,
)
before_quiet terms [] (event ∷ quiet) before last all right =
    let rest = before_quiet terms [] quiet right.0 last all.1 right.2 in
    let one = quiet_stays terms before right.0 event all.0 right.1 in (
      before,
      refl,
      rest.2 ∙ ap (λ (standing : Standing). standing.frames) rest.1 ∙ one.0,
      rest.3
          ∙ ap (λ (standing : Standing). standing.ended) rest.1 ∙ one.1,
    )
  where
    quiet_stays : (terms : Terms) (before after : Standing) (event : LineEvent) → IsQuiet event
        → IsRight terms before event after → (after.frames ≡ before.frames) × (after.ended ≡ before.ended)
    quiet_stays terms before after (posted call freed segments fragments) quiet right = absurd quiet
    quiet_stays terms before after (ring_full need room) quiet right = absurd quiet
    quiet_stays terms before after (stage_full need free) quiet right = absurd quiet
    quiet_stays terms before after at_end quiet right = absurd quiet
    quiet_stays terms before after (sent call bytes) quiet right = (
      ap (λ (standing : Standing). standing.frames) right.0.leaves,
      ap (λ (standing : Standing). standing.ended)
          right.0.leaves,
    )
    quiet_stays terms before after (dropped call bytes) quiet right = (
      ap (λ (standing : Standing). standing.frames) right.0.leaves,
      ap (λ (standing : Standing). standing.ended)
          right.0.leaves,
    )
    quiet_stays terms before after nothing_posted quiet right =
        (ap (λ (standing : Standing). standing.frames) right.1, ap (λ (standing : Standing). standing.ended) right.1)
    quiet_stays terms before after (reaped call recycled) quiet right = (
      ap (λ (standing : Standing). standing.frames) right.leaves,
      ap (λ (standing : Standing). standing.ended)
          right.leaves,
    )
    quiet_stays terms before after nothing_reaped quiet right =
        (ap (λ (standing : Standing). standing.frames) right.1, ap (λ (standing : Standing). standing.ended) right.1)
before_quiet terms (event ∷ events) quiet before last all right =
    let rest = before_quiet terms events quiet right.0 last all right.2 in
    (rest.0, (right.0, right.1, rest.1), rest.2, rest.3)

-- the texts of all posted frames are those of the replies
pub all_texts : (terms : Terms) (session : SessionShown) (device : DeviceShown) (events : List LineEvent)
    (kept : IsRightSoFar terms session device events) → length session.posted ≡ terms.end.replies
    → texts_of terms ≡ texts_in session.posted
all_texts terms session device events kept posted_all =
    ap (λ n. texts_from terms 0 (take n terms.commands)) (sym posted_all)
    ∙ texts_are terms 0 terms.commands session.posted (λ n parcel at.
    let is = kept.matches.texts n parcel at in
    let number : n ≡ 0 + n = omega arith in (
      is.command,
      is.asked,
      subst
          (λ call. parcel.text ≡ reply_text (reply_from is.command (deeds_of terms call is.command))) number is.text,
    ))

-- all frames were sent, or one was the first that wasn't
all_sent : (failed : Bool) (whole completed replies : ℕ) → completed ≡ replies → AreWhole failed whole completed
    → AreWhole failed whole replies
all_sent false whole completed replies is so = so ∙ is
all_sent true whole completed replies is so = omega arith

-- The session's end is known, all its frames were gathered, those behind the last line without lines: what was said of
-- it is right
-- from its first line to its last.
pub told_at_last : (terms : Terms) (session : SessionShown) (device : DeviceShown) (events quiet : List LineEvent)
    (kept : IsRightSoFar terms session device (events ++ quiet)) → AllByRecursion IsQuiet quiet
    → length session.posted ≡ terms.end.replies → length device.completed ≡ length session.posted → kept.standing.ended
    ≡ is_known terms.end.end → device.failed ≡ terms.end.failed
    → IsRightSession terms events
told_at_last terms session device events quiet kept all posted_all gathered_all ended failed =
    let m = kept.matches in
    let said = before_quiet terms events quiet at_first kept.standing all kept.right in
    let count : length kept.standing.frames ≡ length session.posted =
    ap (λ (frames : List Frame). length frames) m.frames ∙ frames_count session in
    record {
      last = said.0;
      right = said.1;
      served = ap (λ (frames : List Frame). length frames) (sym said.2) ∙ count ∙ posted_all;
      ended = sym said.3 ∙ ended;
      sent = all_sent terms.end.failed terms.whole (length device.completed) terms.end.replies
          (gathered_all ∙ posted_all)
          (subst (λ b. AreWhole b terms.whole (length device.completed)) failed m.whole);
    }
