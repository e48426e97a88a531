-- What was said of a session stays right, and its state matches, over each kind of line.
use Rattle.std.proofs.Common.{◌≡◌, ℕ, ◌+◌, ◌<◌, ◌≤◌, Bool, true, false, List, [], ◌∷◌, ◌++◌, length, slice_get, Some}
use Rattle.std.proofs.Common.{arith, refl, ap, sym, ◌∙◌, subst, length-append}
use Rattle.flake_base.specs.declared.session.SessionEnd.{SessionEnd}
use Rattle.flake_model.specs.Command.{Command}
use Rattle.flake_model.specs.Deed.{Deed}
use Rattle.flake_model.specs.Reply.{reply_text}
use Rattle.reply_layout.specs.Pieces.{reply_from}
use Rattle.reply_planner.specs.Parcels.{Sent}
use Rattle.command_exec.specs.Executed.{frame_shown}
use Rattle.transcript_model.specs.Lines.{LineEvent, sent, dropped}
use Rattle.transcript_model.specs.Terms.{Terms}
use Rattle.transcript_model.specs.Standing.{Standing, at_first}
use Rattle.transcript_model.specs.Right.{IsGathered, IsRight}
use Rattle.transcript_model.specs.News.{with_news, LeavesSaid}
use Rattle.transcript_model.proofs.Stays.{found_stay, all_stay, right-append}
use Rattle.drive_script.specs.Views.{SessionShown, DeviceShown, InOrder, frames_shown}
use Rattle.drive_script.specs.Calls.{Gathers, BothEnds}
use Rattle.any_wire.specs.Texts.{AreWhole}
use Rattle.drive_script.specs.Matches.{AreReplies, Matches, IsRightSoFar}
use Rattle.drive_script.proofs.Lists.{get_map, get_next, get_below}

abbrev gather_line : Bool → ℕ → ℕ → LineEvent
gather_line true call bytes = sent call bytes
gather_line false call bytes = dropped call bytes

-- a line that is right by what is known now, where that leaves what was said
pub keeps : (terms : Terms) (session session' : SessionShown) (device device' : DeviceShown) (events : List LineEvent)
    (event : LineEvent) (kept : IsRightSoFar terms session device events) (after : Standing)
    (commands : List Command) (end : SessionEnd) (whole : ℕ) (deeds : List Deed)
    → LeavesSaid terms kept.standing commands end whole deeds
    → IsRight (with_news terms commands end whole deeds) kept.standing event after
    → Matches (with_news terms commands end whole deeds) session' device' after
    → IsRightSoFar (with_news terms commands end whole deeds) session' device' (events ++ event ∷ [])
keeps terms session session' device device' events event kept after commands end whole deeds leaves right matches =
    record {
      standing = after;
      right = right-append (with_news terms commands end whole deeds) at_first kept.standing after events event
          (all_stay terms kept.standing commands end whole deeds leaves at_first events kept.right) right;
      matches = matches;
    }

-- only more frames were sent
more_sent : (terms : Terms) (now : Standing) (whole : ℕ)
    → ((call : ℕ) → call < now.gathered → call < terms.whole → call < whole)
    → ((call : ℕ) → call < now.gathered → terms.whole ≤ call → whole ≤ call)
    → LeavesSaid terms now terms.commands terms.end whole terms.deeds
more_sent terms now whole still_sent still_dropped = record {
  asked = λ call command is. is;
  deeds_stay = λ entry session below. refl;
  sent_stay = still_sent;
  dropped_stay = still_dropped;
  end_stays = λ is. (refl, refl);
}

abbrev pub with_whole : Terms → ℕ → Terms
with_whole terms whole = with_news terms terms.commands terms.end whole terms.deeds

-- the texts of frames that were posted stay, and so does what was sent of them
pub replies_stay : (terms : Terms) (session : SessionShown) (now : Standing) (commands : List Command)
    (end : SessionEnd) (whole : ℕ) (deeds : List Deed) → LeavesSaid terms now commands end whole deeds
    → length now.frames ≡ length session.posted → AreReplies terms session.posted
    → AreReplies (with_news terms commands end whole deeds) session.posted
replies_stay terms session now commands end whole deeds leaves count replies call parcel at =
    let is = replies call parcel at in
    let below = get_below session.posted call parcel at in
    record {
      command = is.command;
      asked = leaves.asked call is.command is.asked;
      text = is.text ∙ ap (λ outcomes. reply_text (reply_from is.command outcomes))
          (sym (found_stay terms now commands end whole deeds leaves call is.command (omega arith)));
    }

module _ (terms : Terms) (session session' : SessionShown) (device device' : DeviceShown) (events : List LineEvent)
    (kept : IsRightSoFar terms session device events) where
  -- both ends are at hand behind a line of the device
  module _ (gathered : DeviceShown) (both : BothEnds session session' gathered device') where
    told_session : SessionShown
    told_session = record session { told = length gathered.completed }

    told_device : DeviceShown
    told_device = record gathered { told = length session.posted }

    order : InOrder told_session told_device
    unfolding told_session told_device
    order = subst (λ (s : SessionShown). InOrder s (record gathered { told = length session.posted })) both.session
        (subst (λ (d : DeviceShown). InOrder session' d) both.device both.in_order)

    module _ (call bytes : ℕ) (whole : ℕ) (is_sent : Bool) (gathers : Gathers device gathered call bytes is_sent) where
      next_frame : slice_get session.posted (length device.completed) ≡ Some gathers.parcel
      unfolding told_session told_device
      next_frame = get_next session.posted device.completed order.completed.0 gathers.parcel
          (order.completed.1 ∙ ap (λ (front : List Sent). front ++ order.completed.0) gathers.completed)

      after_gather : Standing
      after_gather = record kept.standing { gathered = kept.standing.gathered + 1 }

      is_gathered : IsGathered (with_whole terms whole) kept.standing call bytes after_gather
      unfolding after_gather
      is_gathered =
          let place : call ≡ length device.completed = gathers.call_is
          ∙ kept.matches.numbered (length device.completed) gathers.parcel next_frame in
          let at : call ≡ kept.standing.gathered = place ∙ sym kept.matches.gathered in
          record {
            frame = frame_shown session.sizes gathers.parcel;
            next = at;
            posted_is = subst (λ frames. slice_get frames call ≡ Some (frame_shown session.sizes gathers.parcel))
                (sym kept.matches.frames)
                (subst (λ n. slice_get (frames_shown session) n ≡ Some (frame_shown session.sizes gathers.parcel))
                (sym place) (get_map (frame_shown session.sizes) session.posted (length device.completed)
                gathers.parcel next_frame));
            bytes_are = gathers.bytes_are;
            leaves = refl;
          }

      one_more : length gathered.completed ≡ length device.completed + 1
      one_more = omega (
        arith,
        ap (λ (parcels : List Sent). length parcels) gathers.completed,
        length-append
            device.completed (gathers.parcel ∷ []),
      )

      gather_matches : AreWhole gathered.failed whole (length gathered.completed)
          → Matches (with_whole terms whole) told_session told_device after_gather
      unfolding told_session told_device after_gather
      gather_matches so_far = record {
        shown = record {
          number = kept.matches.shown.number;
          sizes = kept.matches.shown.sizes;
          ring = kept.matches.shown.ring;
          threshold = kept.matches.shown.threshold;
          stage = kept.matches.shown.stage;
          deeds = kept.matches.shown.deeds;
        };
        frames = kept.matches.frames;
        reaped = kept.matches.reaped;
        gathered = omega (arith, kept.matches.gathered, one_more);
        whole = so_far;
        in_order = order;
        told = refl;
        device_told = refl;
        texts = λ number parcel at. let is = kept.matches.texts number parcel at in
            record { command = is.command; asked = is.asked; text = is.text };
        numbered = kept.matches.numbered;
        earlier = kept.matches.earlier;
        known = kept.matches.known;
      }

      moved : IsRightSoFar (with_whole terms whole) told_session told_device
          (events ++ gather_line is_sent call bytes ∷ []) → IsRightSoFar (with_whole terms whole) session' device'
          (events ++ gather_line is_sent call bytes ∷ [])
      unfolding told_session told_device
      moved at = subst (λ (s : SessionShown). IsRightSoFar (with_whole terms whole) s device'
          (events ++ gather_line is_sent call bytes ∷ [])) (sym both.session)
          (subst (λ (d : DeviceShown). IsRightSoFar (with_whole terms whole)
          (record session { told = length gathered.completed }) d (events ++ gather_line is_sent call bytes ∷ []))
          (sym both.device) at)

-- as many frames at most were sent whole as were gathered, and as many where none failed
whole_at_most : (failed : Bool) (whole completed : ℕ) → AreWhole failed whole completed → whole ≤ completed
whole_at_most false whole completed is = omega arith
whole_at_most true whole completed is = omega arith

whole_is : (failed : Bool) (whole completed : ℕ) → AreWhole failed whole completed → failed ≡ false
    → whole ≡ completed
whole_is false whole completed is whole_yet = is
whole_is true whole completed is whole_yet = absurd (cc)

so_far : (failed expected : Bool) (whole completed : ℕ) → failed ≡ expected → AreWhole expected whole completed
    → AreWhole failed whole completed
so_far failed expected whole completed is at = subst (λ (b : Bool). AreWhole b whole completed) (sym is) at

-- a frame was sent
pub kept_sent : (terms : Terms) (session session' : SessionShown) (device gathered device' : DeviceShown)
    (events : List LineEvent) (call bytes : ℕ) → IsRightSoFar terms session device events
    → Gathers device gathered call bytes true → BothEnds session session' gathered device'
    → IsRightSoFar (with_whole terms (length gathered.completed)) session' device' (events ++ sent call bytes ∷ [])
kept_sent terms session session' device gathered device' events call bytes kept gathers both =
    let none_failed = gathers.stays refl in
    let all : terms.whole ≡ length device.completed = whole_is device.failed terms.whole (length device.completed)
    kept.matches.whole none_failed in
    let more = one_more terms session session' device device' events kept gathered both call bytes
    (length gathered.completed) true gathers in
    let gone = kept.matches.gathered in
    let right = is_gathered terms session session' device device' events kept gathered both call bytes
    (length gathered.completed) true gathers in
    moved terms session session' device device' events kept gathered both call bytes (length gathered.completed) true
    gathers
    (keeps terms session (told_session terms session session' device device' events kept gathered both) device
    (told_device terms session session' device device' events kept gathered both) events (sent call bytes) kept
    (after_gather terms session session' device device' events kept gathered both call bytes (length gathered.completed)
    true gathers)
    terms.commands terms.end (length gathered.completed) terms.deeds
    (more_sent terms kept.standing (length gathered.completed) (λ frame below sent_is. omega arith)
    (λ frame below dropped_is. absurd (omega arith)))
    (right, omega (arith, right.next))
    (gather_matches terms session session' device device' events kept gathered both call bytes
    (length gathered.completed) true gathers
    (so_far gathered.failed false (length gathered.completed) (length gathered.completed) gathers.failed refl)))

-- a frame was dropped
pub kept_dropped : (terms : Terms) (session session' : SessionShown) (device gathered device' : DeviceShown)
    (events : List LineEvent) (call bytes : ℕ) → IsRightSoFar terms session device events
    → Gathers device gathered call bytes false → BothEnds session session' gathered device'
    → IsRightSoFar (with_whole terms terms.whole) session' device' (events ++ dropped call bytes ∷ [])
kept_dropped terms session session' device gathered device' events call bytes kept gathers both =
    let most = whole_at_most device.failed terms.whole (length device.completed) kept.matches.whole in
    let more = one_more terms session session' device device' events kept gathered both call bytes terms.whole false
    gathers in
    let gone = kept.matches.gathered in
    let right = is_gathered terms session session' device device' events kept gathered both call bytes terms.whole false
    gathers in
    moved terms session session' device device' events kept gathered both call bytes terms.whole false gathers
    (keeps terms session (told_session terms session session' device device' events kept gathered both) device
    (told_device terms session session' device device' events kept gathered both) events (dropped call bytes) kept
    (after_gather terms session session' device device' events kept gathered both call bytes terms.whole false gathers)
    terms.commands terms.end terms.whole terms.deeds
    (more_sent terms kept.standing terms.whole (λ frame below sent_is. sent_is) (λ frame below dropped_is. dropped_is))
    (right, omega (arith, right.next))
    (gather_matches terms session session' device device' events kept gathered both call bytes terms.whole false gathers
    (so_far gathered.failed true terms.whole (length gathered.completed) gathers.failed (omega arith))))
