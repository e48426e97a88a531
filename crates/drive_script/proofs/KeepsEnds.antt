-- Lines of calls that posted nothing.
use Rattle.std.proofs.Common.{◌≡◌, ℕ, ◌+◌, ◌<◌, ◌≤◌, true, false, List, [], ◌∷◌, ◌++◌, length, slice_get, Some, arith}
use Rattle.std.proofs.Common.{refl, ap, sym, ◌∙◌, subst, length-append, ◌⊎◌, inl, inr}
use Rattle.std.specs.Prelude.{drop}
use Rattle.std.specs.List.{AllByRecursion}
use Rattle.flake_base.specs.declared.session.End.{End}
use Rattle.flake_base.specs.declared.session.End.TheVariants.{Clean, Protocol, Truncated, TooLong, ReadFault, Memory}
use Rattle.flake_base.specs.declared.session.End.TheVariants.{Left}
use Rattle.flake_base.specs.declared.session.SessionEnd.{SessionEnd}
use Rattle.flake_model.specs.Command.{Command}
use Rattle.flake_model.specs.Deed.{Deed}
use Rattle.transcript_model.specs.Deeds.{find_deed}
use Rattle.transcript_model.specs.Lines.{LineEvent, ring_full, stage_full, at_end}
use Rattle.transcript_model.specs.Terms.{Terms}
use Rattle.reply_layout.specs.Frames.{Frame}
use Rattle.transcript_model.specs.Standing.{Standing, frames_waiting, ring_room, free}
use Rattle.transcript_model.specs.Right.{is_known, MayHaveReaped, IsRingFull, IsStageFull, IsAtEnd}
use Rattle.transcript_model.specs.News.{with_news, LeavesSaid}
use Rattle.reply_planner.specs.Parcels.{Sent}
use Rattle.drive_script.specs.Views.{SessionShown, DeviceShown, InOrder, frames_shown, waiting_behind}
use Rattle.drive_script.specs.Calls.{ShowsReaps, ShowsRingFull, ShowsStageFull, ShowsRefusal, BothEnds}
use Rattle.drive_script.specs.Matches.{Matches, IsRightSoFar}
use Rattle.drive_script.proofs.Lists.{front_length}
use Rattle.drive_script.proofs.Lookups.{all-map, find_deed-append, IsElsewhere, other_call}
use Rattle.drive_script.proofs.Keeps.{keeps, replies_stay}
use Rattle.drive_script.proofs.KeepsReaps.{frames_count, keeps_on}

module _ (terms : Terms) (session given session' : SessionShown) (device device' : DeviceShown)
    (events : List LineEvent) (kept : IsRightSoFar terms session device events) where
  -- the session reaped, and both ends are at hand
  module _ (gone : List Sent) (deeds : List Deed)
      (given_is : given ≡ record session { reaped = session.reaped ++ gone; deeds = deeds })
      (both : BothEnds given session' device device') where
    told_session : SessionShown
    told_session = record session { reaped = session.reaped ++ gone; deeds = deeds; told = length device.completed }

    told_device : DeviceShown
    told_device = record device { told = length session.posted }

    session_is : session' ≡ told_session
    unfolding told_session
    session_is = both.session
        ∙ ap (λ (s : SessionShown). let t : SessionShown = record s { told = length device.completed } in t) given_is

    device_is : device' ≡ told_device
    unfolding told_device
    device_is = both.device
        ∙ ap (λ (s : SessionShown). let d : DeviceShown = record device { told = length s.posted } in d) given_is

    order : InOrder told_session told_device
    order = subst (λ (s : SessionShown). InOrder s told_device) session_is
        (subst (λ (d : DeviceShown). InOrder session' d) device_is both.in_order)

    more_reaped : length (session.reaped ++ gone) ≡ length session.reaped + length gone
    more_reaped = length-append session.reaped gone

    at_most : length (session.reaped ++ gone) ≤ length device.completed
    unfolding told_session told_device
    at_most = front_length (session.reaped ++ gone) device.completed order.reaped.0 order.reaped.1

    -- so many were reaped, and the end is said or not
    reaped_matches : (commands : List Command) (end : SessionEnd) (after : Standing)
        → LeavesSaid terms kept.standing commands end terms.whole deeds → after.frames ≡ kept.standing.frames
        → after.gathered ≡ kept.standing.gathered → after.reaped ≡ length (session.reaped ++ gone)
        → (after.ended ≡ true → (length after.frames ≡ end.replies) × (is_known end.end ≡ true))
        → (after.ended ≡ false → AllByRecursion (λ (deed : Deed). deed.entry.call < length session.posted) deeds)
        → Matches (with_news terms commands end terms.whole deeds) told_session told_device after
    unfolding told_session told_device
    reaped_matches commands end after leaves frames gathered reaped known earlier =
        let m = kept.matches in
        record {
          shown = record {
            number = m.shown.number;
            sizes = m.shown.sizes;
            ring = m.shown.ring;
            threshold = m.shown.threshold;
            stage = m.shown.stage;
            deeds = refl;
          };
          frames = frames ∙ m.frames;
          reaped = reaped;
          gathered = gathered ∙ m.gathered;
          whole = m.whole;
          in_order = order;
          told = refl;
          device_told = refl;
          texts = replies_stay terms session kept.standing commands end terms.whole deeds leaves
              (ap (λ (list : List Frame). length list) m.frames ∙ frames_count session) m.texts;
          numbered = m.numbered;
          known = known;
          earlier = earlier;
        }

    moved : (now : Terms) (event : LineEvent) → IsRightSoFar now told_session told_device (events ++ event ∷ [])
        → IsRightSoFar now session' device' (events ++ event ∷ [])
    moved now event at = subst (λ (s : SessionShown). IsRightSoFar now s device' (events ++ event ∷ []))
        (sym session_is) (subst (λ (d : DeviceShown). IsRightSoFar now told_session d (events ++ event ∷ []))
        (sym device_is) at)

  -- all that was gathered was reaped
  all_reaped : (reaps : ShowsReaps session given) (both : BothEnds given session' device device')
      → kept.standing.gathered ≡ length (session.reaped ++ reaps.gone)
  all_reaped reaps both =
      let most = at_most reaps.gone session.deeds reaps.new_is both in
      let reaped : length given.reaped ≡ length (session.reaped ++ reaps.gone) =
      ap (λ (s : SessionShown). length s.reaped) reaps.new_is in
      omega (arith, kept.matches.gathered, kept.matches.told, reaps.told, most, reaped)

  waits_now : (reaps : ShowsReaps session given) (both : BothEnds given session' device device')
      → frames_waiting kept.standing kept.standing.gathered ≡ waiting_behind given 0
  waits_now reaps both =
      let count : kept.standing.gathered ≡ length given.reaped + 0 =
      omega (arith, all_reaped reaps both, ap (λ (s : SessionShown). length s.reaped) reaps.new_is) in
      let shown : kept.standing.frames ≡ frames_shown given = kept.matches.frames
      ∙ ap (λ (s : SessionShown). frames_shown s) (sym reaps.new_is) in
      λ i. drop (count i) (shown i)

  nothing_new : (commands : List Command)
      → ((number : ℕ) (earlier : Command) → slice_get terms.commands number ≡ Some earlier → slice_get commands number
      ≡ Some earlier)
      → LeavesSaid terms kept.standing commands terms.end terms.whole session.deeds
  nothing_new commands asked = record {
    asked = asked;
    deeds_stay = λ entry own below. ap (find_deed entry) kept.matches.shown.deeds;
    sent_stay = λ call below is. is;
    dropped_stay = λ call below is. is;
    end_stays = λ is. (refl, refl);
  }

  count_is : length kept.standing.frames ≡ length session.posted
  count_is = ap (λ (frames : List Frame). length frames) kept.matches.frames ∙ frames_count session

  module _ (open_yet : kept.standing.ended ≡ false) (command : Command) (commands : List Command)
      (asked_before : (number : ℕ) (earlier : Command) → slice_get terms.commands number ≡ Some earlier
      → slice_get commands number ≡ Some earlier)
      (asked_now : slice_get commands (length session.posted) ≡ Some command) where
    after_reaps : Standing
    after_reaps = record kept.standing { reaped = kept.standing.gathered }

    full_matches : (reaps : ShowsReaps session given) (both : BothEnds given session' device device')
        → Matches (with_news terms commands terms.end terms.whole session.deeds)
        (told_session reaps.gone session.deeds reaps.new_is both)
        (told_device reaps.gone session.deeds reaps.new_is both) after_reaps
    unfolding after_reaps
    full_matches reaps both = reaped_matches reaps.gone session.deeds reaps.new_is both commands terms.end after_reaps
        (nothing_new commands asked_before) refl refl (all_reaped reaps both)
        (λ said. let never : true ≡ false = sym said ∙ open_yet in absurd (cc)) kept.matches.earlier

    -- the ring was too full
    pub kept_ring : (need_is room_is : ℕ) → ShowsRingFull command session given need_is room_is
        → BothEnds given session' device device'
        → IsRightSoFar (with_news terms commands terms.end terms.whole session.deeds) session' device'
        (events ++ ring_full need_is room_is ∷ [])
    unfolding after_reaps
    kept_ring need_is room_is finds both =
        let now = with_news terms commands terms.end terms.whole session.deeds in
        let right : IsRingFull now kept.standing need_is room_is after_reaps = record {
          command = command;
          asked = subst (λ number. slice_get commands number ≡ Some command) (sym count_is) asked_now;
          open_yet = open_yet;
          needs = finds.needs;
          has = finds.has ∙ (λ i. ring_room (kept.matches.shown.ring i) (sym (waits_now finds.reaps both) i));
          less = finds.less;
          leaves = refl;
        } in
        moved finds.reaps.gone session.deeds finds.reaps.new_is both now (ring_full need_is room_is)
        (keeps terms session (told_session finds.reaps.gone session.deeds finds.reaps.new_is both) device
        (told_device finds.reaps.gone session.deeds finds.reaps.new_is both) events (ring_full need_is room_is) kept
        after_reaps
        commands terms.end terms.whole session.deeds (nothing_new commands asked_before) right
        (full_matches finds.reaps both))

    -- the stage was used up
    pub kept_stage : (need_is free_is : ℕ) → ShowsStageFull command session given need_is free_is
        → BothEnds given session' device device'
        → IsRightSoFar (with_news terms commands terms.end terms.whole session.deeds) session' device'
        (events ++ stage_full need_is free_is ∷ [])
    unfolding after_reaps
    kept_stage need_is free_is finds both =
        let now = with_news terms commands terms.end terms.whole session.deeds in
        let ring : ring_room session.ring (waiting_behind given 0)
        ≡ ring_room terms.ring (frames_waiting kept.standing kept.standing.gathered) =
        λ i. ring_room (kept.matches.shown.ring i) (sym (waits_now finds.reaps both) i) in
        let right : IsStageFull now kept.standing need_is free_is after_reaps = record {
          command = command;
          asked = subst (λ number. slice_get commands number ≡ Some command) (sym count_is) asked_now;
          open_yet = open_yet;
          enough = omega (arith, finds.enough, ring);
          needs = finds.needs;
          has = finds.has ∙ (λ i. length (free (kept.matches.shown.stage i) (sym (waits_now finds.reaps both) i)));
          less = finds.less;
          leaves = refl;
        } in
        moved finds.reaps.gone session.deeds finds.reaps.new_is both now (stage_full need_is free_is)
        (keeps terms session (told_session finds.reaps.gone session.deeds finds.reaps.new_is both) device
        (told_device finds.reaps.gone session.deeds finds.reaps.new_is both) events (stage_full need_is free_is)
        kept after_reaps
        commands terms.end terms.whole session.deeds (nothing_new commands asked_before) right
        (full_matches finds.reaps both))

  -- the end is said for the first time: the input ended, or a call met want of memory
  module _ (open_yet : kept.standing.ended ≡ false) (commands : List Command)
      (asked_before : (number : ℕ) (earlier : Command) → slice_get terms.commands number ≡ Some earlier
      → slice_get commands number ≡ Some earlier)
      (end : SessionEnd) (known : is_known end.end ≡ true) (replies : end.replies ≡ length session.posted)
      (refused : ShowsRefusal session given) (only_then : (end.end ≡ Memory) ⊎ (refused.gone ≡ []))
      (both : BothEnds given session' device device') where
    after_end : Standing
    after_end = record kept.standing { reaped = kept.standing.reaped + length refused.gone; ended = true }

    may_be : (e : End) (gone : List Sent) → (e ≡ Memory) ⊎ (gone ≡ []) → MayHaveReaped e false (length gone)
    may_be e gone (inl is) = subst (λ (x : End). MayHaveReaped x false (length gone)) (sym is) tt
    may_be Clean gone (inr is) = ap (λ (parcels : List Sent). length parcels) is
    may_be (Protocol kind place) gone (inr is) = ap (λ (parcels : List Sent). length parcels) is
    may_be (Truncated place) gone (inr is) = ap (λ (parcels : List Sent). length parcels) is
    may_be TooLong gone (inr is) = ap (λ (parcels : List Sent). length parcels) is
    may_be ReadFault gone (inr is) = ap (λ (parcels : List Sent). length parcels) is
    may_be Memory gone (inr is) = tt
    may_be Left gone (inr is) = ap (λ (parcels : List Sent). length parcels) is

    is_at_end : IsAtEnd (with_news terms commands end terms.whole (session.deeds ++ refused.done)) kept.standing
        after_end
    unfolding after_end
    is_at_end = record {
      freed = length refused.gone;
      served = count_is ∙ sym replies;
      known = known;
      may = subst (λ said. MayHaveReaped end.end said (length refused.gone)) (sym open_yet)
          (may_be end.end refused.gone only_then);
      gathered = omega (
        arith,
        kept.matches.reaped,
        kept.matches.gathered,
        more_reaped refused.gone
            (session.deeds ++ refused.done) refused.new_is both,
        at_most refused.gone (session.deeds ++ refused.done)
            refused.new_is both,
      );
      leaves = refl;
    }

    end_leaves : LeavesSaid terms kept.standing commands end terms.whole (session.deeds ++ refused.done)
    end_leaves = record {
      asked = asked_before;
      deeds_stay = λ entry own below.
          find_deed-append entry session.deeds refused.done
          (all-map (λ (deed : Deed). deed.entry.call ≡ length session.posted) (IsElsewhere entry)
          (λ deed is. other_call entry deed.entry (λ same. absurd (omega (arith, count_is)))) refused.done
          refused.behind)
          ∙ ap (find_deed entry) kept.matches.shown.deeds;
      sent_stay = λ call below is. is;
      dropped_stay = λ call below is. is;
      end_stays = λ said. let never : true ≡ false = sym said ∙ open_yet in absurd (cc);
    }

    pub kept_end : IsRightSoFar (with_news terms commands end terms.whole (session.deeds ++ refused.done)) session'
        device' (events ++ at_end ∷ [])
    unfolding after_end
    kept_end = moved refused.gone (session.deeds ++ refused.done) refused.new_is both
        (with_news terms commands end terms.whole (session.deeds ++ refused.done)) at_end
        (keeps terms session (told_session refused.gone (session.deeds ++ refused.done) refused.new_is both) device
        (told_device refused.gone (session.deeds ++ refused.done) refused.new_is both) events at_end kept after_end
        commands end terms.whole (session.deeds ++ refused.done) end_leaves is_at_end
        (reaped_matches refused.gone (session.deeds ++ refused.done) refused.new_is both commands end after_end
        end_leaves refl refl
        (omega (
          arith,
          kept.matches.reaped,
          more_reaped refused.gone (session.deeds ++ refused.done) refused.new_is
              both,
        ))
        (λ said. (count_is ∙ sym replies, known)) (λ never. let impossible : true ≡ false = never in absurd (cc))))

may_again : (e : End) → MayHaveReaped e true 0
may_again Clean = refl
may_again (Protocol kind place) = refl
may_again (Truncated place) = refl
may_again TooLong = refl
may_again ReadFault = refl
may_again Memory = refl
may_again Left = refl

-- the end is said again
pub kept_end_again : (terms : Terms) (session : SessionShown) (device : DeviceShown) (events : List LineEvent)
    (kept : IsRightSoFar terms session device events) → kept.standing.ended ≡ true
    → IsRightSoFar terms session device (events ++ at_end ∷ [])
kept_end_again terms session device events kept said =
    let none : kept.standing.reaped ≡ kept.standing.reaped + 0 = omega arith in
    let known = kept.matches.known said in
    let most = front_length session.reaped device.completed kept.matches.in_order.reaped.0
    kept.matches.in_order.reaped.1 in
    keeps_on terms session session device device events at_end kept kept.standing
    (record {
      freed = 0;
      served = known.0;
      known = known.1;
      may = subst (λ over. MayHaveReaped terms.end.end over 0) (sym said) (may_again terms.end.end);
      gathered = omega (arith, kept.matches.reaped, kept.matches.gathered, most);
      leaves = λ i. record {
        frames = kept.standing.frames;
        gathered = kept.standing.gathered;
        reaped = none i;
        ended = said i;
      };
    })
    kept.matches
