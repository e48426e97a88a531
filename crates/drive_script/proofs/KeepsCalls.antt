-- Lines of calls.
use Rattle.std.proofs.Common.{◌≡◌, ℕ, ◌+◌, ◌<◌, true, false, List, [], ◌∷◌, ◌++◌, length, slice_get, Some, arith, refl}
use Rattle.std.proofs.Common.{ap, sym, ◌∙◌, subst, length-append}
use Rattle.std.specs.Prelude.{map, drop}
use Rattle.std.specs.List.{AllByRecursion, flat_map}
use Rattle.std.proofs.lemmas.List.{map-append}
use Rattle.flake_model.specs.Reply.{reply_text}
use Rattle.reply_layout.specs.Pieces.{reply_from}
use Rattle.flake_base.specs.declared.segment.Seg.{Seg}
use Rattle.flake_model.specs.Command.{Command, parts}
use Rattle.flake_model.specs.Journal.{call_steps}
use Rattle.flake_model.specs.Deed.{Deed}
use Rattle.transcript_model.specs.Deeds.{find_deed}
use Rattle.reply_layout.specs.declared.need.Need.{Need}
use Rattle.reply_layout.specs.Need.{need_of}
use Rattle.transcript_model.specs.Lines.{LineEvent, posted}
use Rattle.transcript_model.specs.Terms.{Terms}
use Rattle.reply_layout.specs.Frames.{Frame}
use Rattle.transcript_model.specs.Standing.{Standing, frames_waiting, free, FitsStanding}
use Rattle.reply_layout.specs.Frames.{frame_from}
use Rattle.transcript_model.specs.Frames.{deeds_of, frame_of, fragments_stored}
use Rattle.view_sums.specs.Total.{Each}
use Rattle.shard_core.specs.Parts.{IsInBuffer}
use Rattle.transcript_model.specs.Right.{IsPosted}
use Rattle.transcript_model.specs.News.{with_news, LeavesSaid}
use Rattle.reply_planner.specs.Parcels.{Sent}
use Rattle.drive_script.specs.Views.{SessionShown, DeviceShown, InOrder, waiting_behind}
use Rattle.drive_script.specs.Calls.{done_deeds, ShowsPost, BothEnds}
use Rattle.command_exec.specs.Executed.{frame_shown}
use Rattle.drive_script.specs.Matches.{IsReply, AreReplies, Matches, IsRightSoFar}
use Rattle.drive_script.proofs.Lists.{get_last, front_length}
use Rattle.drive_script.proofs.Lookups.{all-map, all-append, IsOfCall, of_call, outcomes_are_found, earlier_stay}
use Rattle.drive_script.proofs.Keeps.{keeps, replies_stay}
use Rattle.drive_script.proofs.KeepsReaps.{frames_count}

module _ (terms : Terms) (session given session' : SessionShown) (device device' : DeviceShown)
    (events : List LineEvent) (kept : IsRightSoFar terms session device events) (open_yet : kept.standing.ended ≡ false)
    (command : Command) (call freed : ℕ) (sent stored : List Seg)
    (posts : ShowsPost command session given call freed sent stored) (both : BothEnds given session' device device')
    -- the commands that are known now, this one among them
    (commands : List Command) (asked_before : (number : ℕ) (earlier : Command) → slice_get terms.commands number
    ≡ Some earlier → slice_get commands number ≡ Some earlier)
    (asked_now : slice_get commands (length session.posted) ≡ Some command) where
  now : Terms
  now = with_news terms commands terms.end terms.whole given.deeds

  told_session : SessionShown
  told_session = record given { told = length device.completed }

  told_device : DeviceShown
  told_device = record device { told = length given.posted }

  order : InOrder told_session told_device
  unfolding told_session told_device
  order = subst (λ (s : SessionShown). InOrder s (record device { told = length given.posted })) both.session
      (subst (λ (d : DeviceShown). InOrder session' d) both.device both.in_order)

  -- what waits behind so many reaps
  waits : (n : ℕ) → frames_waiting kept.standing (kept.standing.reaped + n) ≡ waiting_behind session n
  waits n = λ i. drop (kept.matches.reaped i + n) (kept.matches.frames i)

  fits_here : (n : ℕ) (need : Need) → FitsStanding session.ring session.stage (waiting_behind session n) need
      → FitsStanding terms.ring terms.stage (frames_waiting kept.standing (kept.standing.reaped + n)) need
  fits_here n need fits = subst (λ frames. FitsStanding terms.ring terms.stage frames need) (sym (waits n))
      (subst (λ stage. FitsStanding terms.ring stage (waiting_behind session n) need) kept.matches.shown.stage
      (subst (λ ring. FitsStanding ring session.stage (waiting_behind session n) need) kept.matches.shown.ring
      fits))

  fits_there : (n : ℕ) (need : Need) → FitsStanding terms.ring terms.stage
      (frames_waiting kept.standing (kept.standing.reaped + n)) need → FitsStanding session.ring session.stage
      (waiting_behind session n) need
  fits_there n need fits = subst (λ ring. FitsStanding ring session.stage (waiting_behind session n) need)
      (sym kept.matches.shown.ring)
      (subst (λ stage. FitsStanding terms.ring stage (waiting_behind session n) need) (sym kept.matches.shown.stage)
      (subst (λ frames. FitsStanding terms.ring terms.stage frames need) (waits n) fits))

  earlier : AllByRecursion (λ (deed : Deed). deed.entry.call < length session.posted) session.deeds
  earlier = kept.matches.earlier open_yet

  -- what is found at the entries of this call
  found_now : deeds_of now call command ≡ posts.outcomes
  unfolding now
  found_now =
      let at = outcomes_are_found session.number (length session.posted) (parts command) posts.outcomes session.deeds
      posts.outcomes_are earlier in
      subst (λ deeds. map (λ step. find_deed step.0 deeds) (call_steps terms.number call 0 (parts command))
      ≡ posts.outcomes) (sym posts.deeds)
      (subst (λ number. map (λ step. find_deed step.0 (session.deeds ++ done_deeds posts.outcomes))
      (call_steps number call 0 (parts command)) ≡ posts.outcomes) kept.matches.shown.number
      (subst (λ number. map (λ step. find_deed step.0 (session.deeds ++ done_deeds posts.outcomes))
      (call_steps session.number number 0 (parts command)) ≡ posts.outcomes) (sym posts.call_is) at))

  frame_now : frame_shown session.sizes posts.parcel
      ≡ frame_of now (free terms.stage (frames_waiting kept.standing (kept.standing.reaped + freed))) call command
  unfolding now
  frame_now = posts.laid_out
      ∙ (λ i. frame_from (kept.matches.shown.threshold i) (free (kept.matches.shown.stage i) (sym (waits freed) i))
      command (sym found_now i))

  after_post : Standing
  after_post = record kept.standing {
    frames = kept.standing.frames ++ frame_shown session.sizes posts.parcel ∷ [];
    reaped = kept.standing.reaped + freed;
  }

  reaped_now : length given.reaped ≡ length session.reaped + freed
  reaped_now = omega (
    arith,
    ap (λ (parcels : List Sent). length parcels) posts.reaped,
    length-append session.reaped
        posts.gone,
    posts.freed_is,
  )

  is_posted : IsPosted now kept.standing call freed sent stored after_post
  unfolding now after_post told_session told_device
  is_posted =
      let below = front_length given.reaped device.completed order.reaped.0 order.reaped.1 in
      record {
        command = command;
        next = omega (
          arith,
          posts.call_is,
          ap (λ (frames : List Frame). length frames) kept.matches.frames,
          frames_count session,
        );
        asked = subst (λ number. slice_get commands number ≡ Some command) (sym posts.call_is) asked_now;
        least = record {
          gathered = omega (arith, kept.matches.reaped, kept.matches.gathered, reaped_now, below);
          fits = fits_here freed (need_of command) posts.fits;
          least = λ fewer less fits. posts.least fewer less (fits_there fewer (need_of command) fits);
        };
        segments_are = posts.sent_is ∙ ap (λ (frame : Frame). frame.segments) frame_now;
        fragments_are = posts.stored_is ∙ ap (flat_map fragments_stored) (sym found_now);
        buffers = subst (λ sizes. Each (IsInBuffer sizes) stored) kept.matches.shown.sizes posts.in_buffers;
        leaves = ap (λ (frame : Frame). let made : Standing =
            record kept.standing { frames = kept.standing.frames ++ frame ∷ []; reaped = kept.standing.reaped + freed }
            in made) frame_now;
      }

  leaves_said : LeavesSaid terms kept.standing commands terms.end terms.whole given.deeds
  leaves_said = record {
    asked = asked_before;
    deeds_stay = λ entry own below.
        let posted_before : entry.call < length session.posted =
        omega (arith, ap (λ (frames : List Frame). length frames) kept.matches.frames, frames_count session) in
        ap (find_deed entry) posts.deeds ∙ earlier_stay session.number (length session.posted)
        (parts command) posts.outcomes session.deeds entry posts.outcomes_are posted_before
        ∙ ap (find_deed entry) kept.matches.shown.deeds;
    sent_stay = λ number below is. is;
    dropped_stay = λ number below is. is;
    end_stays = λ is. (refl, refl);
  }

  one_more : length given.posted ≡ length session.posted + 1
  one_more = omega (
    arith,
    ap (λ (parcels : List Sent). length parcels) posts.posted,
    length-append session.posted
        (posts.parcel ∷ []),
  )

  post_matches : Matches now told_session told_device after_post
  unfolding now after_post told_session told_device
  post_matches =
      let m = kept.matches in
      record {
        shown = record {
          number = posts.number ∙ m.shown.number;
          sizes = posts.sizes ∙ m.shown.sizes;
          ring = posts.ring ∙ m.shown.ring;
          threshold = posts.threshold ∙ m.shown.threshold;
          stage = posts.stage ∙ m.shown.stage;
          deeds = refl;
        };
        frames = ap (λ frames. frames ++ frame_shown session.sizes posts.parcel ∷ []) m.frames
            ∙ sym (map-append (frame_shown session.sizes) session.posted (posts.parcel ∷ []))
            ∙ (λ i. map (frame_shown (sym posts.sizes i)) (sym posts.posted i));
        reaped = omega (arith, m.reaped, reaped_now);
        gathered = m.gathered;
        whole = m.whole;
        in_order = order;
        told = refl;
        device_told = refl;
        texts = subst (λ parcels. AreReplies now parcels) (sym posts.posted)
            (get_last (IsReply now) session.posted posts.parcel
            (replies_stay terms session kept.standing commands terms.end terms.whole given.deeds leaves_said
            (ap (λ (frames : List Frame). length frames) m.frames ∙ frames_count session) m.texts)
            (record {
              command = command;
              asked = asked_now;
              text = posts.text ∙ ap (λ outcomes. reply_text (reply_from command outcomes)) (sym found_now)
                  ∙ ap (λ number. reply_text (reply_from command (deeds_of now number command))) posts.call_is;
            }));
        numbered = subst (λ parcels. (place : ℕ) (parcel : Sent) → slice_get parcels place ≡ Some parcel → parcel.call
            ≡ place) (sym posts.posted)
            (get_last (λ place (parcel : Sent). parcel.call ≡ place) session.posted posts.parcel m.numbered
            (posts.numbered ∙ posts.call_is));
        known = λ said. let never : true ≡ false = sym said ∙ open_yet in absurd (cc);
        earlier = λ still_open. subst
            (λ deeds. AllByRecursion (λ (deed : Deed). deed.entry.call < length given.posted) deeds) (sym posts.deeds)
            (all-append (λ (deed : Deed). deed.entry.call < length given.posted) session.deeds
            (done_deeds posts.outcomes)
            (all-map (λ (deed : Deed). deed.entry.call < length session.posted)
            (λ (deed : Deed). deed.entry.call < length given.posted) (λ deed below. omega (arith, one_more))
            session.deeds earlier)
            (all-map (IsOfCall session.number (length session.posted) 0)
            (λ (deed : Deed). deed.entry.call < length given.posted)
            (λ deed is. omega (arith, one_more, is.call_is)) (done_deeds posts.outcomes)
            (of_call session.number (length session.posted) (parts command) posts.outcomes posts.outcomes_are)));
      }

  -- a call was posted
  pub kept_call : IsRightSoFar (with_news terms commands terms.end terms.whole given.deeds) session' device'
      (events ++ posted call freed sent stored ∷ [])
  unfolding now told_session told_device
  kept_call = subst (λ (s : SessionShown). IsRightSoFar (with_news terms commands terms.end terms.whole given.deeds) s
      device' (events ++ posted call freed sent stored ∷ [])) (sym both.session)
      (subst (λ (d : DeviceShown). IsRightSoFar (with_news terms commands terms.end terms.whole given.deeds)
      (record given { told = length device.completed }) d (events ++ posted call freed sent stored ∷ []))
      (sym both.device)
      (keeps terms session told_session device told_device events (posted call freed sent stored) kept after_post
      commands terms.end terms.whole given.deeds leaves_said is_posted post_matches))
