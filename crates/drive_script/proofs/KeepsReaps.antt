-- Lines of reaps, and lines at which nothing changed.
use Rattle.std.proofs.Common.{◌≡◌, ℕ, ◌+◌, Bool, true, false, List, [], ◌∷◌, ◌++◌, length, slice_get, Some, arith, refl}
use Rattle.std.proofs.Common.{ap, sym, ◌∙◌, subst, length-append}
use Rattle.std.proofs.lemmas.List.{length-map}
use Rattle.transcript_model.specs.Lines.{LineEvent, nothing_posted, reaped, nothing_reaped}
use Rattle.transcript_model.specs.Terms.{Terms}
use Rattle.reply_layout.specs.Frames.{Frame}
use Rattle.transcript_model.specs.Standing.{Standing, at_first}
use Rattle.transcript_model.specs.Right.{IsReaped, IsRight}
use Rattle.drive_script.specs.Views.{SessionShown, DeviceShown, InOrder, frames_shown}
use Rattle.drive_script.specs.Calls.{GathersNone, ShowsOneReap, ShowsNoReap, BothEnds}
use Rattle.command_exec.specs.Executed.{frame_shown}
use Rattle.any_wire.specs.Texts.{AreWhole}
use Rattle.drive_script.specs.Matches.{Matches, IsRightSoFar}
use Rattle.drive_script.proofs.Lists.{get_map, front_length}
use Rattle.transcript_model.proofs.Stays.{right-append}

-- a line that is right and tells nothing new
pub keeps_on : (terms : Terms) (session session' : SessionShown) (device device' : DeviceShown)
    (events : List LineEvent) (event : LineEvent) (kept : IsRightSoFar terms session device events) (after : Standing)
    → IsRight terms kept.standing event after → Matches terms session' device' after
    → IsRightSoFar terms session' device' (events ++ event ∷ [])
keeps_on terms session session' device device' events event kept after right matches =
    record {
      standing = after;
      right = right-append terms at_first kept.standing after events event kept.right right;
      matches = matches;
    }

pub frames_count : (session : SessionShown) → length (frames_shown session) ≡ length session.posted
frames_count session = length-map session.posted (frame_shown session.sizes)

-- a flush that failed leaves it at what was sent whole
still_whole : (failed now : Bool) (whole completed : ℕ) → (failed ≡ true → now ≡ true)
    → AreWhole failed whole completed → AreWhole now whole completed
still_whole false false whole completed stays is = is
still_whole false true whole completed stays is = omega arith
still_whole true false whole completed stays is = let never : false ≡ true = stays refl in absurd (cc)
still_whole true true whole completed stays is = is

-- the ring was found empty: all that was posted was gathered
pub kept_empty : (terms : Terms) (session : SessionShown) (device device' : DeviceShown) (events : List LineEvent)
    (kept : IsRightSoFar terms session device events) → GathersNone device device'
    → IsRightSoFar terms session device' (events ++ nothing_posted ∷ [])
kept_empty terms session device device' events kept none =
    let m = kept.matches in
    let most = front_length device.completed session.posted m.in_order.completed.0 m.in_order.completed.1 in
    let all : kept.standing.gathered ≡ length kept.standing.frames =
    omega (
      arith,
      m.gathered,
      m.device_told,
      none.told,
      most,
      ap (λ (frames : List Frame). length frames) m.frames,
      frames_count session,
    ) in
    let now : DeviceShown = record device { failed = device'.failed } in
    subst (λ (d : DeviceShown). IsRightSoFar terms session d (events ++ nothing_posted ∷ [])) (sym none.new_is)
    (keeps_on terms session session device now events nothing_posted kept kept.standing (all, refl) (record {
      shown = record {
        number = m.shown.number;
        sizes = m.shown.sizes;
        ring = m.shown.ring;
        threshold = m.shown.threshold;
        stage = m.shown.stage;
        deeds = m.shown.deeds;
      };
      frames = m.frames;
      reaped = m.reaped;
      gathered = m.gathered;
      whole = still_whole device.failed device'.failed terms.whole (length device.completed) none.stays m.whole;
      in_order = record { reaped = m.in_order.reaped; completed = m.in_order.completed };
      told = m.told;
      device_told = m.device_told;
      texts = m.texts;
      numbered = m.numbered;
      earlier = m.earlier;
      known = m.known;
    }))

-- nothing was there to reap: all that was gathered was reaped
pub kept_none : (terms : Terms) (session session' : SessionShown) (device : DeviceShown) (events : List LineEvent)
    (kept : IsRightSoFar terms session device events) → ShowsNoReap session session'
    → IsRightSoFar terms session' device (events ++ nothing_reaped ∷ [])
kept_none terms session session' device events kept none =
    let m = kept.matches in
    let most = front_length session.reaped device.completed m.in_order.reaped.0 m.in_order.reaped.1 in
    let all : kept.standing.reaped ≡ kept.standing.gathered =
    omega (arith, m.gathered, m.reaped, m.told, none.told, most) in
    subst (λ (s : SessionShown). IsRightSoFar terms s device (events ++ nothing_reaped ∷ [])) (sym none.new_is)
    (keeps_on terms session session device device events nothing_reaped kept kept.standing (all, refl) m)

module _ (terms : Terms) (session given session' : SessionShown) (device device' : DeviceShown)
    (events : List LineEvent) (kept : IsRightSoFar terms session device events) (call recycled : ℕ)
    (reaps : ShowsOneReap session given call recycled) (both : BothEnds given session' device device') where
  -- the session and the device, with both ends at hand behind the reap
  told_session : SessionShown
  told_session = record session { reaped = session.reaped ++ reaps.parcel ∷ []; told = length device.completed }

  told_device : DeviceShown
  told_device = record device { told = length session.posted }

  session_is : session' ≡ told_session
  unfolding told_session
  session_is = both.session
      ∙ ap (λ (s : SessionShown). let t : SessionShown = record s { told = length device.completed } in t) reaps.new_is

  device_is : device' ≡ told_device
  unfolding told_device
  device_is = both.device
      ∙ ap (λ (s : SessionShown). let d : DeviceShown = record device { told = length s.posted } in d) reaps.new_is

  order : InOrder told_session told_device
  order = subst (λ (s : SessionShown). InOrder s told_device) session_is
      (subst (λ (d : DeviceShown). InOrder session' d) device_is both.in_order)

  one_more : length (session.reaped ++ reaps.parcel ∷ []) ≡ length session.reaped + 1
  one_more = length-append session.reaped (reaps.parcel ∷ [])

  after_reap : Standing
  after_reap = record kept.standing { reaped = kept.standing.reaped + 1 }

  is_reaped : IsReaped terms kept.standing call recycled after_reap
  unfolding after_reap told_session told_device
  is_reaped =
      let m = kept.matches in
      let place : call ≡ length session.reaped = reaps.call_is
      ∙ m.numbered (length session.reaped) reaps.parcel reaps.oldest in
      let below = front_length (session.reaped ++ reaps.parcel ∷ []) device.completed order.reaped.0 order.reaped.1 in
      record {
        frame = frame_shown session.sizes reaps.parcel;
        next = place ∙ sym m.reaped;
        gathered = omega (arith, m.reaped, m.gathered, below, one_more);
        posted_is = subst (λ frames. slice_get frames call ≡ Some (frame_shown session.sizes reaps.parcel))
            (sym m.frames)
            (subst (λ n. slice_get (frames_shown session) n ≡ Some (frame_shown session.sizes reaps.parcel)) (sym place)
            (get_map (frame_shown session.sizes) session.posted (length session.reaped) reaps.parcel reaps.oldest));
        recycles = reaps.recycles;
        leaves = refl;
      }

  reap_matches : Matches terms told_session told_device after_reap
  unfolding after_reap told_session told_device
  reap_matches =
      let m = kept.matches in
      record {
        shown = record {
          number = m.shown.number;
          sizes = m.shown.sizes;
          ring = m.shown.ring;
          threshold = m.shown.threshold;
          stage = m.shown.stage;
          deeds = m.shown.deeds;
        };
        frames = m.frames;
        reaped = omega (arith, m.reaped, one_more);
        gathered = m.gathered;
        whole = m.whole;
        in_order = order;
        told = refl;
        device_told = refl;
        texts = m.texts;
        numbered = m.numbered;
        earlier = m.earlier;
        known = m.known;
      }

  -- a frame was reaped
  pub kept_reap : IsRightSoFar terms session' device' (events ++ reaped call recycled ∷ [])
  kept_reap = subst (λ (s : SessionShown). IsRightSoFar terms s device' (events ++ reaped call recycled ∷ []))
      (sym session_is)
      (subst (λ (d : DeviceShown). IsRightSoFar terms told_session d (events ++ reaped call recycled ∷ []))
      (sym device_is)
      (keeps_on terms session told_session device told_device events (reaped call recycled) kept after_reap is_reaped
      reap_matches))
