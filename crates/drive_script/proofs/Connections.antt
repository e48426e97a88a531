-- A driven session, over each kind of line.
use Rattle.std.proofs.Common.{◌≡◌, ℕ, ◌+◌, Bool, true, false, List, [], ◌∷◌, ◌++◌, length, slice_get, Option, Some}
use Rattle.std.proofs.Common.{refl, ap, sym, ◌∙◌, subst, arith, length-append}
use Rattle.flake_base.specs.declared.session.End.{End}
use Rattle.flake_model.specs.Command.{Command}
use Rattle.reply_planner.specs.Parcels.{Sent, texts_in}
use Rattle.transcript_model.specs.Lines.{LineEvent, sent, dropped, nothing_posted, reaped, nothing_reaped}
use Rattle.transcript_model.specs.News.{with_news}
use Rattle.any_wire.specs.Texts.{Sending, WireGrew, AreWhole, IsSending}
use Rattle.drive_script.specs.Calls.{Gathers, GathersNone, ShowsOneReap, ShowsNoReap, BothEnds}
use Rattle.drive_script.specs.Views.{SessionShown, DeviceShown}
use Rattle.drive_script.proofs.Ended.{says_end-other}
use Rattle.drive_script.proofs.Keeps.{kept_sent, kept_dropped}
use Rattle.drive_script.proofs.KeepsReaps.{kept_empty, kept_none, kept_reap}
use Rattle.drive_script.proofs.Lists.{get_map, get_next}
use Rattle.any_wire.proofs.Texts.{wire_sent, wire_cut, wire_idle}
use Rattle.drive_script.specs.Connections.{Fixed, IsDriven, IsConnection}

whole_now : (failed : Bool) (whole completed : ℕ) → AreWhole failed whole completed → failed ≡ false
    → whole ≡ completed
whole_now false whole completed is none = is
whole_now true whole completed is none = let never : true ≡ false = none in absurd (cc)

-- the next reply stands behind those that were completed
next_text : (session session' : SessionShown) (gathered device device' : DeviceShown) (parcel : Sent)
    → gathered.completed ≡ device.completed ++ parcel ∷ [] → BothEnds session session' gathered device'
    → slice_get (texts_in session.posted) (length device.completed) ≡ Some parcel.text
next_text session session' gathered device device' parcel completed both =
    let front = both.in_order.completed in
    let posted : session'.posted ≡ session.posted = ap (λ (s : SessionShown). s.posted) both.session in
    let done : device'.completed ≡ device.completed ++ parcel ∷ [] = ap (λ (d : DeviceShown). d.completed) both.device
    ∙ completed in
    get_map (λ (reply : Sent). reply.text) session.posted (length device.completed) parcel
    (get_next session.posted device.completed front.0 parcel
    (sym posted ∙ front.1 ∙ ap (λ (list : List Sent). list ++ front.0) done))

module _ (fixed : Fixed) (given : List Command) (end : Option End) (events : List LineEvent) where
  module _ {W : Type 0} (sends : Sending W) (is : IsSending sends) (start : W) where
    -- the lines are on a session that both ends told nothing new but this
    moved_wire : (session session' : SessionShown) (gathered device' : DeviceShown) (failed : Bool) (whole : ℕ)
        (now : W) → BothEnds session session' gathered device' → gathered.failed ≡ failed
        → WireGrew sends failed whole (texts_in session.posted) start now → WireGrew sends device'.failed whole
        (texts_in session'.posted) start now
    moved_wire session session' gathered device' failed whole now both failed_is grew =
        let posted : session.posted ≡ session'.posted = sym (ap (λ (s : SessionShown). s.posted) both.session) in
        let flag : failed ≡ device'.failed = sym (ap (λ (d : DeviceShown). d.failed) both.device ∙ failed_is) in
        subst (λ (b : Bool). WireGrew sends b whole (texts_in session'.posted) start now) flag
        (subst (λ (list : List Sent). WireGrew sends failed whole (texts_in list) start now) posted grew)

    pub connection_sent : (session session' : SessionShown) (device gathered device' : DeviceShown) (wire now : W)
        (call bytes : ℕ) → IsConnection sends fixed start given end events session device wire
        → (gathers : Gathers device gathered call bytes true) → BothEnds session session' gathered device'
        → sends false gathers.parcel.text wire now
        → IsConnection sends fixed start given end (events ++ sent call bytes ∷ []) session' device' now
    connection_sent session session' device gathered device' wire now call bytes connection gathers both put =
        let driven = connection.driven in
        let terms = driven.terms in
        let none_failed = gathers.stays refl in
        let all : terms.whole ≡ length device.completed = whole_now device.failed terms.whole (length device.completed)
        driven.kept.matches.whole none_failed in
        let at : slice_get (texts_in session.posted) connection.whole ≡ Some gathers.parcel.text =
        subst (λ n. slice_get (texts_in session.posted) n ≡ Some gathers.parcel.text) (sym all ∙ driven.whole_is)
        (next_text session session' gathered device device' gathers.parcel gathers.completed both) in
        let more : connection.whole + 1 ≡ length gathered.completed =
        omega (
          arith,
          all,
          driven.whole_is,
          ap (λ (list : List Sent). length list) gathers.completed,
          length-append
              device.completed (gathers.parcel ∷ []),
        ) in
        let was : WireGrew sends false connection.whole (texts_in session.posted) start wire =
        subst (λ (b : Bool). WireGrew sends b connection.whole (texts_in session.posted) start wire) none_failed
        connection.grew
        in
        record {
          whole = length gathered.completed;
          driven = record {
            terms = with_news terms terms.commands terms.end (length gathered.completed) terms.deeds;
            fixed_is = driven.fixed_is;
            given_is = driven.given_is;
            whole_is = refl;
            kept = kept_sent terms session session' device gathered device' events call bytes driven.kept gathers both;
            ended_is = says_end-other events (sent call bytes) refl ∙ driven.ended_is;
            end_is = driven.end_is;
          };
          grew = moved_wire session session' gathered device' false (length gathered.completed) now both gathers.failed
              (subst (λ n. WireGrew sends false n (texts_in session.posted) start now) more
              (wire_sent sends is connection.whole (texts_in session.posted) gathers.parcel.text start wire now at was
              put));
        }

    -- a put failed in it, or something had failed before, and the wire is as it was
    pub connection_dropped : (session session' : SessionShown) (device gathered device' : DeviceShown) (wire now : W)
        (call bytes : ℕ) → IsConnection sends fixed start given end events session device wire
        → (gathers : Gathers device gathered call bytes false) → BothEnds session session' gathered device'
        → (device.failed ≡ false → sends true gathers.parcel.text wire now) → (device.failed ≡ true → now ≡ wire)
        → IsConnection sends fixed start given end (events ++ dropped call bytes ∷ []) session' device' now
    connection_dropped session session' device gathered device' wire now call bytes connection gathers both put none =
        let driven = connection.driven in
        let terms = driven.terms in
        record {
          whole = connection.whole;
          driven = record {
            terms = with_news terms terms.commands terms.end terms.whole terms.deeds;
            fixed_is = driven.fixed_is;
            given_is = driven.given_is;
            whole_is = driven.whole_is;
            kept = kept_dropped terms session session' device gathered device' events call bytes driven.kept gathers
                both;
            ended_is = says_end-other events (dropped call bytes) refl ∙ driven.ended_is;
            end_is = driven.end_is;
          };
          grew = moved_wire session session' gathered device' true connection.whole now both gathers.failed
              (by_flag device.failed refl);
        }
      where
        by_flag : (failed : Bool) → device.failed ≡ failed
            → WireGrew sends true connection.whole (texts_in session.posted) start now
        by_flag true flag =
            subst (λ (w : W). WireGrew sends true connection.whole (texts_in session.posted) start w) (sym (none flag))
            (subst (λ (b : Bool). WireGrew sends b connection.whole (texts_in session.posted) start wire) flag
            connection.grew)
        by_flag false flag =
            let all = whole_now device.failed connection.driven.terms.whole (length device.completed)
            connection.driven.kept.matches.whole flag in
            let at : slice_get (texts_in session.posted) connection.whole ≡ Some gathers.parcel.text =
            subst (λ n. slice_get (texts_in session.posted) n ≡ Some gathers.parcel.text)
            (sym all ∙ connection.driven.whole_is)
            (next_text session session' gathered device device' gathers.parcel gathers.completed both) in
            wire_cut sends is connection.whole (texts_in session.posted) gathers.parcel.text start wire now at
            (subst (λ (b : Bool). WireGrew sends b connection.whole (texts_in session.posted) start wire) flag
            connection.grew)
            (put flag)

    -- the ring was empty, and the wire was flushed, where nothing had failed
    pub connection_empty : (session : SessionShown) (device device' : DeviceShown) (wire now : W)
        → IsConnection sends fixed start given end events session device wire
        → GathersNone device device' → (device.failed ≡ false → sends device'.failed [] wire now)
        → (device.failed ≡ true → (now ≡ wire))
        → IsConnection sends fixed start given end (events ++ nothing_posted ∷ []) session device' now
    connection_empty session device device' wire now connection none flush as_before =
        let driven = connection.driven in
        record {
          whole = connection.whole;
          driven = record {
            terms = driven.terms;
            fixed_is = driven.fixed_is;
            given_is = driven.given_is;
            whole_is = driven.whole_is;
            kept = kept_empty driven.terms session device device' events driven.kept none;
            ended_is = says_end-other events nothing_posted refl ∙ driven.ended_is;
            end_is = driven.end_is;
          };
          grew = by_flag device.failed refl;
        }
      where
        by_flag : (failed : Bool) → device.failed ≡ failed → WireGrew sends device'.failed connection.whole
            (texts_in session.posted) start now
        by_flag true flag =
            subst (λ (w : W). WireGrew sends device'.failed connection.whole (texts_in session.posted) start w)
            (sym (as_before flag))
            (subst (λ (b : Bool). WireGrew sends b connection.whole (texts_in session.posted) start wire)
            (flag ∙ sym (none.stays flag)) connection.grew)
        by_flag false flag = wire_idle sends is device'.failed connection.whole (texts_in session.posted) start wire now
            (subst (λ (b : Bool). WireGrew sends b connection.whole (texts_in session.posted) start wire) flag
            connection.grew)
            (flush flag)

  module _ (whole : ℕ) where
    pub connection_reaped : (session between session' : SessionShown) (device device' : DeviceShown) (call recycled : ℕ)
        → IsDriven fixed given end whole events session device
        → ShowsOneReap session between call recycled → BothEnds between session' device device'
        → IsDriven fixed given end whole (events ++ reaped call recycled ∷ []) session' device'
    connection_reaped session between session' device device' call recycled driven reaps both = record {
      terms = driven.terms;
      fixed_is = driven.fixed_is;
      given_is = driven.given_is;
      whole_is = driven.whole_is;
      kept = kept_reap driven.terms session between session' device device' events driven.kept call recycled reaps both;
      ended_is = says_end-other events (reaped call recycled) refl ∙ driven.ended_is;
      end_is = driven.end_is;
    }

    pub connection_none : (session session' : SessionShown) (device : DeviceShown)
        → IsDriven fixed given end whole events session device → ShowsNoReap session session'
        → IsDriven fixed given end whole (events ++ nothing_reaped ∷ []) session' device
    connection_none session session' device driven none = record {
      terms = driven.terms;
      fixed_is = driven.fixed_is;
      given_is = driven.given_is;
      whole_is = driven.whole_is;
      kept = kept_none driven.terms session session' device events driven.kept none;
      ended_is = says_end-other events nothing_reaped refl ∙ driven.ended_is;
      end_is = driven.end_is;
    }

-- both ends at hand once more change nothing
pub told_again : (fixed : Fixed) (given : List Command) (end : Option End) (whole : ℕ) (events : List LineEvent)
    (session session' : SessionShown) (device device' : DeviceShown)
    → IsDriven fixed given end whole events session device
    → session' ≡ record session { told = length device.completed }
    → device' ≡ record device { told = length session.posted } → (session' ≡ session) × (device' ≡ device)
told_again fixed given end whole events session session' device device' driven session_is device_is =
    let s : SessionShown → ℕ → SessionShown = λ shown n. record shown { told = n } in
    let d : DeviceShown → ℕ → DeviceShown = λ shown n. record shown { told = n } in (
      session_is ∙ ap (s session) (sym driven.kept.matches.told),
      device_is
          ∙ ap (d device) (sym driven.kept.matches.device_told),
    )
