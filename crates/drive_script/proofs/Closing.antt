-- The end of a driven session.
use Rattle.std.proofs.Common.{◌≡◌, ℕ, Bool, true, false, List, [], ◌∷◌, ◌++◌, length, Option, Some, None, inl, inr}
use Rattle.std.proofs.Common.{refl, ap, sym, ◌∙◌, subst}
use Rattle.std.specs.Prelude.{slice_get, is_some, unwrap_or, ◌||◌}
use Rattle.std.specs.List.{AllByRecursion}
use Rattle.flake_base.specs.declared.session.End.{End}
use Rattle.flake_base.specs.declared.session.End.TheVariants.{Clean, Protocol, Truncated, TooLong, ReadFault, Memory}
use Rattle.flake_base.specs.declared.session.End.TheVariants.{Left}
use Rattle.flake_base.specs.declared.session.SessionEnd.{SessionEnd}
use Rattle.flake_model.specs.Command.{Command}
use Rattle.pin_core.specs.declared.sizes.Sizes.{Sizes}
use Rattle.command_pump.specs.Pump.{Origin, PumpState, ended_at}
use Rattle.order_book.specs.Closed.{own_deeds}
use Rattle.order_book.specs.Pages.{SessionList}
use Rattle.reply_layout.specs.Frames.{Frame}
use Rattle.reply_planner.specs.Parcels.{Sent, texts_in}
use Rattle.transcript_model.specs.Lines.{LineEvent, posted, ring_full, stage_full, at_end, sent, dropped}
use Rattle.transcript_model.specs.Lines.{nothing_posted, reaped, nothing_reaped}
use Rattle.transcript_model.specs.News.{with_news}
use Rattle.transcript_model.specs.Right.{is_known}
use Rattle.any_wire.specs.Texts.{Sending, WireGrew}
use Rattle.transcript_model.specs.Sessions.{IsRightSession, texts_of}
use Rattle.transcript_model.specs.Terms.{Terms}
use Rattle.drive_script.specs.Matches.{HasMore, IsRightSoFar}
use Rattle.drive_script.specs.Quiet.{IsQuiet, says_end}
use Rattle.drive_script.proofs.Ended.{kept_ended, says_end-append}
use Rattle.drive_script.proofs.Finals.{kept_news, all_texts, told_at_last}
use Rattle.drive_script.proofs.KeepsReaps.{frames_count}
use Rattle.drive_script.specs.declared.happened.Happened.{Happened}
use Rattle.drive_script.specs.declared.happened.Happened.TheVariants.{NothingPosted}
use Rattle.drive_script.specs.Asked.{IsAsked}
use Rattle.drive_script.specs.Driving.{Driving, fixed_at, IsUnderWay}
use Rattle.drive_script.specs.Happened.{line_event}
use Rattle.drive_script.specs.Connections.{IsEndSaid}
use Rattle.drive_script.specs.Left.{terms_at, GathersAll, HasLeft}
use Rattle.drive_script.specs.Shown.{session_shown}
use Rattle.drive_script.proofs.OneMore.{one_wire}
use Rattle.drive_script.proofs.Quiets.{gathers_all}

says_none : (quiet : List LineEvent) → AllByRecursion IsQuiet quiet → says_end quiet ≡ false
says_none [] are = refl
says_none (posted call freed segments fragments ∷ quiet) are = absurd are.0
says_none (ring_full need room ∷ quiet) are = absurd are.0
says_none (stage_full need free ∷ quiet) are = absurd are.0
says_none (at_end ∷ quiet) are = absurd are.0
says_none (sent call bytes ∷ quiet) are = says_none quiet are.1
says_none (dropped call bytes ∷ quiet) are = says_none quiet are.1
says_none (nothing_posted ∷ quiet) are = says_none quiet are.1
says_none (reaped call recycled ∷ quiet) are = says_none quiet are.1
says_none (nothing_reaped ∷ quiet) are = says_none quiet are.1

or_none : (b : Bool) → (b || false) ≡ b
or_none true = refl
or_none false = refl

-- no end is said without a line
says_quiet : (events quiet : List LineEvent) → AllByRecursion IsQuiet quiet → says_end events
    ≡ says_end (events ++ quiet)
says_quiet events quiet are = sym (says_end-append events quiet ∙ ap (λ b. says_end events || b) (says_none quiet are)
    ∙ or_none (says_end events))

known : (end : End) → (end ≡ Left → ⊥) → is_known end ≡ true
known Clean other = refl
known (Protocol kind place) other = refl
known (Truncated place) other = refl
known TooLong other = refl
known ReadFault other = refl
known Memory other = refl
known Left other = absurd (other refl)

-- the end that was said is one that is known
known_end : (origin : Origin) (before : ℕ) (given : List Command) (count : ℕ) (kept : Option Command)
    (said : Option End) (pump : PumpState) → IsAsked origin before given count kept said pump → is_some said
    ≡ is_known (unwrap_or said Left)
known_end origin before given count kept None pump asked = refl
known_end origin before given count kept (Some end) pump (inl ended) = sym (known end ended.0.to_the_end)
known_end origin before given count kept (Some end) pump (inr stopped) = ap is_known (sym stopped.0)

same_end : (said : Option End) (end : End) → IsEndSaid said end → is_some said ≡ true → unwrap_or said Left ≡ end
same_end None end is some = absurd (cc)
same_end (Some said) end is some = sym is

module _ {W : Type 0} (sends : Sending W) (z : Sizes) (shards : ℕ) where
  pub quiet_end : (first : Driving W) (events quiet : List LineEvent) (now : Driving W) (happened : Happened)
      → happened ≡ NothingPosted → AllByRecursion IsQuiet quiet
      → IsUnderWay sends z shards first ((events ++ quiet) ++ line_event happened [] [] ∷ []) now
      → GathersAll sends z shards first events now
  quiet_end first events quiet now happened is are way =
      gathers_all sends z shards first events quiet now are
      (subst (λ (h : Happened). IsUnderWay sends z shards first ((events ++ quiet) ++ line_event h [] [] ∷ []) now)
      is way)

  module _ (first now : Driving W) (events : List LineEvent) (all : GathersAll sends z shards first events now)
      (end : SessionEnd) (mine : SessionList) (mine_is : mine ≡ now.session.pass.list)
      (end_is : end ≡ ended_at (unwrap_or now.end Left) now.pump.taken (length now.session.posted) now.device.failed)
      (commands : List Command) (more : HasMore all.is.given commands) where
    kept_at_last : IsRightSoFar
        (with_news all.is.connection.driven.terms commands end all.is.connection.driven.terms.whole
        all.is.connection.driven.terms.deeds)
        (session_shown z now.session) now.device (events ++ all.quiet)
    kept_at_last =
        let driven = all.is.connection.driven in
        let kept = driven.kept in
        let terms = driven.terms in
        let session = session_shown z now.session in
        kept_news terms session now.device (events ++ all.quiet) kept commands end
        (λ place command at. more place command
        (subst (λ list. slice_get list place ≡ Some command) driven.given_is at))
        (λ said. let some : is_some now.end ≡ true = sym driven.ended_is
        ∙ sym (kept_ended terms session now.device (events ++ all.quiet) kept) ∙ said in (
          ap (λ (e : SessionEnd). e.end) end_is ∙ same_end now.end terms.end.end driven.end_is some,
          ap (λ (e : SessionEnd). e.replies) end_is
              ∙ sym (ap (λ (frames : List Frame). length frames) kept.matches.frames ∙ frames_count session)
              ∙ (kept.matches.known said).0,
        ))

    news_are : with_news all.is.connection.driven.terms commands end all.is.connection.driven.terms.whole
        all.is.connection.driven.terms.deeds ≡ terms_at (fixed_at z first.session) commands end all.is.connection.whole
        (own_deeds mine)
    news_are =
        let driven = all.is.connection.driven in
        let deeds : driven.terms.deeds ≡ own_deeds mine = sym driven.kept.matches.shown.deeds
        ∙ ap own_deeds (sym mine_is) in
        λ i. terms_at (driven.fixed_is i) commands end (driven.whole_is i) (deeds i)

    pub told_left : IsRightSession (terms_at (fixed_at z first.session) commands end all.is.connection.whole
        (own_deeds mine)) events
    told_left =
        let driven = all.is.connection.driven in
        let terms = with_news driven.terms commands end driven.terms.whole driven.terms.deeds in
        let session = session_shown z now.session in
        let says = kept_ended terms session now.device (events ++ all.quiet) kept_at_last in
        let last : is_some now.end ≡ is_known end.end =
        known_end first.pump.origin first.pump.faults all.is.given (length now.session.posted) now.kept now.end now.pump
        all.is.asked ∙ ap (λ (e : SessionEnd). is_known e.end) (sym end_is) in
        subst (λ (t : Terms). IsRightSession t events) news_are
        (told_at_last terms session now.device events all.quiet kept_at_last all.are
        (ap (λ (e : SessionEnd). e.replies) (sym end_is)) (ap (λ (list : List Sent). length list) all.all)
        (says ∙ driven.ended_is ∙ last)
        (ap (λ (e : SessionEnd). e.failed) (sym end_is)))

    pub sent_left : WireGrew sends end.failed all.is.connection.whole
        (texts_of (terms_at (fixed_at z first.session) commands end all.is.connection.whole (own_deeds mine)))
        all.is.start
        all.is.wire
    sent_left =
        let driven = all.is.connection.driven in
        let terms = with_news driven.terms commands end driven.terms.whole driven.terms.deeds in
        let session = session_shown z now.session in
        let texts : texts_in now.session.posted
        ≡ texts_of (terms_at (fixed_at z first.session) commands end all.is.connection.whole (own_deeds mine)) =
        sym (all_texts terms session now.device (events ++ all.quiet) kept_at_last
        (ap (λ (e : SessionEnd). e.replies) (sym end_is))) ∙ ap texts_of news_are in
        subst (λ (b : Bool). WireGrew sends b all.is.connection.whole
        (texts_of (terms_at (fixed_at z first.session) commands end all.is.connection.whole (own_deeds mine)))
        all.is.start all.is.wire) (ap (λ (e : SessionEnd). e.failed) (sym end_is))
        (subst (λ list. WireGrew sends now.device.failed all.is.connection.whole list all.is.start all.is.wire) texts
        all.is.connection.grew)

  pub has_left : (first now : Driving W) (events : List LineEvent) (all : GathersAll sends z shards first events now)
      (end : SessionEnd) (mine : SessionList) (wire : W) → mine ≡ now.session.pass.list
      → end ≡ ended_at (unwrap_or now.end Left) now.pump.taken (length now.session.posted) now.device.failed
      → now.wire ≡ Some wire → HasLeft sends z first events end mine now.pump wire
  has_left first now events all end mine wire mine_is end_is wire_is = record {
    given = all.is.given;
    whole = all.is.connection.whole;
    told = λ commands more. told_left first now events all end mine mine_is end_is commands more;
    start = all.is.start;
    start_is = all.is.start_is;
    sent = λ commands more. subst
        (λ (w : W). WireGrew sends end.failed all.is.connection.whole
        (texts_of (terms_at (fixed_at z first.session) commands end all.is.connection.whole (own_deeds mine)))
        all.is.start w)
        (one_wire now.wire all.is.wire wire all.is.wire_is wire_is)
        (sent_left first now events all end mine mine_is end_is commands more);
    said = now.end;
    end_is = ap (λ (e : SessionEnd). e.end) end_is;
    says = says_quiet events all.quiet all.are ∙ all.is.connection.driven.ended_is;
    kept = now.kept;
    asked = subst (λ n. IsAsked first.pump.origin first.pump.faults all.is.given n now.kept now.end now.pump)
        (ap (λ (e : SessionEnd). e.replies) (sym end_is)) all.is.asked;
    taken = ap (λ (e : SessionEnd). e.taken) end_is;
  }
