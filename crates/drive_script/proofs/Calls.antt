-- Calls of a driven session.
use Rattle.std.proofs.Common.{◌≡◌, ◌≢◌, ℕ, ◌+◌, ◌⊎◌, inl, inr, true, false, List, [], ◌∷◌, ◌++◌, None, Some}
use Rattle.std.proofs.Common.{length, slice_get, refl, ap, sym, ◌∙◌, subst, arith, length-append, append-nil}
use Rattle.flake_base.specs.declared.segment.Seg.{Seg}
use Rattle.flake_base.specs.declared.session.End.{End}
use Rattle.flake_base.specs.declared.session.End.TheVariants.{Clean, Protocol, Truncated, TooLong, ReadFault, Memory}
use Rattle.flake_base.specs.declared.session.End.TheVariants.{Left}
use Rattle.flake_base.specs.declared.session.SessionEnd.{SessionEnd}
use Rattle.flake_model.specs.Command.{Command}
use Rattle.flake_model.specs.Deed.{Deed}
use Rattle.command_pump.specs.Pump.{Origin, PumpState, HasEnded}
use Rattle.reply_planner.specs.Parcels.{Sent}
use Rattle.transcript_model.specs.Lines.{LineEvent, posted, ring_full, stage_full, at_end}
use Rattle.transcript_model.specs.News.{with_news}
use Rattle.transcript_model.specs.Right.{is_known}
use Rattle.drive_script.specs.Calls.{ShowsPost, ShowsRingFull, ShowsStageFull, ShowsRefusal, BothEnds}
use Rattle.drive_script.specs.Matches.{HasMore}
use Rattle.drive_script.specs.Views.{SessionShown, DeviceShown}
use Rattle.drive_script.proofs.Ended.{kept_ended, says_end-other, says_end-now}
use Rattle.drive_script.proofs.KeepsCalls.{kept_call}
use Rattle.drive_script.proofs.KeepsEnds.{kept_ring, kept_stage, kept_end, kept_end_again}
use Rattle.drive_script.proofs.Lists.{get_front, get_behind}
use Rattle.drive_script.specs.Asked.{AsksNext, GoesOn}
use Rattle.drive_script.specs.Connections.{Fixed, IsDriven}

-- the command that is called comes behind those that were posted
has_more : (given front : List Command) (command : Command) → (given ≡ front) ⊎ (given ≡ front ++ command ∷ [])
    → HasMore given (front ++ command ∷ [])
has_more given front command (inl same) place earlier at = get_front front (command ∷ []) place earlier
    (subst (λ list. slice_get list place ≡ Some earlier) same at)
has_more given front command (inr same) place earlier at = subst (λ list. slice_get list place ≡ Some earlier) same at

more_than : (commands given next : List Command) → commands ≡ given → HasMore given next → HasMore commands next
more_than commands given next same more place command at =
    more place command (subst (λ list. slice_get list place ≡ Some command) same at)

asked_at : (front : List Command) (command : Command) (n : ℕ) → length front ≡ n → slice_get (front ++ command ∷ []) n
    ≡ Some command
asked_at front command n count = subst (λ m. slice_get (front ++ command ∷ []) m ≡ Some command) count
    (get_behind front [] command)

one_more : {A : Type 0} (xs : List A) (x : A) → length (xs ++ x ∷ []) ≡ length xs + 1
one_more xs x = length-append xs (x ∷ [])

known : (end : End) → end ≢ Left → is_known end ≡ true
known Clean other = refl
known (Protocol kind place) other = refl
known (Truncated place) other = refl
known TooLong other = refl
known ReadFault other = refl
known Memory other = refl
known Left other = absurd (other refl)

-- a session that ended so, after so many replies
abbrev ended_so : End → ℕ → SessionEnd
ended_so end replies = record { end = end; taken = 0; replies = replies; failed = false }

-- a call that didn't come to the session
not_called : (session : SessionShown) → ShowsRefusal session session
not_called session = record {
  gone = [];
  done = [];
  new_is = let made : List Sent → List Deed → SessionShown = λ gone done. record session { reaped = gone; deeds = done }
      in
      λ i. made (sym (append-nil session.reaped) i) (sym (append-nil session.deeds) i);
  behind = tt;
}

module _ (Also : List Command → Type 0) (fixed : Fixed) (given : List Command) (whole : ℕ) (events : List LineEvent)
    (origin : Origin) (before : ℕ) (session : SessionShown) (device : DeviceShown) where
  -- the end is said again
  pub called_again : (end : End) → IsDriven fixed given (Some end) whole events session device
      → IsDriven fixed given (Some end) whole (events ++ at_end ∷ []) session device
  called_again end driven = record {
    terms = driven.terms;
    fixed_is = driven.fixed_is;
    given_is = driven.given_is;
    whole_is = driven.whole_is;
    kept = kept_end_again driven.terms session device events driven.kept
        (kept_ended driven.terms session device events driven.kept ∙ driven.ended_is);
    ended_is = says_end-now events;
    end_is = driven.end_is;
  }

  module _ (driven : IsDriven fixed given None whole events session device) where
    open_yet : driven.kept.standing.ended ≡ false
    open_yet = kept_ended driven.terms session device events driven.kept ∙ driven.ended_is

    still_both : BothEnds session session device device
    still_both =
        let m = driven.kept.matches in
        record {
          session = λ i. record session { told = m.told i };
          device = λ i. record device { told = m.device_told i };
          in_order = m.in_order;
        }

    -- the input ended
    pub called_at_end : (end : End) (pump : PumpState) → HasEnded origin before given end pump → length given
        ≡ length session.posted → Also given
        → GoesOn origin before (length session.posted) None (Some end) pump
        (λ now. IsDriven fixed now (Some end) whole (events ++ at_end ∷ []) session device × Also now)
    unfolding not_called
    called_at_end end pump ended count also = record {
      given = given;
      asked = inl (ended, count);
      is = (
        record {
          terms = with_news driven.terms given (ended_so end (length session.posted)) driven.terms.whole
              (session.deeds ++ []);
          fixed_is = driven.fixed_is;
          given_is = refl;
          whole_is = driven.whole_is;
          kept = kept_end driven.terms session session session device device events driven.kept open_yet given
              (more_than driven.terms.commands given given driven.given_is (λ place command at. at))
              (ended_so end (length session.posted)) (known end ended.to_the_end) refl (not_called session)
              (inr refl) still_both;
          ended_is = says_end-now events;
          end_is = refl;
        },
        also,
      );
    }

    module _ (between session' : SessionShown) (device' : DeviceShown) (both : BothEnds between session' device device')
        (command : Command) (pump : PumpState)
        (next : AsksNext origin before given (length session.posted) command pump) where
      now : List Command
      now = next.front ++ command ∷ []

      more : HasMore driven.terms.commands now
      unfolding now
      more = more_than driven.terms.commands given (next.front ++ command ∷ []) driven.given_is
          (has_more given next.front command next.given_is)

      asked : slice_get now (length session.posted) ≡ Some command
      unfolding now
      asked = asked_at next.front command (length session.posted) next.count

      as_posted : length session'.posted ≡ length between.posted
      as_posted = ap (λ (s : SessionShown). length s.posted) both.session

      pub called : Also (next.front ++ command ∷ []) → (call freed : ℕ) (sent stored : List Seg)
          → ShowsPost command session between call freed sent stored
          → GoesOn origin before (length session'.posted) None None pump
          (λ list. IsDriven fixed list None whole (events ++ posted call freed sent stored ∷ []) session' device'
          × Also list)
      unfolding now
      called also call freed sent stored posts = record {
        given = next.front ++ command ∷ [];
        asked = record {
          pump_is = next.pump_is;
          kept_back = omega (
            arith,
            one_more next.front command,
            next.count,
            as_posted,
            ap
                (λ (list : List Sent). length list) posts.posted,
            one_more session.posted posts.parcel,
          );
          unfailed = next.unfailed;
        };
        is = (
          record {
            terms = with_news driven.terms (next.front ++ command ∷ []) driven.terms.end driven.terms.whole
                between.deeds;
            fixed_is = driven.fixed_is;
            given_is = refl;
            whole_is = driven.whole_is;
            kept = kept_call driven.terms session between session' device device' events driven.kept open_yet command
                call freed sent stored posts both (next.front ++ command ∷ []) more asked;
            ended_is = says_end-other events (posted call freed sent stored) refl ∙ driven.ended_is;
            end_is = driven.end_is;
          },
          also,
        );
      }

      kept_front : length between.posted ≡ length session.posted → length next.front ≡ length session'.posted
      kept_front same = omega (arith, next.count, as_posted, same)

      pub called_ring : Also (next.front ++ command ∷ []) → (need room : ℕ)
          → ShowsRingFull command session between need room
          → GoesOn origin before (length session'.posted) (Some command) None pump
          (λ list. IsDriven fixed list None whole (events ++ ring_full need room ∷ []) session' device' × Also list)
      unfolding now
      called_ring also need room finds = record {
        given = next.front ++ command ∷ [];
        asked = record {
          pump_is = next.pump_is;
          kept_back = (next.front, refl, kept_front (ap (λ (s : SessionShown). length s.posted) finds.reaps.new_is));
          unfailed = next.unfailed;
        };
        is = (
          record {
            terms = with_news driven.terms (next.front ++ command ∷ []) driven.terms.end driven.terms.whole
                session.deeds;
            fixed_is = driven.fixed_is;
            given_is = refl;
            whole_is = driven.whole_is;
            kept = kept_ring driven.terms session between session' device device' events driven.kept open_yet command
                (next.front ++ command ∷ []) more asked need room finds both;
            ended_is = says_end-other events (ring_full need room) refl ∙ driven.ended_is;
            end_is = driven.end_is;
          },
          also,
        );
      }

      pub called_stage : Also (next.front ++ command ∷ []) → (need free : ℕ)
          → ShowsStageFull command session between need free
          → GoesOn origin before (length session'.posted) (Some command) None pump
          (λ list. IsDriven fixed list None whole (events ++ stage_full need free ∷ []) session' device' × Also list)
      unfolding now
      called_stage also need free finds = record {
        given = next.front ++ command ∷ [];
        asked = record {
          pump_is = next.pump_is;
          kept_back = (next.front, refl, kept_front (ap (λ (s : SessionShown). length s.posted) finds.reaps.new_is));
          unfailed = next.unfailed;
        };
        is = (
          record {
            terms = with_news driven.terms (next.front ++ command ∷ []) driven.terms.end driven.terms.whole
                session.deeds;
            fixed_is = driven.fixed_is;
            given_is = refl;
            whole_is = driven.whole_is;
            kept = kept_stage driven.terms session between session' device device' events driven.kept open_yet command
                (next.front ++ command ∷ []) more asked need free finds both;
            ended_is = says_end-other events (stage_full need free) refl ∙ driven.ended_is;
            end_is = driven.end_is;
          },
          also,
        );
      }

      pub called_short : Also (next.front ++ command ∷ []) → ShowsRefusal session between
          → GoesOn origin before (length session'.posted) None (Some Memory) pump
          (λ list. IsDriven fixed list (Some Memory) whole (events ++ at_end ∷ []) session' device' × Also list)
      unfolding now
      called_short also refused =
          let same : length between.posted ≡ length session.posted =
          ap (λ (s : SessionShown). length s.posted) refused.new_is in
          record {
            given = next.front ++ command ∷ [];
            asked = inr (
              refl,
              next.pump_is,
              omega (arith, one_more next.front command, next.count, as_posted, same),
              next.unfailed,
            );
            is = (
              record {
                terms = with_news driven.terms (next.front ++ command ∷ []) (ended_so Memory (length session.posted))
                    driven.terms.whole (session.deeds ++ refused.done);
                fixed_is = driven.fixed_is;
                given_is = refl;
                whole_is = driven.whole_is;
                kept = kept_end driven.terms session between session' device device' events driven.kept open_yet
                    (next.front ++ command ∷ []) more (ended_so Memory (length session.posted)) refl refl refused
                    (inl refl) both;
                ended_is = says_end-now events;
                end_is = refl;
              },
              also,
            );
          }
