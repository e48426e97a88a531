-- Driven sessions before the first line.
use Rattle.std.proofs.Common.{◌≡◌, ℕ, Bool, false, List, [], ◌∷◌, length, All, map, Option, None, zero, suc, refl, ap}
use Rattle.std.proofs.Common.{sym, subst}
use Rattle.std.specs.Prelude.{is_some}
use Rattle.std.proofs.lemmas.List.Elements.{All-head, All-tail}
use Rattle.flake_base.specs.declared.session.End.{End}
use Rattle.flake_base.specs.declared.session.End.TheVariants.{Left}
use Rattle.flake_model.specs.Command.{Command}
use Rattle.flake_model.specs.Deed.{Deed}
use Rattle.pin_core.specs.declared.sizes.Sizes.{Sizes}
use Rattle.reply_planner.specs.Parcels.{Sent, texts_in}
use Rattle.session_pass.specs.Fresh.{IsFresh}
use Rattle.any_wire.specs.Texts.{Sending, WireGrew, IsSending}
use Rattle.transcript_model.specs.Terms.{Terms}
use Rattle.drive_script.proofs.Finals.{kept_at_first}
use Rattle.any_wire.proofs.Texts.{wire_fresh}
use Rattle.drive_script.specs.Asked.{IsAsked}
use Rattle.drive_script.specs.Driving.{Driving, fixed_at, IsNew, IsUnderWay, AreFresh}
use Rattle.drive_script.specs.Connections.{IsEndSaid}
use Rattle.drive_script.specs.Left.{terms_at}
use Rattle.drive_script.specs.Shown.{session_shown}
use Rattle.drive_script.proofs.Running.{running_starts}

module _ {W : Type 0} (sends : Sending W) (is : IsSending sends) (z : Sizes) (shards : ℕ) where
  new_goes : (d : Driving W) → IsNew z d → IsFresh z d.session d.pump → IsUnderWay sends z shards d [] d
  new_goes d new fresh =
      let terms : Terms = terms_at (fixed_at z d.session) []
      (record { end = Left; taken = 0; replies = 0; failed = false }) 0 [] in
      record {
        ring = new.ring;
        small = new.small;
        start = new.wire;
        start_is = new.wire_is;
        wire = new.wire;
        wire_is = new.wire_is;
        given = [];
        asked = subst (λ (k : Option Command). IsAsked d.pump.origin d.pump.faults [] (length d.session.posted) k d.end
            d.pump) (sym new.none_kept)
            (subst (λ (e : Option End). IsAsked d.pump.origin d.pump.faults [] (length d.session.posted) None e d.pump)
            (sym new.none_ended)
            (record {
              pump_is = new.unread;
              kept_back = sym (ap (λ (list : List Sent). length list) new.none_posted);
              unfailed = refl;
            }));
        connection = record {
          whole = 0;
          driven = record {
            terms = terms;
            fixed_is = refl;
            given_is = refl;
            whole_is = refl;
            kept = kept_at_first terms (session_shown z d.session) d.device (record {
              number = refl;
              sizes = refl;
              ring = refl;
              threshold = refl;
              stage = refl;
              posted = new.none_posted;
              reaped = new.none_reaped;
              told = new.told;
              deeds = ap (λ (list : List (ℕ × Deed)). map (λ (one : ℕ × Deed). one.1) list) new.none_told;
              completed = new.none_completed;
              device_told = new.device_told;
              failed = new.unfailed;
              no_deeds = refl;
              none_sent = refl;
            });
            ended_is = sym (ap is_some new.none_ended);
            end_is = subst (λ (e : Option End). IsEndSaid e Left) (sym new.none_ended) tt;
          };
          grew = subst (λ (b : Bool). WireGrew sends b 0 (texts_in d.session.posted) new.wire new.wire)
              (sym new.unfailed) (wire_fresh sends is (texts_in d.session.posted) new.wire);
        };
        fresh = fresh;
        running = running_starts z shards d.session d.pump d.end fresh;
      }

  pub new_are_fresh : {A : Type 0} (xs : List A) (view : A → Driving W)
      → All (λ x. IsNew z (view x) × IsFresh z (view x).session (view x).pump) xs
      → AreFresh sends z shards (map view xs)
  new_are_fresh [] view all session first at = absurd (cc)
  new_are_fresh (x ∷ xs) view all zero first at =
      let same : view x ≡ first = cc in
      let one = All-head (λ y. IsNew z (view y) × IsFresh z (view y).session (view y).pump) x xs all in
      subst (λ (d : Driving W). IsUnderWay sends z shards d [] d) same (new_goes (view x) one.0 one.1)
  new_are_fresh (x ∷ xs) view all (suc session) first at = new_are_fresh xs view
      (All-tail (λ y. IsNew z (view y) × IsFresh z (view y).session (view y).pump) x xs all) session first at
