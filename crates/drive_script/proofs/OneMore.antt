-- A driven session, one line more.
use Rattle.std.proofs.Common.{◌≡◌, ◌<◌, ℕ, List, [], ◌∷◌, ◌++◌, length, Option, Some, ap, sym, subst}
use Rattle.view_sums.specs.Total.{Each}
use Rattle.pin_core.specs.declared.sizes.Sizes.{Sizes}
use Rattle.flake_model.specs.Command.{Command}
use Rattle.flake_base.specs.declared.session.End.{End}
use Rattle.command_exec.specs.Passes.{PassView}
use Rattle.command_pump.specs.Pump.{PumpState}
use Rattle.reply_planner.specs.Parcels.{Sent}
use Rattle.transcript_model.specs.Lines.{LineEvent}
use Rattle.any_wire.specs.Texts.{Sending}
use Rattle.drive_script.specs.Asked.{IsAsked, GoesOn}
use Rattle.drive_script.specs.Driving.{Driving, fixed_at, IsUnderWay}
use Rattle.drive_script.specs.Connections.{IsConnection}
use Rattle.drive_script.specs.Running.{RunsOn}
use Rattle.drive_script.specs.Shown.{session_shown}

pub one_wire : {W : Type 0} (o : Option W) (one other : W) → o ≡ Some one → o ≡ Some other → one ≡ other
one_wire o one other is also = cc

module _ {W : Type 0} (sends : Sending W) (z : Sizes) (shards : ℕ) where
  -- what a line says of a connection, said of all that the line needs
  pub goes_on : (first old new : Driving W) (events : List LineEvent) (event : LineEvent) (wire wire' : W)
      → old.wire ≡ Some wire → new.ring ≡ new.session.ring → new.session.pass.stage ≡ old.session.pass.stage
      → new.wire ≡ Some wire'
      → ((start : W) (given : List Command) → IsAsked first.pump.origin first.pump.faults given
      (length old.session.posted) old.kept old.end old.pump
      → IsConnection sends (fixed_at z first.session) start given old.end events (session_shown z old.session)
      old.device wire
      → GoesOn first.pump.origin first.pump.faults (length new.session.posted) new.kept new.end new.pump
      (λ now. IsConnection sends (fixed_at z first.session) start now new.end (events ++ event ∷ [])
      (session_shown z new.session) new.device wire'
      × RunsOn z shards given old.end old.session now new.end new.session))
      → IsUnderWay sends z shards first events old → IsUnderWay sends z shards first (events ++ event ∷ []) new
  goes_on first old new events event wire wire' wire_is ring stage wire_is' right was =
      let connection : IsConnection sends (fixed_at z first.session) was.start was.given old.end events
      (session_shown z old.session) old.device wire =
      subst (λ (w : W). IsConnection sends (fixed_at z first.session) was.start was.given old.end events
      (session_shown z old.session) old.device w) (one_wire old.wire was.wire wire was.wire_is wire_is) was.connection
      in
      let goes = right was.start was.given was.asked connection in
      record {
        ring = ring;
        small = subst (Each (λ buffer. buffer < z.small)) (sym stage) was.small;
        start = was.start;
        start_is = was.start_is;
        wire = wire';
        wire_is = wire_is';
        given = goes.given;
        asked = goes.asked;
        connection = goes.is.0;
        fresh = was.fresh;
        running = goes.is.1 first.session was.running;
      }

  -- a gather asks for nothing
  pub gather_goes_on : (first old new : Driving W) (events : List LineEvent) (event : LineEvent) (wire wire' : W)
      → old.wire ≡ Some wire → new.ring ≡ new.session.ring → new.session.pass ≡ old.session.pass → new.session.posted
      ≡ old.session.posted
      → new.kept ≡ old.kept → new.end ≡ old.end → new.pump ≡ old.pump → new.wire ≡ Some wire'
      → ((start : W) (given : List Command) → IsConnection sends (fixed_at z first.session) start given old.end events
      (session_shown z old.session) old.device wire
      → IsConnection sends (fixed_at z first.session) start given old.end (events ++ event ∷ []) (session_shown z
      new.session)
      new.device wire')
      → ((given : List Command) (end : Option End) → RunsOn z shards given end old.session given end new.session)
      → IsUnderWay sends z shards first events old → IsUnderWay sends z shards first (events ++ event ∷ []) new
  gather_goes_on first old new events event wire wire' wire_is ring pass posted kept end pump wire_is' right runs =
      goes_on first old new events event wire wire' wire_is ring (ap (λ (p : PassView). p.stage) pass) wire_is'
      (λ start given asked connection. record {
        given = given;
        asked = subst (λ n. IsAsked first.pump.origin first.pump.faults given n new.kept new.end new.pump)
            (ap (λ (list : List Sent). length list) (sym posted))
            (subst (λ (k : Option Command). IsAsked first.pump.origin first.pump.faults given
            (length old.session.posted) k new.end new.pump) (sym kept)
            (subst (λ (e : Option End). IsAsked first.pump.origin first.pump.faults given (length old.session.posted)
            old.kept e new.pump) (sym end)
            (subst (λ (p : PumpState). IsAsked first.pump.origin first.pump.faults given (length old.session.posted)
            old.kept old.end p) (sym pump) asked)));
        is = (
          subst (λ (e : Option End). IsConnection sends (fixed_at z first.session) start given e (events ++ event ∷ [])
              (session_shown z new.session) new.device wire') (sym end) (right start given connection),
          subst (λ (e : Option End). RunsOn z shards given old.end old.session given e new.session) (sym end)
              (runs given old.end),
        );
      })
