-- A line of a schedule, with its wire.
use Rattle.std.proofs.Common.{◌≡◌, ℕ, ◌≤◌, Bool, List, [], ◌∷◌, ◌++◌, Option, length, sym, subst, arith, append-nil}
use Rattle.std.proofs.lemmas.List.{map-append, length-map}
use Rattle.flake_base.specs.declared.session.End.{End}
use Rattle.flake_model.specs.Command.{Command}
use Rattle.command_pump.specs.Pump.{Origin, PumpState}
use Rattle.reply_planner.specs.Parcels.{Sent, texts_in}
use Rattle.transcript_model.specs.Lines.{LineEvent}
use Rattle.any_wire.specs.Texts.{Sending, WireGrew, AreWhole, IsSending}
use Rattle.drive_script.specs.Views.{SessionShown, DeviceShown}
use Rattle.drive_script.proofs.Lists.{front_length}
use Rattle.any_wire.proofs.Texts.{wire_longer}
use Rattle.drive_script.specs.Asked.{IsAsked, GoesOn}
use Rattle.drive_script.specs.Connections.{Fixed, IsDriven, IsConnection}

module _ {W : Type 0} (sends : Sending W) (is : IsSending sends) where
  -- at most one reply more
  wire_more : (failed : Bool) (whole completed : ℕ) (olds more : List Sent) (start wire : W) → length more ≤ 1
      → AreWhole failed whole completed → completed ≤ length olds
      → WireGrew sends failed whole (texts_in olds) start wire
      → WireGrew sends failed whole (texts_in (olds ++ more)) start wire
  wire_more failed whole completed olds [] start wire few so below grew =
      subst (λ (list : List Sent). WireGrew sends failed whole (texts_in list) start wire) (sym (append-nil olds)) grew
  wire_more failed whole completed olds (reply ∷ []) start wire few so below grew =
      subst (λ texts. WireGrew sends failed whole texts start wire)
      (sym (map-append (λ (parcel : Sent). parcel.text) olds (reply ∷ [])))
      (wire_longer sends is failed whole completed (texts_in olds) reply.text start wire so
      (omega (arith, length-map olds (λ (parcel : Sent). parcel.text))) grew)
  wire_more failed whole completed olds (reply ∷ next ∷ more) start wire few so below grew = absurd (omega arith)

  module _ (fixed : Fixed) (start : W) (given : List Command) (events : List LineEvent) (event : LineEvent)
      (session session' : SessionShown) (device device' : DeviceShown) (wire : W)
      (flag : device'.failed ≡ device.failed)
      (more : List Sent) (posted : session'.posted ≡ session.posted ++ more) (few : length more ≤ 1) where
    -- the wire goes with a line that leaves it as it is
    connection_goes : (said said' : Option End) (connection : IsConnection sends fixed start given said events session
        device wire)
        (now : List Command)
        → IsDriven fixed now said' connection.whole (events ++ event ∷ []) session' device'
        → IsConnection sends fixed start now said' (events ++ event ∷ []) session' device' wire
    connection_goes said said' connection now driven =
        let m = connection.driven.kept.matches in
        let so : AreWhole device.failed connection.whole (length device.completed) =
        subst (λ n. AreWhole device.failed n (length device.completed)) connection.driven.whole_is m.whole in
        record {
          whole = connection.whole;
          driven = driven;
          grew = subst (λ (b : Bool). WireGrew sends b connection.whole (texts_in session'.posted) start wire) (sym
              flag)
              (subst (λ (list : List Sent). WireGrew sends device.failed connection.whole (texts_in list) start wire)
              (sym posted)
              (wire_more device.failed connection.whole (length device.completed) session.posted more start wire few so
              (front_length device.completed session.posted m.in_order.completed.0 m.in_order.completed.1)
              connection.grew));
        }

    pub call_goes : (Also : List Command → Type 0) (origin : Origin) (before n : ℕ) (kept : Option Command)
        (pump : PumpState) (said said' : Option End)
        (connection : IsConnection sends fixed start given said events session device wire)
        → GoesOn origin before n kept said' pump
        (λ now. IsDriven fixed now said' connection.whole (events ++ event ∷ []) session' device' × Also now)
        → GoesOn origin before n kept said' pump
        (λ now. IsConnection sends fixed start now said' (events ++ event ∷ []) session' device' wire × Also now)
    call_goes Also origin before n kept pump said said' connection goes = record {
      given = goes.given;
      asked = goes.asked;
      is = (connection_goes said said' connection goes.given goes.is.0, goes.is.1);
    }

    pub reap_goes : (said : Option End) (connection : IsConnection sends fixed start given said events session device
        wire)
        → IsDriven fixed given said connection.whole (events ++ event ∷ []) session' device'
        → IsConnection sends fixed start given said (events ++ event ∷ []) session' device' wire
    reap_goes said connection driven = connection_goes said said connection given driven

-- nothing was asked, and it goes on
pub stays_asked : (origin : Origin) (before : ℕ) (given : List Command) (olds news : List Sent)
    (kept : Option Command) (end : Option End) (pump : PumpState) (right : List Command → Type 0)
    → news ≡ olds → IsAsked origin before given (length olds) kept end pump → right given
    → GoesOn origin before (length news) kept end pump right
stays_asked origin before given olds news kept end pump right same asked is =
    record {
      given = given;
      asked = subst (λ (list : List Sent). IsAsked origin before given (length list) kept end pump)
          (sym same) asked;
      is = is;
    }

-- the same event in other words
pub connection_same : {W : Type 0} (sends : Sending W) (fixed : Fixed) (start : W) (given : List Command) (end : Option
    End)
    (events : List LineEvent) (event other : LineEvent) (session : SessionShown) (device : DeviceShown) (wire : W)
    → event ≡ other → IsConnection sends fixed start given end (events ++ other ∷ []) session device wire
    → IsConnection sends fixed start given end (events ++ event ∷ []) session device wire
connection_same sends fixed start given end events event other session device wire same connection =
    subst (λ (e : LineEvent). IsConnection sends fixed start given end (events ++ e ∷ []) session device wire) (sym
    same) connection
