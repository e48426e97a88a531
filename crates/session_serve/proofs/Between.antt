-- What both sides do to a device's side that lies between them.
use Rattle.std.proofs.Common.{◌≡◌, ℕ, Bool, List, Option, refl}
use Rattle.std.specs.Borrow.{Bor}
use Rattle.any_wire.specs.Sends.{Flushes}
use Rattle.tx_descriptor.specs.declared.framed.Framed.{Ghosts}
use Rattle.tx_ring.specs.Shown.{completed}
use Rattle.tx_ring.specs.declared.device.DeviceEnd.{DeviceEnd}
use Rattle.reply_planner.specs.Parcels.{Sent}
use Rattle.device_model.specs.Devices.{ForwardsAs, PutsAs, IsFound, IfTaken, IfIdle}
use Rattle.device_model.specs.declared.gathered.Gathered.{Gathered}
use Rattle.device_model.proofs.Forwarding.{forwards-on}
use Rattle.session_serve.specs.Whole.{raised, whole_bytes_of}
use Rattle.session_serve.specs.Beside.{ForwardsMore, ForwardsOut}
use Rattle.session_serve.proofs.Serving.{forwards-nothing}
use Rattle.session_serve.proofs.Whole.{gathered-more, keeps-on}

module _
    {W : Type 0}
    (mtu : Option ℕ)
    (put_may : W → Bor (List ℕ) → (W × Bool) → Type 0)
    (flush_may : W → (W × Bool) → Type 0) where
  -- one call of a device
  pub more-gathered : {g : Ghosts Sent} (what : Gathered) (failed now : Bool) (old new : DeviceEnd Sent g)
      (bytes shown sum : ℕ) (wire after : W)
      → IsFound what now old new
      → IfTaken what (PutsAs mtu put_may failed now (completed old) (completed new) wire after)
      → IfIdle what (Flushes flush_may failed now wire after)
      → ForwardsAs mtu put_may flush_may failed now (completed old) (completed new) wire after
      → shown ≡ whole_bytes_of what → sum ≡ raised bytes shown
      → ForwardsMore mtu put_may flush_may failed now (completed old) (completed new) bytes sum wire after
  more-gathered what failed now old new bytes shown sum wire after is put flush forwards shown_is sum_is = record {
    forwards = forwards;
    whole = keeps-on mtu put_may flush_may failed failed now (completed old) (completed old) (completed new) bytes bytes
        (whole_bytes_of what) shown sum wire wire after (λ start was. was)
        (gathered-more mtu put_may flush_may what failed now old new wire after is put flush) shown_is sum_is;
  }

  pub more-none : (failed : Bool) (posted : List Sent) (bytes : ℕ) (wire : W)
      → ForwardsMore mtu put_may flush_may failed failed posted posted bytes bytes wire wire
  more-none failed posted bytes wire = record {
    forwards = forwards-nothing mtu put_may flush_may failed posted posted wire refl;
    whole = λ start was. was;
  }

  pub more-on : (failed between now : Bool) (before middle after : List Sent) (bytes some counted : ℕ) (old mid new : W)
      → ForwardsMore mtu put_may flush_may failed between before middle bytes some old mid
      → ForwardsMore mtu put_may flush_may between now middle after some counted mid new
      → ForwardsMore mtu put_may flush_may failed now before after bytes counted old new
  more-on failed between now before middle after bytes some counted old mid new first then = record {
    forwards = forwards-on mtu put_may flush_may failed between now before middle after old mid new first.forwards
        then.forwards;
    whole = λ start was. then.whole start (first.whole start was);
  }

  pub out-on : (failed between now : Bool) (before middle after : List Sent) (bytes some counted : ℕ) (old mid new : W)
      → ForwardsMore mtu put_may flush_may failed between before middle bytes some old mid
      → ForwardsOut mtu put_may flush_may between now middle after some counted mid new
      → ForwardsOut mtu put_may flush_may failed now before after bytes counted old new
  out-on failed between now before middle after bytes some counted old mid new first then = record {
    between = then.between;
    middle = then.middle;
    forwards = forwards-on mtu put_may flush_may failed between then.between before middle after old mid then.middle
        first.forwards then.forwards;
    flushed = then.flushed;
    whole = λ start was. then.whole start (first.whole start was);
  }
