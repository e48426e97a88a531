-- What a device forwards in one call and then in another.
use Rattle.std.proofs.Common.{◌≡◌, ℕ, Bool, List, [], ◌∷◌, ◌++◌, Option, None, Some, refl, sym, ap, ◌∙◌}
use Rattle.std.proofs.Common.{append_assoc, append-nil}
use Rattle.std.proofs.lemmas.Grind.{flat_map-append}
use Rattle.std.specs.Borrow.{Bor}
use Rattle.any_wire.specs.Sends.{Flushes}
use Rattle.any_wire.proofs.Sending.{sends-on, sends-same, sends-flush}
use Rattle.reply_planner.specs.Parcels.{Sent}
use Rattle.mtu_frames.specs.Frames.{framed}
use Rattle.any_wire.specs.Sends.{PutsText}
use Rattle.device_model.specs.Devices.{reply_as_sent, joined_as_sent, ForwardsAs}
use Rattle.device_model.proofs.Puts.{sends-loosened}

-- one reply
pub joined-one : (mtu : Option ℕ) (reply : Sent) → joined_as_sent mtu (reply ∷ []) ≡ reply_as_sent mtu reply
joined-one None reply = append-nil reply.text
joined-one (Some mtu) reply = append-nil (framed reply.text reply.call mtu)

-- some and then some more
pub joined-on : (mtu : Option ℕ) (some more : List Sent)
    → joined_as_sent mtu (some ++ more) ≡ joined_as_sent mtu some ++ joined_as_sent mtu more
joined-on None some more = flat_map-append (λ (p : Sent). p.text) some more
joined-on (Some mtu) some more = flat_map-append (λ (p : Sent). framed p.text p.call mtu) some more

pub joined-none : (mtu : Option ℕ) → joined_as_sent mtu [] ≡ []
joined-none None = refl
joined-none (Some mtu) = refl

module _
    {W : Type 0}
    (mtu : Option ℕ)
    (put_may : W → Bor (List ℕ) → (W × Bool) → Type 0)
    (flush_may : W → (W × Bool) → Type 0) where
  -- one reply was taken
  pub forwards-one : (failed now : Bool) (text : List ℕ) (before after : List Sent) (reply : Sent) (old new : W)
      → after ≡ before ++ reply ∷ []
      → text ≡ reply_as_sent mtu reply → PutsText put_may failed now text old new
      → ForwardsAs mtu put_may flush_may failed now before after old new
  forwards-one failed now text before after reply old new is same sends = record {
    taken = reply ∷ [];
    in_order = is;
    sends = sends-same put_may flush_may failed now text (joined_as_sent mtu (reply ∷ [])) old new
        (same ∙ sym (joined-one mtu reply))
        (sends-loosened put_may flush_may failed now text old new sends);
  }

  -- nothing was taken, and the wire was flushed
  pub forwards-none : (failed now : Bool) (before after : List Sent) (old new : W) → after ≡ before
      → Flushes flush_may failed now old new
      → ForwardsAs mtu put_may flush_may failed now before after old new
  forwards-none failed now before after old new same flushed = record {
    taken = [];
    in_order = same ∙ sym (append-nil before);
    sends = sends-same put_may flush_may failed now [] (joined_as_sent mtu []) old new (sym (joined-none mtu))
        (sends-flush put_may flush_may failed now old new flushed);
  }

  -- one after the other
  pub forwards-on : (failed between now : Bool) (before middle after : List Sent) (old mid new : W)
      → ForwardsAs mtu put_may flush_may failed between before middle old mid
      → ForwardsAs mtu put_may flush_may between now middle after mid new
      → ForwardsAs mtu put_may flush_may failed now before after old new
  forwards-on failed between now before middle after old mid new f s = record {
    taken = f.taken ++ s.taken;
    in_order = s.in_order ∙ ap (λ t. t ++ s.taken) f.in_order ∙ append_assoc before f.taken s.taken;
    sends = sends-same put_may flush_may failed now (joined_as_sent mtu f.taken ++ joined_as_sent mtu s.taken)
        (joined_as_sent mtu (f.taken ++ s.taken)) old new
        (sym (joined-on mtu f.taken s.taken))
        (sends-on put_may flush_may failed between now (joined_as_sent mtu f.taken) (joined_as_sent mtu s.taken)
        old mid new f.sends s.sends);
  }
