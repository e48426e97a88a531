-- What a device finds, by what it knows of its ring.
use Rattle.std.proofs.Common.{◌≡◌, ◌+◌, ◌<◌, ◌≤◌, Bool, List, [], ◌∷◌, ◌++◌, length, ap, sym, ◌∙◌, subst, append-nil}
use Rattle.std.proofs.Common.{arith, length-append}
use Rattle.tx_descriptor.specs.declared.framed.Framed.{Ghosts}
use Rattle.tx_ring.specs.Changes.{IsPrefix}
use Rattle.tx_ring.specs.Shown.{completed, device_ring, device_told}
use Rattle.tx_ring.specs.declared.device.DeviceEnd.{DeviceEnd}
use Rattle.reply_planner.specs.Parcels.{Sent}
use Rattle.device_model.specs.Devices.{IsFound, IfIdle}
use Rattle.device_model.specs.declared.gathered.Gathered.{Gathered}
use Rattle.device_model.specs.declared.gathered.Gathered.TheVariants as found
use Rattle.session_pass.specs.Views.{SessionView}
use Rattle.session_serve.specs.Working.{IsGathered}

-- a front that is as long is all
pub whole-front : {A : Type 0} (xs ys rest : List A) → ys ≡ xs ++ rest → length ys ≤ length xs → xs ≡ ys
whole-front xs ys [] is long = sym (is ∙ append-nil xs)
whole-front xs ys (x ∷ rest) is long = absurd (omega (arith, ap length is, length-append xs (x ∷ rest)))

module _ {g : Ghosts Sent} where
  -- where more is known to be posted than is completed, one reply is taken
  pub found-one : (what : Gathered) (failed : Bool) (old new : DeviceEnd Sent g) → IsFound what failed old new
      → length (completed old) < device_told old → length (completed new) ≡ length (completed old) + 1
  found-one (found.Sent call bytes) failed old new is less =
      omega (arith, ap length is.1.completed_is, length-append (completed old) (is.1.reply ∷ []))
  found-one (found.Dropped call bytes) failed old new is less =
      omega (arith, ap length is.1.completed_is, length-append (completed old) (is.1.reply ∷ []))
  found-one found.Empty failed old new is less = absurd (omega (arith, is.1.told, less))
  found-one found.Closed failed old new is less = absurd (omega (arith, is.told, less))

  -- where no more is completed than before, none was there
  pub found-none : (F : Type 0) (what : Gathered) (failed : Bool) (old new : DeviceEnd Sent g)
      → IsFound what failed old new
      → completed new ≡ completed old → IfIdle what F → F
  found-none F (found.Sent call bytes) failed old new is same idle =
      absurd (omega (
        arith,
        ap length same,
        ap length is.1.completed_is,
        length-append (completed old)
            (is.1.reply ∷ []),
      ))
  found-none F (found.Dropped call bytes) failed old new is same idle =
      absurd (omega (
        arith,
        ap length same,
        ap length is.1.completed_is,
        length-append (completed old)
            (is.1.reply ∷ []),
      ))
  found-none F found.Empty failed old new is same idle = idle
  found-none F found.Closed failed old new is same idle = idle

  -- so all that was posted is completed then
  pub found-all : (what : Gathered) (failed : Bool) (posted front : List Sent) (reply : Sent)
      (old new : DeviceEnd Sent g) → IsFound what failed old new
      → posted ≡ front ++ reply ∷ [] → completed old ≡ front → device_told old ≡ length posted
      → IsPrefix (completed new) posted → completed new ≡ posted
  found-all what failed posted front reply old new is more same told prefix =
      let long : length posted ≡ length front + 1 = omega (arith, ap length more, length-append front (reply ∷ [])) in
      let count : length (completed new) ≡ length (completed old) + 1 = found-one what failed old new is
      (omega (arith, long, ap length same, told)) in
      whole-front (completed new) posted prefix.0 prefix.1 (omega (arith, count, long, ap length same))

  -- before the first call
  pub gathered-starts : (first new : SessionView) (old after : DeviceEnd Sent g) → first.posted ≡ []
      → IsPrefix (completed old) first.posted
      → device_ring old ≡ first.ring → device_ring after ≡ device_ring old → completed after ≡ completed old
      → new ≡ record first { told = length (completed old) } → IsGathered new after
  gathered-starts first new old after none prefix ring same_ring same is =
      let all : completed old ≡ first.posted = whole-front (completed old) first.posted prefix.0 prefix.1
      (omega (arith, ap length none)) in
      subst (λ (s : SessionView). IsGathered s after) (sym is)
      (record { ring = same_ring ∙ ring; all = same ∙ all; told = ap length all })
