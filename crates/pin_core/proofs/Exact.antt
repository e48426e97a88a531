-- An event that a test refuses has no step.
use Rattle.std.proofs.Common.{◌≡◌, ◌≢◌, ℕ, ◌<◌, ◌≤◌, List, Bool, true, false, not, cond, ◌&&◌, eqb, ltb, leb, length}
use Rattle.std.proofs.Common.{replicate, sym, refl, ap, subst, ◌∙◌, eq-eqb, arith}
use Rattle.std.specs.Prelude.{Option, None, Some, Result, Ok, Err, MatchOption, IsOkUnless, IfErr, find}
use Rattle.std.proofs.lemmas.Bool.{and_from, and_parts, eqb-true, lt-ltb, le-leb}
use Rattle.view_sums.specs.Total.{Adds}
use Rattle.view_sums.proofs.Sums.{total-append, total-le}
use Rattle.view_sums.proofs.Items.{total-replicate_one}
use Rattle.pin_core.specs.Buffers.{buffer_words}
use Rattle.pin_core.specs.Holding.{Holding, Key, IsMeant, at, sole_at}
use Rattle.pin_core.specs.Pins.{Owned, Pins, own, count_at}
use Rattle.pin_core.specs.PinStep.{HasStep, IsClaim, IsPut, IsLoad, IsPin, IsUnpin, IsMove, IsGive}
use Rattle.pin_core.specs.Sound.{IsSound, misfit}
use Rattle.pin_core.specs.Answers.{same_holder, event_of, is_at, is_held_key, credits_of, unless, held_first}
use Rattle.pin_core.specs.Answers.{refusal_of}
use Rattle.pin_core.specs.declared.sizes.Sizes.{Sizes}
use Rattle.pin_core.specs.declared.holder.Holder.{Holder}
use Rattle.pin_core.specs.declared.event.PinEvent.{PinEvent}
use Rattle.pin_core.specs.declared.event.PinEvent.TheVariants as event
use Rattle.pin_core.specs.declared.refused.Refused.{Refused}
use Rattle.pin_core.specs.declared.refused.Refused.TheVariants.{NotFree, NotOwned, NoCredit, OutOfFront, Memory}
use Rattle.pin_core.specs.declared.event.Change.{Change}
use Rattle.pin_core.specs.State.{SizedPins, IsAnswer}
use Rattle.pin_core.proofs.Found.{IsOne, one_of_find, count_none}
use Rattle.pin_core.proofs.Weights.{at-on, sole-at, sole-on, fits, sole-true}
use Rattle.pin_core.proofs.AccountSums.{one_of, one_of-true, same_holder-refl}

-- where all tests pass there is no refusal
none_some : {r : Refused} → None ≡ Some r → ⊥
none_some e = absurd (cc)

passes_not : (t : Bool) (r q : Refused) (later : Option Refused) → t ≡ true → (later ≡ Some q → ⊥) → unless t r later
    ≡ Some q → ⊥
passes_not t r q later e never refused = never (ap (λ b. unless b r later) (sym e) ∙ refused)

is_at-own : (p : Holder) (b : ℕ) (h : Holding) → h.buffer ≡ b → is_at p b (own p h) ≡ true
is_at-own p b h e = and_from (same_holder p p) (eqb h.buffer b) (same_holder-refl p) (eq-eqb h.buffer b e)

key_bits : (x y : Bool) → y ≡ x → cond x y (not y) ≡ true
key_bits true true e = refl
key_bits true false e = absurd (cc)
key_bits false true e = absurd (cc)
key_bits false false e = refl

is_key-own : (p : Holder) (k : Key) (h : Holding) → IsMeant k h → is_held_key p k (own p h) ≡ true
is_key-own p k h m = and_from (is_at p k.buffer (own p h)) (cond k.pinned h.pinned (not h.pinned))
    (is_at-own p k.buffer h m.of_buffer) (key_bits k.pinned h.pinned m.as_pinned)

-- a hold that passes the test is found
module _ (test : Owned Holder → Bool) (holds rest : List (Owned Holder)) (o : Owned Holder) (there : Adds o rest holds)
    (passes : test o ≡ true) where
  some_there : find test holds ≡ None → ⊥
  some_there none = omega
      (arith, count_none test holds none, there (λ x. cond (test x) 1 0), ap {B = ℕ} (λ t. cond t 1 0) passes)

  refused_held : (tests : Holding → Option Refused) (r : Refused) (first : Option (Owned Holder)) → find test holds
      ≡ first → held_first first tests ≡ Some r → (x : Owned Holder) × (find test holds ≡ Some x)
      × (tests x.hold ≡ Some r)
  refused_held tests r None e refused = absurd (some_there e)
  refused_held tests r (Some x) e refused = (x, e, refused)

-- the front of the hold that is found first is that of any other hold of the buffer
module _ (z : Sizes) (s : Pins Holder) (sound : IsSound z s) (p : Holder) (b : ℕ) (h : Holding)
    (rest : List (Owned Holder)) (there : Adds (own p h) rest s.holds) (of_buffer : h.buffer ≡ b) (x : Owned Holder)
    (found : find (is_at p b) s.holds ≡ Some x) where
  one : IsOne (is_at p b) s.holds x
  one = one_of_find (is_at p b) s.holds x found

  x_buffer : x.hold.buffer ≡ b
  x_buffer = eqb-true x.hold.buffer b (and_parts (same_holder x.holder p) (eqb x.hold.buffer b) one.passes).1

  same_front : x.hold.front ≡ h.front
  same_front =
      let misfits : Owned Holder → ℕ = λ o. misfit z sound.held.fronts o.hold in
      let x_fits = fits z sound.held.fronts x.hold (omega (arith, one.whole misfits, sound.held.fitting)) in
      let h_fits = fits z sound.held.fronts h (omega (arith, there misfits, sound.held.fitting)) in
      x_fits.front_is ∙ ap sound.held.fronts (x_buffer ∙ sym of_buffer) ∙ sym h_fits.front_is

  same_exclusive : h.exclusive ≡ true → x.hold.exclusive ≡ true
  same_exclusive exclusive =
      let ats : Owned Holder → ℕ = λ o. at b o.hold in
      let soles : Owned Holder → ℕ = λ o. sole_at b o.hold in
      let only = sound.held.sole b (omega (arith, there soles, sole-on b h of_buffer exclusive)) in
      let others = total-le soles ats (λ o. sole-at b o.hold) one.rest in
      sole-true b x.hold (omega (
        arith,
        only,
        others,
        one.whole soles,
        one.whole ats,
        there soles,
        sole-on b h of_buffer exclusive,
        at-on b
            x.hold x_buffer,
      ))

module _ (z : Sizes) (s : Pins Holder) (sound : IsSound z s) (r : Refused) where
  no_claim : (b : ℕ) (p : Holder) (new : Pins Holder) → refusal_of z s (event.Claim b p) ≡ Some r → IsClaim b p s new
      → ⊥
  no_claim b p new refused step = passes_not (eqb (count_at b s.holds) 0) (NotFree (count_at b s.holds)) r None
      (eq-eqb (count_at b s.holds) 0 step.free) none_some refused

  no_put : (b : ℕ) (p : Holder) (i x : ℕ) (new : Pins Holder) → refusal_of z s (event.Put b p i x) ≡ Some r
      → IsPut z b p i x s new → ⊥
  no_put b p i x new refused step =
      let f = refused_held (is_at p b) s.holds step.rest (own p step.hold) step.held
      (is_at-own p b step.hold step.of_buffer) _ r (find (is_at p b) s.holds) refl refused in
      let front = same_front z s sound p b step.hold step.rest step.held step.of_buffer f.0 f.1 in
      let exclusive = same_exclusive z s sound p b step.hold step.rest step.held step.of_buffer f.0 f.1 step.exclusive
      in
      let inside = and_from (leb i (length f.0.hold.front)) (ltb i (buffer_words z b))
      (le-leb i (length f.0.hold.front) (omega (arith, step.in_front, ap length front)))
      (lt-ltb i (buffer_words z b) step.in_buffer) in
      passes_not f.0.hold.exclusive NotOwned r _ exclusive
      (passes_not (leb i (length f.0.hold.front) && ltb i (buffer_words z b)) (OutOfFront (length f.0.hold.front)) r
      None inside none_some) f.2

  no_load : (b : ℕ) (p : Holder) (i : ℕ) (new : Pins Holder) → refusal_of z s (event.Load b p i) ≡ Some r
      → IsLoad b p i s new → ⊥
  no_load b p i new refused step =
      let f = refused_held (is_at p b) s.holds step.rest (own p step.hold) step.held
      (is_at-own p b step.hold step.of_buffer) _ r (find (is_at p b) s.holds) refl refused in
      let front = same_front z s sound p b step.hold step.rest step.held step.of_buffer f.0 f.1 in
      passes_not (ltb i (length f.0.hold.front)) (OutOfFront (length f.0.hold.front)) r None
      (lt-ltb i (length f.0.hold.front) (omega (arith, step.in_front, ap length front))) none_some f.2

  no_pin : (b : ℕ) (p taker : Holder) (new : Pins Holder) → refusal_of z s (event.Pin b p taker) ≡ Some r
      → IsPin b p taker s new → ⊥
  no_pin b p taker new refused step =
      let f = refused_held (is_at p b) s.holds step.rest (own p step.hold) step.held
      (is_at-own p b step.hold step.of_buffer) _ r (find (is_at p b) s.holds) refl refused in
      let some : 0 < credits_of taker s.credits =
      omega (arith, step.credits (one_of taker), one_of-true taker taker (same_holder-refl taker)) in
      passes_not (ltb 0 (credits_of taker s.credits)) NoCredit r None (lt-ltb 0 (credits_of taker s.credits) some)
      none_some f.2

  no_unpin : (k : Key) (p : Holder) (new : Pins Holder) → held_first (find (is_held_key p k) s.holds) (λ h. None)
      ≡ Some r → IsUnpin k p s new → ⊥
  no_unpin k p new refused step =
      none_some (refused_held (is_held_key p k) s.holds new.holds (own p step.hold) step.unpinned
      (is_key-own p k step.hold step.meant) (λ h. None) r (find (is_held_key p k) s.holds) refl refused).2

  no_move : (k : Key) (p taker : Holder) (new : Pins Holder) → held_first (find (is_held_key p k) s.holds) (λ h. None)
      ≡ Some r → IsMove k p taker s new → ⊥
  no_move k p taker new refused step =
      none_some (refused_held (is_held_key p k) s.holds step.rest (own p step.hold) step.held
      (is_key-own p k step.hold step.meant) (λ h. None) r (find (is_held_key p k) s.holds) refl refused).2

  no_give : (p taker : Holder) (n : ℕ) (new : Pins Holder) → refusal_of z s (event.Give p taker n) ≡ Some r
      → IsGive p taker n s new → ⊥
  no_give p taker n new refused step =
      let enough : n ≤ credits_of p s.credits =
      omega (
        arith,
        step.had (one_of p),
        total-append (one_of p) (replicate n p) step.rest,
        total-replicate_one
            (one_of p) n p (one_of-true p p (same_holder-refl p)),
      )
      in
      passes_not (leb n (credits_of p s.credits)) NoCredit r None (le-leb n (credits_of p s.credits) enough) none_some
      refused

  pub refused_no_step : (e : PinEvent) → refusal_of z s e ≡ Some r → HasStep z s (event_of e) → ⊥
  refused_no_step (event.Claim b p) refused has = no_claim b p has.0 refused has.1
  refused_no_step (event.Put b p i x) refused has = no_put b p i x has.0 refused has.1
  refused_no_step (event.Load b p i) refused has = no_load b p i has.0 refused has.1
  refused_no_step (event.Pin b p taker) refused has = no_pin b p taker has.0 refused has.1
  refused_no_step (event.Unpin b p pinned) refused has = no_unpin (record { buffer = b; pinned = pinned }) p has.0
      refused has.1
  refused_no_step (event.Move b pinned p taker) refused has = no_move (record { buffer = b; pinned = pinned }) p taker
      has.0 refused has.1
  refused_no_step (event.Give p taker n) refused has = no_give p taker n has.0 refused has.1

-- only want of memory keeps a step from being made
module _ (old : SizedPins) (e : PinEvent) (sound : IsSound old.sizes old.pins) (r : Refused) where
  by_refusal : (result : Result Change Refused) → result ≡ Err r → (first : Option Refused)
      → refusal_of old.sizes old.pins e ≡ first → MatchOption first (IsOkUnless result Memory) (λ q. result ≡ Err q)
      → r ≢ Memory → HasStep old.sizes old.pins (event_of e) → ⊥
  by_refusal result is None none first_says other has = let P : Result Change Refused
      → Type 0 = λ x. IsOkUnless x Memory in other (subst P is first_says)
  by_refusal result is (Some q) some first_says other has = refused_no_step old.sizes old.pins sound q e some has

pub only_memory : (old new : SizedPins) (given e : PinEvent) (result : Result Change Refused) → given ≡ e
    → IsAnswer old e result new → IfErr result (λ r. r ≢ Memory → ¬ (HasStep old.sizes old.pins (event_of given)))
only_memory old new given e (Ok change) same answer = tt
only_memory old new given e (Err r) same answer =
    λ other has. by_refusal old e answer.was_sound r (Err r) refl (refusal_of old.sizes old.pins e) refl answer.refused
    other (subst (λ x. HasStep old.sizes old.pins (event_of x)) same has)
