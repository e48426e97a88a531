-- Each event keeps a list of holds sound, and so do all events in turn.
use Rattle.std.proofs.Common.{◌≡◌, ℕ, ◌+◌, ◌<◌, List, [], ◌∷◌, ◌++◌, Bool, true, false, cond, length, set, replicate}
use Rattle.std.proofs.Common.{sym, refl, ap, ◌∙◌, subst, arith}
use Rattle.std.proofs.lemmas.List.{length-append, length-set, length-replicate}
use Rattle.view_sums.specs.Total.{SameItems, Each}
use Rattle.view_sums.proofs.Items.{same_length}
use Rattle.pin_core.specs.Buffers.{buffers, buffer_words, start, word_count}
use Rattle.pin_core.specs.Holding.{Holding, Key, pin_of, fresh, shared, pinned_copy, written}
use Rattle.pin_core.specs.Pins.{Owned, Pins, own, weigh}
use Rattle.pin_core.specs.PinStep.{Event, claim, put, load, pin, unpin, move, give, IsNear, IsClaim, IsPut, IsPin}
use Rattle.pin_core.specs.PinStep.{IsUnpin, IsMove, IsGive, PinStep, PinSteps}
use Rattle.pin_core.specs.Sound.{IsSound, AreSound, opened_pins}
use Rattle.pin_core.specs.Laws.{EventsKeepSound}
use Rattle.pin_core.specs.declared.sizes.Sizes.{Sizes}
use Rattle.pin_core.proofs.Weights.{list_weighing}
use Rattle.pin_core.proofs.Keeps.{keeps_same, keeps_claim, keeps_put, keeps_pin, keeps_unpin}

-- a pinned hold that ends is one credit more
unpin_credit : {H : Type 0} (t : Bool) (p : H) (credits : List H) → length (cond t (p ∷ credits) credits) ≡ cond t 1 0
    + length credits
unpin_credit true p credits = omega arith
unpin_credit false p credits = omega arith

module _ {H : Type 0} (z : Sizes) where
  pub opened_sound : (p : H) → IsSound z (opened_pins z p)
  opened_sound p = record {
    sized = length-replicate (word_count z) 0;
    held = record {
      sole = λ b some. absurd (omega (arith, some));
      loose = λ b. omega arith;
      fronts = λ b. [];
      fitting = refl;
      short = λ b. omega arith;
      begun = λ b i near within. absurd (omega (arith, within));
    };
    credited = omega (arith, length-replicate z.credits p);
  }

  module _ (old new : Pins H) (sound : IsSound z old) where
    -- a weight of the holds themselves
    by_hold : (xs ys : List (Owned H)) → SameItems xs ys → (f : Holding → ℕ) → weigh xs f ≡ weigh ys f
    by_hold xs ys same f = same (λ (o : Owned H). f o.hold)

    -- the words stay
    on_words : (w : List ℕ) → new.words ≡ w → AreSound z w (weigh new.holds) → AreSound z new.words (weigh new.holds)
    on_words w e held = let P : List ℕ → Type 0 = λ ws. AreSound z ws (weigh new.holds) in subst P (sym e) held

    pub same_sound : SameItems new.holds old.holds → new.words ≡ old.words → SameItems new.credits old.credits
        → IsSound z new
    same_sound holds words credits = record {
      sized = ap length words ∙ sound.sized;
      held = on_words old.words words
          (keeps_same z old.words (weigh old.holds) sound.held (weigh new.holds) (by_hold new.holds old.holds holds));
      credited = omega (
        arith,
        by_hold new.holds old.holds holds pin_of,
        same_length new.credits old.credits credits,
        sound.credited,
      );
    }

    pub claim_sound : (b : ℕ) (p : H) → b < buffers z → IsClaim b p old new → IsSound z new
    claim_sound b p near step =
        let added = by_hold new.holds (own p (fresh b) ∷ old.holds) step.claimed in
        record {
          sized = ap length step.words ∙ sound.sized;
          held = on_words old.words step.words
              (keeps_claim z old.words (weigh old.holds) sound.held (weigh new.holds) (list_weighing old.holds) b near
              step.free added);
          credited = omega (arith, added pin_of, same_length new.credits old.credits step.credits, sound.credited);
        }

    pub put_sound : (b : ℕ) (p : H) (i x : ℕ) → IsPut z b p i x old new → IsSound z new
    put_sound b p i x step =
        let had = by_hold old.holds (own p step.hold ∷ step.rest) step.held in
        let has = by_hold new.holds (own p (written i x step.hold) ∷ step.rest) step.put in
        let in_buffer : i < buffer_words z step.hold.buffer =
        omega (arith, step.in_buffer, ap (λ (k : ℕ). buffer_words z k) step.of_buffer) in
        let kept = keeps_put z old.words (weigh old.holds) sound.held (weigh new.holds) (weigh step.rest)
        (list_weighing step.rest) step.hold i x had has step.exclusive step.in_front in_buffer sound.sized in
        let place = ap (λ (k : ℕ). set old.words (start z k + i) x) step.of_buffer in
        record {
          sized = ap length step.words ∙ length-set old.words (start z b + i) x ∙ sound.sized;
          held = on_words (set old.words (start z step.hold.buffer + i) x) (step.words ∙ sym place) kept;
          credited = omega (
            arith,
            had pin_of,
            has pin_of,
            same_length new.credits old.credits step.credits,
            sound.credited,
          );
        }

    pub pin_sound : (b : ℕ) (p taker : H) → IsPin b p taker old new → IsSound z new
    pin_sound b p taker step =
        let had = by_hold old.holds (own p step.hold ∷ step.rest) step.held in
        let has = by_hold new.holds (own taker (pinned_copy step.hold) ∷ own p (shared step.hold) ∷ step.rest)
        step.pinned in
        record {
          sized = ap length step.words ∙ sound.sized;
          held = on_words old.words step.words
              (keeps_pin z old.words (weigh old.holds) sound.held (weigh new.holds) (weigh step.rest)
              (list_weighing step.rest) step.hold had has);
          credited = omega (
            arith,
            had pin_of,
            has pin_of,
            same_length old.credits (taker ∷ new.credits) step.credits,
            sound.credited,
          );
        }

    pub unpin_sound : (k : Key) (p : H) → IsUnpin k p old new → IsSound z new
    unpin_sound k p step =
        let had = by_hold old.holds (own p step.hold ∷ new.holds) step.unpinned in
        let credit = same_length new.credits (cond k.pinned (p ∷ old.credits) old.credits) step.credits
        ∙ unpin_credit k.pinned p old.credits in
        record {
          sized = ap length step.words ∙ sound.sized;
          held = on_words old.words step.words
              (keeps_unpin z old.words (weigh old.holds) sound.held (weigh new.holds) (list_weighing new.holds)
              step.hold had);
          credited = omega (
            arith,
            had pin_of,
            credit,
            ap {B = ℕ} (λ t. cond t 1 0) step.meant.as_pinned,
            sound.credited,
          );
        }

    pub move_sound : (k : Key) (p taker : H) → IsMove k p taker old new → IsSound z new
    move_sound k p taker step =
        let had = by_hold old.holds (own p step.hold ∷ step.rest) step.held in
        let has = by_hold new.holds (own taker step.hold ∷ step.rest) step.moved in
        let same : (f : Holding → ℕ) → weigh new.holds f ≡ weigh old.holds f = λ f. omega (arith, had f, has f) in
        record {
          sized = ap length step.words ∙ sound.sized;
          held = on_words old.words step.words
              (keeps_same z old.words (weigh old.holds) sound.held (weigh new.holds) same);
          credited = omega (arith, same pin_of, same_length new.credits old.credits step.credits, sound.credited);
        }

    pub give_sound : (p taker : H) (n : ℕ) → IsGive p taker n old new → IsSound z new
    give_sound p taker n step =
        let same = by_hold new.holds old.holds step.holds in
        record {
          sized = ap length step.words ∙ sound.sized;
          held = on_words old.words step.words
              (keeps_same z old.words (weigh old.holds) sound.held (weigh new.holds) same);
          credited =
              omega (
                arith,
                same pin_of,
                same_length new.credits (replicate n taker ++ step.rest) step.given,
                same_length old.credits (replicate n p ++ step.rest) step.had,
                length-append (replicate n taker) step.rest,
                length-append (replicate n p) step.rest,
                length-replicate n taker,
                length-replicate n p,
                sound.credited,
              );
        }

  pub step_sound : (old new : Pins H) (e : Event H) → IsNear z e → PinStep z old e new → IsSound z old → IsSound z new
  step_sound old new (claim b p) near step sound = claim_sound old new sound b p near step
  step_sound old new (put b p i x) near step sound = put_sound old new sound b p i x step
  step_sound old new (load b p i) near step sound = same_sound old new sound step.holds step.words step.credits
  step_sound old new (pin b p taker) near step sound = pin_sound old new sound b p taker step
  step_sound old new (unpin k p) near step sound = unpin_sound old new sound k p step
  step_sound old new (move k p taker) near step sound = move_sound old new sound k p taker step
  step_sound old new (give p taker n) near step sound = give_sound old new sound p taker n step

  pub steps_sound : (events : List (Event H)) (old end : Pins H) → Each (IsNear z) events → PinSteps z old events end
      → IsSound z old → IsSound z end
  steps_sound [] old end near same sound = same_sound old end sound same.holds same.words same.credits
  steps_sound (e ∷ es) old end near steps sound = steps_sound es steps.0 end near.1 steps.2
      (step_sound old steps.0 e near.0 steps.1 sound)

pub events_keep_sound : {H : Type 0} → EventsKeepSound H
events_keep_sound z opener events end near steps = steps_sound z events (opened_pins z opener) end near steps
    (opened_sound z opener)
