-- Each change of holds keeps them sound. What weighs a list of holds, or the holds of many lists, is any sum.
use Rattle.std.proofs.Common.{◌≡◌, ℕ, zero, suc, ◌+◌, ◌<◌, ◌≤◌, ◌≢◌, List, [], ◌∷◌, ◌++◌, true, take, get_or, length}
use Rattle.std.proofs.Common.{sym, refl, ap, ◌∙◌, arith}
use mathlib.Core.Logic.{dite}
use native.Mathlib.Decide.{ℕ_discrete}
use Rattle.std.specs.Prelude.{slice_index, slice_set}
use Rattle.std.proofs.lemmas.List.{length-append, length-take-le, get_or-set_same, get_or-set_other, get_or-take}
use Rattle.std.proofs.lemmas.List.{get_or-append-add}
use Rattle.pin_core.specs.Buffers.{buffers, buffer_words, start, word_count}
use Rattle.pin_core.specs.Holding.{Holding, at, sole_at, loose_at, fresh, shared, pinned_copy, written}
use Rattle.pin_core.specs.Sound.{misfit, AreSound}
use Rattle.pin_core.specs.declared.sizes.Sizes.{Sizes}
use Rattle.pin_core.proofs.Places.{place-within, place-apart}
use Rattle.pin_core.proofs.Weights.{IsWeighing, at-on, at-off, sole-at, loose-at, sole-on, sole-shared, loose-pinned}
use Rattle.pin_core.proofs.Weights.{Fits, fits, misfit-none, refronted, refronted-here, refronted-else}
use Rattle.pin_core.proofs.Weights.{misfit-refronted}

module _ (z : Sizes) (words : List ℕ) (old : (Holding → ℕ) → ℕ) (sound : AreSound z words old) where
  -- lists that no weight tells apart
  pub keeps_same : (new : (Holding → ℕ) → ℕ) → ((f : Holding → ℕ) → new f ≡ old f) → AreSound z words new
  keeps_same new same = record {
    sole = λ b some. omega (arith, same (at b), sound.sole b (omega (arith, same (sole_at b))));
    loose = λ b. omega (arith, same (loose_at b), sound.loose b);
    fronts = sound.fronts;
    fitting = omega (arith, same (misfit z sound.fronts), sound.fitting);
    short = sound.short;
    begun = sound.begun;
  }

  -- a claim of a buffer without a hold
  module _ (new : (Holding → ℕ) → ℕ) (weighing : IsWeighing old) (b : ℕ) (near : b < buffers z) (free : old (at b) ≡ 0)
      (added : (f : Holding → ℕ) → new f ≡ f (fresh b) + old f) where
    claim_sole : (c : ℕ) → 0 < new (sole_at c) → new (at c) ≡ 1
    claim_sole c some = dite (ℕ_discrete b c)
        (λ e. omega (arith, added (at c), at-on c (fresh b) e, ap (λ (k : ℕ). old (at k)) e, free))
        (λ n. omega (
          arith,
          added (at c),
          added (sole_at c),
          at-off c (fresh b) n,
          sole-at c (fresh b),
          sound.sole c
              (omega (arith, added (sole_at c), at-off c (fresh b) n, sole-at c (fresh b))),
        ))

    claim_loose : (c : ℕ) → new (loose_at c) ≤ 1
    claim_loose c = dite (ℕ_discrete b c)
        (λ e. omega (
          arith,
          added (loose_at c),
          at-on c (fresh b) e,
          loose-at c (fresh b),
          weighing.le (loose_at c)
              (at c) (loose-at c),
          ap (λ (k : ℕ). old (at k)) e,
          free,
        ))
        (λ n. omega (arith, added (loose_at c), at-off c (fresh b) n, loose-at c (fresh b), sound.loose c))

    abbrev claim_fronts : ℕ → List ℕ
    claim_fronts = refronted b [] sound.fronts

    claim_fitting : new (misfit z claim_fronts) ≡ 0
    claim_fitting =
        let mine = misfit-none z claim_fronts (fresh b)
        (record { near = near; front_is = sym (refronted-here b [] sound.fronts b refl) }) in
        let others = weighing.le (misfit z claim_fronts) (λ h. misfit z sound.fronts h + at b h)
        (misfit-refronted z b [] sound.fronts) in
        omega (
          arith,
          added (misfit z claim_fronts),
          mine,
          others,
          weighing.add (misfit z sound.fronts)
              (at b),
          sound.fitting,
          free,
        )

    claim_short : (c : ℕ) → length (claim_fronts c) ≤ buffer_words z c
    claim_short c = dite (ℕ_discrete c b)
        (λ e. let n = ap length (refronted-here b [] sound.fronts c e) in omega (arith, n))
        (λ n. omega (arith, ap length (refronted-else b [] sound.fronts c n), sound.short c))

    claim_begun : (c i : ℕ) → c < buffers z → i < length (claim_fronts c) → slice_index words (start z c + i)
        ≡ slice_index (claim_fronts c) i
    claim_begun c i below within = dite (ℕ_discrete c b)
        (λ e. let n = ap length (refronted-here b [] sound.fronts c e) in absurd (omega (arith, n)))
        (λ n. let e = refronted-else b [] sound.fronts c n in sound.begun c i below (omega (arith, ap length e))
        ∙ ap (λ xs. slice_index xs i) (sym e))

    pub keeps_claim : AreSound z words new
    keeps_claim = record {
      sole = claim_sole;
      loose = claim_loose;
      fronts = claim_fronts;
      fitting = claim_fitting;
      short = claim_short;
      begun = claim_begun;
    }

  -- a put under an exclusive hold
  module _ (new rest : (Holding → ℕ) → ℕ) (weighing : IsWeighing rest) (h : Holding) (i x : ℕ)
      (had : (f : Holding → ℕ) → old f ≡ f h + rest f) (has : (f : Holding → ℕ) → new f ≡ f (written i x h) + rest f)
      (exclusive : h.exclusive ≡ true) (in_front : i ≤ length h.front) (in_buffer : i < buffer_words z h.buffer)
      (sized : length words ≡ word_count z)
    where
      abbrev b : ℕ
      b = h.buffer

      abbrev after : List ℕ
      after = take i h.front ++ x ∷ []

      mine : Fits z sound.fronts h
      mine = fits z sound.fronts h (omega (arith, had (misfit z sound.fronts), sound.fitting))

      alone : rest (at b) ≡ 0
      alone = omega (
        arith,
        had (at b),
        at-on b h refl,
        sound.sole b
            (omega (arith, had (sole_at b), sole-on b h refl exclusive)),
      )

      abbrev put_fronts : ℕ → List ℕ
      put_fronts = refronted b after sound.fronts

      abbrev put_words : List ℕ
      put_words = slice_set words (start z b + i) x

      after-length : length after ≡ i + 1
      after-length = length-append (take i h.front) (x ∷ []) ∙ ap (λ (n : ℕ). n + 1) (length-take-le i h.front in_front)

      put_fitting : new (misfit z put_fronts) ≡ 0
      put_fitting =
          let here = misfit-none z put_fronts (written i x h)
          (record { near = mine.near; front_is = sym (refronted-here b after sound.fronts b refl) }) in
          let others = weighing.le (misfit z put_fronts) (λ g. misfit z sound.fronts g + at b g)
          (misfit-refronted z b after sound.fronts) in
          omega (
            arith,
            has (misfit z put_fronts),
            here,
            others,
            weighing.add (misfit z sound.fronts) (at b),
            had
                (misfit z sound.fronts),
            sound.fitting,
            alone,
          )

      put_short : (c : ℕ) → length (put_fronts c) ≤ buffer_words z c
      put_short c = dite (ℕ_discrete c b)
          (λ e. omega (
            arith,
            ap length (refronted-here b after sound.fronts c e),
            after-length,
            ap
                (λ (k : ℕ). buffer_words z k) e,
            in_buffer,
          ))
          (λ n. omega (arith, ap length (refronted-else b after sound.fronts c n), sound.short c))

      below_i : (j : ℕ) → j < i → slice_index put_words (start z b + j) ≡ slice_index after j
      below_i j lt =
          let away : start z b + j ≢ start z b + i = λ e. omega (arith, e) in
          let long : length (take i h.front) ≡ i = length-take-le i h.front in_front in
          let old_front = ap (λ xs. slice_index xs j) mine.front_is in
          let in_old : j < length (sound.fronts b) = omega (arith, ap length mine.front_is) in
          get_or-set_other words (start z b + i) (start z b + j) x 0 away ∙ sound.begun b j mine.near in_old
          ∙ sym old_front ∙ sym (get_or-take i h.front j 0 lt)
          ∙ sym (front_part (take i h.front) j (omega (arith, long)))
        where
          front_part : (xs : List ℕ) (k : ℕ) → k < length xs → get_or (xs ++ x ∷ []) k 0 ≡ get_or xs k 0
          front_part [] k lt = absurd (omega arith)
          front_part (y ∷ ys) zero lt = refl
          front_part (y ∷ ys) (suc k) lt = front_part ys k (omega arith)

      at_i : slice_index put_words (start z b + i) ≡ slice_index after i
      at_i =
          let long : length (take i h.front) ≡ i = length-take-le i h.front in_front in
          let last = get_or-append-add (take i h.front) (x ∷ []) 0 0 in
          let place : length (take i h.front) + 0 ≡ i = omega (arith, long) in
          get_or-set_same words (start z b + i) x 0 (omega (arith, sized, place-within z b i mine.near in_buffer))
          ∙ sym last ∙ ap (λ (k : ℕ). slice_index after k) place

      in_after : (j : ℕ) → j < i + 1 → slice_index put_words (start z b + j) ≡ slice_index after j
      in_after j lt = dite (ℕ_discrete j i) (λ e. ap (λ (k : ℕ). slice_index put_words (start z b + k)) e ∙ at_i
          ∙ ap (λ (k : ℕ). slice_index after k) (sym e)) (λ n. below_i j (omega (arith, n)))

      put_begun : (c j : ℕ) → c < buffers z → j < length (put_fronts c) → slice_index put_words (start z c + j)
          ≡ slice_index (put_fronts c) j
      put_begun c j below within = dite (ℕ_discrete c b)
          (λ e. let front = refronted-here b after sound.fronts c e in
          ap (λ (k : ℕ). slice_index put_words (start z k + j)) e
          ∙ in_after j (omega (arith, ap length front, after-length)) ∙ ap (λ xs. slice_index xs j) (sym front))
          (λ n. let front = refronted-else b after sound.fronts c n in
          let short = sound.short c in
          let inside : j < length (sound.fronts c) = omega (arith, ap length front) in
          get_or-set_other words (start z b + i) (start z c + j) x 0 (place-apart z b c i j n in_buffer (omega arith))
          ∙ sound.begun c j below inside ∙ ap (λ xs. slice_index xs j) (sym front))

      pub keeps_put : AreSound z put_words new
      keeps_put = record {
        sole = λ c some. omega
            (arith, had (at c), has (at c), sound.sole c (omega (arith, had (sole_at c), has (sole_at c))));
        loose = λ c. omega (arith, had (loose_at c), has (loose_at c), sound.loose c);
        fronts = put_fronts;
        fitting = put_fitting;
        short = put_short;
        begun = put_begun;
      }

  -- a pin of a hold
  module _ (new rest : (Holding → ℕ) → ℕ) (weighing : IsWeighing rest) (h : Holding)
      (had : (f : Holding → ℕ) → old f ≡ f h + rest f)
      (has : (f : Holding → ℕ) → new f ≡ f (pinned_copy h) + (f (shared h) + rest f)) where
    pin_sole : (c : ℕ) → 0 < new (sole_at c) → new (at c) ≡ 1
    pin_sole c some =
        let others : 0 < rest (sole_at c) =
        omega (arith, has (sole_at c), sole-shared c (pinned_copy h) refl, sole-shared c (shared h) refl) in
        let one = sound.sole c (omega (arith, had (sole_at c), others)) in
        omega (arith, one, had (at c), has (at c), weighing.le (sole_at c) (at c) (sole-at c), others)

    pub keeps_pin : AreSound z words new
    keeps_pin = record {
      sole = pin_sole;
      loose = λ c. omega (
        arith,
        has (loose_at c),
        had (loose_at c),
        loose-pinned c (pinned_copy h) refl,
        sound.loose
            c,
      );
      fronts = sound.fronts;
      fitting = omega (arith, has (misfit z sound.fronts), had (misfit z sound.fronts), sound.fitting);
      short = sound.short;
      begun = sound.begun;
    }

  -- a hold that ends
  pub keeps_unpin : (new : (Holding → ℕ) → ℕ) → IsWeighing new → (h : Holding)
      → ((f : Holding → ℕ) → old f ≡ f h + new f) → AreSound z words new
  keeps_unpin new weighing h had = record {
    sole = λ c some. omega (
      arith,
      had (at c),
      had (sole_at c),
      weighing.le (sole_at c) (at c) (sole-at c),
      sound.sole c
          (omega (arith, had (sole_at c))),
    );
    loose = λ c. omega (arith, had (loose_at c), sound.loose c);
    fronts = sound.fronts;
    fitting = omega (arith, had (misfit z sound.fronts), sound.fitting);
    short = sound.short;
    begun = sound.begun;
  }
