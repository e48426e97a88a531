-- What is shown of the holds that the program keeps, as they come, change and go.
use Rattle.std.proofs.Common.{◌≡◌, ℕ, ◌+◌, ◌-◌, ◌<◌, ◌≤◌, ◌≢◌, List, [], ◌∷◌, ◌++◌, Bool, true, false, not, cond, eqb}
use Rattle.std.proofs.Common.{length, map, take, drop, set, sym, refl, ap, ◌∙◌, lt_of_not-le, eq-eqb, arith}
use mathlib.Core.Logic.{dite}
use native.Mathlib.Decide.{dec_le}
use Rattle.std.specs.Prelude.{fold, count_by, slice_index}
use Rattle.std.proofs.lemmas.Bool.{eqb-true, and_parts}
use Rattle.std.proofs.lemmas.List.{length-take-le, length-drop, take-take, take_more_set, take-set-le, drop-set-lt}
use Rattle.std.proofs.lemmas.List.{drop-set-add, get_or-take, get_or-drop}
use Rattle.view_sums.specs.Total.{total, Each}
use Rattle.view_sums.proofs.Sums.{total-map}
use Rattle.pin_core.specs.Buffers.{buffers, buffer_words, start, word_count}
use Rattle.pin_core.specs.Holding.{at, loose_at, pin_of}
use Rattle.pin_core.specs.Pins.{Owned, Pins, own, count_at}
use Rattle.pin_core.specs.Sound.{IsSound}
use Rattle.pin_core.specs.Answers.{same_holder}
use Rattle.pin_core.specs.Raw.{front_in, owned_in, is_raw_at, is_raw_key}
use Rattle.pin_core.specs.declared.sizes.Sizes.{Sizes}
use Rattle.pin_core.specs.declared.holder.Holder.{Holder}
use Rattle.pin_core.specs.declared.state.Hold.{Hold}
use Rattle.pin_core.proofs.Places.{place-apart, room-within}
use Rattle.pin_core.proofs.Weights.{list_weighing, at-le}
use Rattle.pin_core.proofs.AccountSums.{same_holder-true}

-- a left fold of counts is the sum
fold-count : (test : Hold → Bool) (n : ℕ) (items : List Hold)
    → fold (λ (a : ℕ) (x : Hold). a + cond (test x) 1 0) n items ≡ n + total (λ x. cond (test x) 1 0) items
fold-count test n [] = omega arith
fold-count test n (x ∷ xs) = omega (arith, fold-count test (n + cond (test x) 1 0) xs)

module _ (z : Sizes) (words : List ℕ) where
  pub count_by-weigh : (b : ℕ) (holds : List Hold) → count_by (λ (h : Hold). eqb h.buffer b) holds
      ≡ count_at b (map (owned_in z words) holds)
  count_by-weigh b holds =
      omega (
        arith,
        fold-count (λ h. eqb h.buffer b) 0 holds,
        total-map (λ (o : Owned Holder). at b o.hold)
            (owned_in z words) holds,
      )

-- a buffer has at most one hold more than there are credits
pub count-le : {H : Type 0} (z : Sizes) (s : Pins H) → IsSound z s → (b : ℕ) → count_at b s.holds ≤ z.credits + 1
count-le z s sound b =
    let weighing = list_weighing s.holds in
    omega (
      arith,
      weighing.le (at b) (λ h. pin_of h + loose_at b h) (at-le b),
      weighing.add pin_of
          (loose_at b),
      sound.held.loose b,
      sound.credited,
    )

-- what a hold of this holder and buffer has
pub record IsRaw (p : Holder) (b : ℕ) (h : Hold) : Type 0 where
  pub holder_is : h.holder ≡ p
  pub buffer_is : h.buffer ≡ b

pub raw_at : (p : Holder) (b : ℕ) (h : Hold) → is_raw_at p b h ≡ true → IsRaw p b h
raw_at p b h e = let t = and_parts (same_holder h.holder p) (eqb h.buffer b) e in
    record { holder_is = same_holder-true h.holder p t.0; buffer_is = eqb-true h.buffer b t.1 }

pinned_is : (x y : Bool) → cond x y (not y) ≡ true → y ≡ x
pinned_is true true e = refl
pinned_is true false e = absurd (cc)
pinned_is false true e = absurd (cc)
pinned_is false false e = refl

pub record IsRawKey (p : Holder) (b : ℕ) (pinned : Bool) (h : Hold) : Type 0 where
  pub holder_is : h.holder ≡ p
  pub buffer_is : h.buffer ≡ b
  pub pinned_is : h.pinned ≡ pinned

pub raw_key : (p : Holder) (b : ℕ) (pinned : Bool) (h : Hold) → is_raw_key p b pinned h ≡ true → IsRawKey p b pinned h
raw_key p b pinned h e =
    let t = and_parts (is_raw_at p b h) (cond pinned h.pinned (not h.pinned)) e in
    let raw = raw_at p b h t.0 in
    record { holder_is = raw.holder_is; buffer_is = raw.buffer_is; pinned_is = pinned_is pinned h.pinned t.1 }

-- the front of a hold, whose buffer is among the words
module _ (z : Sizes) (words : List ℕ) (sized : length words ≡ word_count z) (b n : ℕ) (near : b < buffers z)
    (short : n ≤ buffer_words z b) where
  pub front-length : length (front_in z words b n) ≡ n
  front-length = length-take-le n (drop (start z b) words)
      (omega (arith, length-drop (start z b) words, sized, room-within z b near))

  pub front-word : (i : ℕ) → i < n → slice_index (front_in z words b n) i ≡ slice_index words (start z b + i)
  front-word i lt = get_or-take n (drop (start z b) words) i 0 lt ∙ get_or-drop (start z b) words i 0

  -- the front that a put makes
  pub front-put : (i x : ℕ) → i ≤ n → i < buffer_words z b → front_in z (set words (start z b + i) x) b (i + 1)
      ≡ take i (front_in z words b n) ++ x ∷ []
  front-put i x le within =
      let inside : i < length (drop (start z b) words) =
      omega (arith, length-drop (start z b) words, sized, room-within z b near) in
      ap (take (i + 1)) (drop-set-add (start z b) words i x) ∙ take_more_set (drop (start z b) words) i x inside
      ∙ ap (λ xs. xs ++ x ∷ []) (sym (take-take i n (drop (start z b) words) le))

-- a word of one buffer is in no front of another
pub front-else : (z : Sizes) (words : List ℕ) (b c i x n : ℕ) → c ≢ b → i < buffer_words z b → n ≤ buffer_words z c
    → front_in z (set words (start z b + i) x) c n ≡ front_in z words c n
front-else z words b c i x n ne within short = dite (dec_le (start z c) (start z b + i))
    (λ le. let q : ℕ = start z b + i - start z c in
    let q_is : start z c + q ≡ start z b + i = omega (arith, le) in
    let behind : n ≤ q = dite (dec_le n q) (λ y. y)
    (λ m. absurd (place-apart z b c i q ne within (omega (arith, lt_of_not-le m, short)) q_is)) in
    ap (λ (k : ℕ). take n (drop (start z c) (set words k x))) (sym q_is)
    ∙ ap (take n) (drop-set-add (start z c) words q x) ∙ take-set-le n (drop (start z c) words) q x behind)
    (λ m. ap (take n) (drop-set-lt (start z c) words (start z b + i) x (lt_of_not-le m)))

-- holds of other buffers show the same after a put
pub others_stay : (z : Sizes) (words : List ℕ) (b i x : ℕ) (weight : Owned Holder → ℕ) (rest : List Hold)
    → i < buffer_words z b → total (λ (h : Hold). cond (eqb h.buffer b) 1 0) rest ≡ 0
    → Each (λ (h : Hold). h.length ≤ buffer_words z h.buffer) rest
    → total (λ h. weight (owned_in z (set words (start z b + i) x) h)) rest
    ≡ total (λ h. weight (owned_in z words h)) rest
others_stay z words b i x weight [] within alone short = refl
others_stay z words b i x weight (h ∷ rest) within alone short =
    let ne : h.buffer ≢ b = λ e. let one = ap {B = ℕ} (λ t. cond t 1 0) (eq-eqb h.buffer b e) in
    omega (arith, alone, one) in
    let same = front-else z words b h.buffer i x h.length ne within short.0 in
    let shown : List ℕ → Owned Holder = λ front. own h.holder
    (record { buffer = h.buffer; front = front; exclusive = h.exclusive; pinned = h.pinned }) in
    omega (
      arith,
      ap (λ front. weight (shown front)) same,
      others_stay z words b i x weight rest within
          (omega (arith, alone)) short.1,
    )
