-- Staging buffers that are filled one after another.
use Rattle.std.proofs.Common.{◌≡◌, ◌≢◌, ℕ, zero, suc, ◌+◌, ◌-◌, ◌*◌, ◌/◌, ◌%◌, ◌<◌, ◌≤◌, List, [], ◌∷◌, Bool, true}
use Rattle.std.proofs.Common.{false, cond, eqb, length, map, take, drop, get_or, sym, refl, ap, ◌∙◌, subst, arith}
use mathlib.Core.Logic.{dite}
use native.Mathlib.Decide.{ℕ_discrete}
use Rattle.std.proofs.lemmas.List.{length-take, length-drop, take-take, drop-take, drop-drop}
use Rattle.view_sums.specs.Total.{total}
use Rattle.pin_core.specs.Holding.{Holding, at, loose_at}
use Rattle.pinned_pool.specs.Bytes.{bytes_of_words, PutsBytes}
use Rattle.pinned_pool.specs.Views.{IsLoose, among}
use Rattle.pinned_pool.specs.Moves.{front_of}
use Rattle.pinned_pool.specs.declared.view.View.{View}
use Rattle.frag_value.specs.Filled.{with_front, IsWords, Fills}
use Rattle.frag_value.proofs.Fronts.{front-with}
use Rattle.frag_value.proofs.Framed.{front-with-other}
use Rattle.frag_value.proofs.FilledBuffer.{filled}
use Rattle.frag_value.proofs.Sames.{same-yes}
use Rattle.reply_planner.specs.Owned.{AreOwn, bare, bare_all}
use Rattle.reply_planner.specs.Places.{buffer_bytes}
use Rattle.reply_planner.specs.Filled.{IsFilledWith}
use Rattle.reply_planner.proofs.Owned.{own-loose, own_there, own_bare}
use Rattle.frag_value.proofs.Fronts.{sole_held}

-- weights that don't see fronts
bare-with : (b : ℕ) (ws : List ℕ) (hs : List Holding) → bare_all (map (with_front b ws) hs) ≡ bare_all hs
bare-with b ws [] = refl
bare-with b ws (h ∷ hs) = λ i. one (eqb h.buffer b) i ∷ bare-with b ws hs i
  where
    one : (t : Bool) → bare (cond t (record h { front = ws }) h) ≡ bare h
    one true = refl
    one false = refl

-- the buffer at a place of a list is in it, and at two places it is there twice
pub among-at : (bs : List ℕ) (i : ℕ) → i < length bs → 0 < among (get_or bs i 0) bs
among-at [] i near = absurd (omega arith)
among-at (b ∷ bs) zero near = omega (arith, same-yes b b refl)
among-at (b ∷ bs) (suc i) near = omega (arith, among-at bs i (omega arith))

among-two : (bs : List ℕ) (i j : ℕ) → i < j → j < length bs → get_or bs i 0 ≡ get_or bs j 0
    → 1 < among (get_or bs j 0) bs
among-two [] i j below near e = absurd (omega arith)
among-two (b ∷ bs) i zero below near e = absurd (omega arith)
among-two (b ∷ bs) zero (suc j) below near e = omega (arith, same-yes b (get_or bs j 0) e, among-at bs j (omega arith))
among-two (b ∷ bs) (suc i) (suc j) below near e = omega (arith, among-two bs i j (omega arith) (omega arith) e)

pub apart : (bs : List ℕ) (hs : List Holding) → AreOwn hs bs → ((b : ℕ) → total (loose_at b) hs ≤ 1) → (i j : ℕ) → i < j
    → j < length bs → get_or bs i 0 ≢ get_or bs j 0
apart bs hs own loose i j below near e =
    let b = get_or bs j 0 in
    absurd (omega (arith, among-two bs i j below near e, own b, own-loose b hs, loose b))

-- the piece of the text for the buffer at a place
abbrev pub piece : List ℕ → ℕ → List ℕ
piece text j = take 512 (drop (512 * j) text)

-- the first i buffers are filled
pub record FilledTo (text staged : List ℕ) (i : ℕ) (old now : View) : Type 0 where
  pub words : (j : ℕ) → j < i → IsWords (piece text j) (front_of (get_or staged j 0) now.holds)
  pub holds : bare_all now.holds ≡ bare_all old.holds
  pub credits : now.credits ≡ old.credits
  pub claims : now.claims ≡ old.claims
  pub looks : now.looks ≡ old.looks
  pub returns : now.returns ≡ old.returns
  pub lasts : now.lasts ≡ old.lasts

pub filled_none : (text staged : List ℕ) (v : View) → FilledTo text staged 0 v v
filled_none text staged v = record {
  words = λ j below. absurd (omega arith);
  holds = refl;
  credits = refl;
  claims = refl;
  looks = refl;
  returns = refl;
  lasts = refl;
}

-- what is held stays
pub own_now : (text staged : List ℕ) (i : ℕ) (old now : View) → FilledTo text staged i old now → AreOwn old.holds staged
    → AreOwn now.holds staged
own_now text staged i old now was own = own_bare old.holds now.holds staged (sym was.holds) own

module _ (text staged : List ℕ) (i : ℕ) (old now next : View) (was : FilledTo text staged i old now) where
  pub filled_more : (near : i < length staged) → AreOwn old.holds staged → IsLoose old → (bytes : List ℕ)
      → bytes ≡ piece text i → 0 < length bytes → PutsBytes (get_or staged i 0) 0 bytes now next
      → FilledTo text staged (i + 1) old next
  filled_more near own loose bytes is some puts =
      let b = get_or staged i 0 in
      let fills : Fills b bytes now next = filled b bytes now next some puts in
      let holds : next.holds ≡ map (with_front b fills.words) now.holds = ap (λ (v : View). v.holds) fills.seat in
      let mine = own_now text staged i old now was own in
      let held : 0 < total (at b) now.holds = sole_held b now.holds
      (own_there now.holds staged b mine (among-at staged i near)) in
      let here : front_of b next.holds ≡ fills.words = ap (front_of b) holds
      ∙ front-with b fills.words now.holds held in
      record {
        words = λ j below. dite (ℕ_discrete j i)
            (λ e. subst (λ k. IsWords (piece text k) (front_of (get_or staged k 0) next.holds)) (sym e)
            (subst (λ xs. IsWords xs (front_of b next.holds)) is (subst (IsWords bytes) (sym here) fills.text)))
            (λ n.
            let lower : j < i = omega (arith, n) in
            let away = apart staged old.holds own loose j i lower near in
            let other : front_of (get_or staged j 0) next.holds ≡ front_of (get_or staged j 0) now.holds =
            ap (front_of (get_or staged j 0)) holds ∙ front-with-other b (get_or staged j 0) fills.words now.holds
            away in
            subst (IsWords (piece text j)) (sym other) (was.words j lower));
        holds = ap bare_all holds ∙ bare-with b fills.words now.holds ∙ was.holds;
        credits = ap (λ (v : View). v.credits) fills.seat ∙ was.credits;
        claims = ap (λ (v : View). v.claims) fills.seat ∙ was.claims;
        looks = ap (λ (v : View). v.looks) fills.seat ∙ was.looks;
        returns = ap (λ (v : View). v.returns) fills.seat ∙ was.returns;
        lasts = ap (λ (v : View). v.lasts) fills.seat ∙ was.lasts;
      }

-- a part of a list's beginning is a part of the list
part : (xs : List ℕ) (long from n : ℕ) → from + n ≤ long → take n (drop from (take long xs)) ≡ take n (drop from xs)
part xs long from n within =
    let more = long - from in
    let e : from + more ≡ long = omega (arith, within) in
    ap (λ m. take n (drop from (take m xs))) (sym e) ∙ ap (take n) (drop-take from more xs)
    ∙ take-take n more (drop from xs) (omega (arith, within))

pub filled_all : (text staged : List ℕ) (i : ℕ) (old now : View) → length text ≤ 512 * i
    → FilledTo text staged i old now → IsFilledWith text staged old now
filled_all text staged i old now all was = record {
  text_is = text_is;
  long = long;
  holds = was.holds;
  credits = was.credits;
  claims = was.claims;
  looks = was.looks;
  returns = was.returns;
  lasts = was.lasts;
}
  where
    length-piece : (k n : ℕ) → k % 512 + n ≤ 512 → k + n ≤ length text → k % 512 + n ≤ length (piece text (k / 512))
    length-piece k n in_one in_text =
        omega (
          arith,
          in_one,
          in_text,
          length-take 512 (drop (512 * (k / 512)) text),
          length-drop
              (512 * (k / 512)) text,
        )

    long : (k n : ℕ) → k % 512 + n ≤ 512 → k + n ≤ length text → 0 < n
        → k % 512 + n ≤ 8 * length (front_of (get_or staged (k / 512) 0) now.holds)
    long k n in_one in_text some =
        omega (arith, length-piece k n in_one in_text, (was.words (k / 512) (omega (arith, all, in_text, some))).long)

    text_is : (k n : ℕ) → k % 512 + n ≤ 512 → k + n ≤ length text → buffer_bytes now.holds (get_or staged (k / 512) 0)
        (k % 512) n ≡ take n (drop k text)
    text_is k zero in_one in_text = refl
    text_is k (suc m) in_one in_text =
        let j = k / 512 in
        let r = k % 512 in
        let n = suc m in
        let front = bytes_of_words (front_of (get_or staged j 0) now.holds) in
        let xs = piece text j in
        let within = length-piece k n in_one in_text in
        sym (part front (length xs) r n within)
        ∙ ap (λ l. take n (drop r l)) (was.words j (omega (arith, all, in_text))).begin
        ∙ part (drop (512 * j) text) 512 r n in_one
        ∙ ap (take n) (drop-drop r (512 * j) text)
        ∙ ap (λ a. take n (drop a text)) (let e : 512 * j + r ≡ k = omega arith in e)

-- a text that begins another one, which is filled in
pub filled_front : (text more staged : List ℕ) (old now : View) → take (length text) more ≡ text
    → IsFilledWith more staged old now → IsFilledWith text staged old now
filled_front text more staged old now front was = record {
  text_is = λ k n in_one in_text. was.text_is k n in_one (omega (arith, in_text, longer))
      ∙ sym (part more (length text) k n in_text) ∙ ap (λ l. take n (drop k l)) front;
  long = λ k n in_one in_text some. was.long k n in_one (omega (arith, in_text, longer)) some;
  holds = was.holds;
  credits = was.credits;
  claims = was.claims;
  looks = was.looks;
  returns = was.returns;
  lasts = was.lasts;
}
  where
    longer : length text ≤ length more
    longer = omega (arith, ap length front, length-take (length text) more)
