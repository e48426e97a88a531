-- The steps as the code calls them, at a place and a word of it.
use Rattle.std.proofs.Common.{◌≡◌, ℕ, ◌+◌, ◌-◌, ◌*◌, ◌/◌, ◌%◌, ◌<◌, ◌≤◌, List, [], ◌∷◌, ◌++◌, length, true, false, sym}
use Rattle.std.proofs.Common.{ap, ◌∙◌, subst, length-append, arith, Option, Some, None, mul_comm, mul_assoc, take}
use Rattle.std.proofs.Common.{slice_get}
use mathlib.Core.Option.{none}
use Rattle.std.proofs.lemmas.Nat.{mod-mul-add, div-add-mod', mod_below}
use Rattle.atomic_table.specs.Table.{Me, step, Allows, rest}
use Rattle.flake_base.specs.declared.segment.Seg.{Seg}
use Rattle.tx_ring.specs.Words.{length_word, frame_words, pairs, IsFrame, size, extent}
use Rattle.tx_ring.specs.Ends.{IsDrafting, IsPut, with_draft}
use native.Mathlib.Nat.{mul-add-mod_self_right}
use Rattle.std.proofs.lemmas.List.{length-take-le}
use lib.Seq.{take_all}
use Rattle.tx_ring.proofs.Words.{pairs-length, pairs-snoc, pairs-frame, take-get}
use Rattle.tx_ring.specs.Moves.{drafting, drafted, posting}
use Rattle.tx_ring.specs.Plays.{Keeps, wrote, wrote_last, moved_tail, with_driver}
use Rattle.tx_ring.specs.declared.view.View.{View}
use Rattle.tx_ring.proofs.Steps.{writes-word, writes-last-word, moves-the-tail}

-- where the word b of descriptor a stands
pub word-at : (a n b : ℕ) → 0 < n → b < 2 → (2 * a + b) % (2 * n) ≡ 2 * (a % n) + b
word-at a n b some_place low =
    let q : ℕ = a / n in
    let r : ℕ = a % n in
    let e : q * n + r ≡ a = div-add-mod' a n in
    let h : r < n = mod_below a n some_place in
    let twice : q * (2 * n) ≡ 2 * (q * n) = sym (mul_assoc q 2 n) ∙ ap (λ t. t * n) (mul_comm q 2) ∙ mul_assoc 2 q n in
    let whole : 2 * a + b ≡ q * (2 * n) + (2 * r + b) = omega arith in
    ap (λ t. t % (2 * n)) whole ∙ mod-mul-add q (2 * n) (2 * r + b) (omega arith)

pub next-place : (a place n r : ℕ) → 0 < n → place ≡ a % n → r ≡ (place + 1) % n → r ≡ (a + 1) % n
next-place a place n r some_place is e = e ∙ ap (λ t. (t + 1) % n) is
    ∙ (let h : a / n * n + a % n ≡ a = div-add-mod' a n in sym (mul-add-mod_self_right (a / n) n (a % n + 1))
    ∙ ap (λ t. t % n) (let z : a / n * n + (a % n + 1) ≡ a + 1 = omega arith in z))

take_all_of : (ss : List Seg) (n : ℕ) → n ≡ length ss → take n ss ≡ ss
take_all_of ss n e = take_all n ss (omega arith)

module _ {P : Type 0} (segs : P → List Seg) (n slots seat : ℕ) (m : Me (Option P) (View P)) (same : slots ≡ n) where
  pub place-below : (v : View P) (place : ℕ) → 0 < n → IsDrafting segs n v place → place < n
  place-below v place some_place i = let h = mod_below (extent segs v.driver.posted + i.drafted) n some_place in
      omega (arith, i.is_place)

  pub write-first : (place x : ℕ) → 0 < n → IsDrafting segs n m.0 place → Allows (Keeps segs n) slots seat m
      (3 + 2 * place) (λ _. x) (λ _. wrote segs (step slots (3 + 2 * place) x 0 none) m x)
  write-first place x some_place i =
      let word : 3 + (2 * extent segs m.0.driver.posted + length m.0.driver.draft) % (2 * n) ≡ 3 + 2 * place =
      (let e : 2 * extent segs m.0.driver.posted + length m.0.driver.draft
      ≡ 2 * (extent segs m.0.driver.posted + i.drafted) + 0 = omega (arith, i.whole) in
      let w = ap (λ t. t % (2 * n)) e ∙ word-at (extent segs m.0.driver.posted + i.drafted) n 0 some_place
      (omega arith) in omega (arith, i.is_place)) in
      subst (λ (p : ℕ × ℕ). Allows (Keeps segs n) p.0 seat m p.1 (λ _. x) (λ _. wrote segs (step p.0 p.1 x 0 none) m x))
      (λ k. (sym same k, word k))
      (writes-word segs n seat m i.drives x i.idle (omega (arith, i.whole, i.room)))

  pub write-second : (place x y : ℕ) (v : View P) → 0 < n → IsDrafting segs n v place
      → m.0 ≡ with_driver (drafting y v.driver) v
      → Allows (Keeps segs n) slots seat m (3 + 2 * place + 1) (λ _. x)
      (λ _. wrote segs (step slots (3 + 2 * place + 1) x 0 none) m x)
  write-second place x y v some_place i was =
      let posted = ap (λ (z : View P). extent segs z.driver.posted) was in
      let reaped = ap (λ (z : View P). extent segs z.driver.reaped) was in
      let draft = ap (λ (z : View P). length z.driver.draft) was ∙ length-append v.driver.draft (y ∷ []) in
      let word : 3 + (2 * extent segs m.0.driver.posted + length m.0.driver.draft) % (2 * n) ≡ 3 + 2 * place + 1 =
      (let e : 2 * extent segs m.0.driver.posted + length m.0.driver.draft
      ≡ 2 * (extent segs v.driver.posted + i.drafted) + 1 = omega (arith, i.whole) in
      let w = ap (λ t. t % (2 * n)) e ∙ word-at (extent segs v.driver.posted + i.drafted) n 1 some_place
      (omega arith) in omega (arith, i.is_place)) in
      subst (λ (p : ℕ × ℕ). Allows (Keeps segs n) p.0 seat m p.1 (λ _. x) (λ _. wrote segs (step p.0 p.1 x 0 none) m x))
      (λ k. (sym same k, word k))
      (writes-word segs n seat m (ap (λ (z : View P). z.drives) was ∙ i.drives) x
      (ap (λ (z : View P). z.driver.stage) was ∙ i.idle) (omega (arith, i.whole, i.room)))

-- the end of a post: v is the view before the last two words
module _ {P : Type 0} (segs : P → List Seg) (n slots seat : ℕ) (m : Me (Option P) (View P)) (same : slots ≡ n)
    (v : View P) (place y : ℕ) (some_place : 0 < n) (i : IsDrafting segs n v place) where
  pub write-last : (x : ℕ) → m.0 ≡ with_driver (drafting y v.driver) v → Allows (Keeps segs n) slots seat m
      (3 + 2 * place + 1) (λ _. x) (λ _. wrote_last segs (step slots (3 + 2 * place + 1) x 0 none) m x)
  write-last x was =
      let posted = ap (λ (z : View P). extent segs z.driver.posted) was in
      let reaped = ap (λ (z : View P). extent segs z.driver.reaped) was in
      let draft = ap (λ (z : View P). length z.driver.draft) was ∙ length-append v.driver.draft (y ∷ []) in
      let word : 3 + (2 * extent segs m.0.driver.posted + length m.0.driver.draft) % (2 * n) ≡ 3 + 2 * place + 1 =
      (let e : 2 * extent segs m.0.driver.posted + length m.0.driver.draft
      ≡ 2 * (extent segs v.driver.posted + i.drafted) + 1 = omega (arith, i.whole) in
      let w = ap (λ t. t % (2 * n)) e ∙ word-at (extent segs v.driver.posted + i.drafted) n 1 some_place
      (omega arith) in omega (arith, i.is_place)) in
      subst (λ (p : ℕ × ℕ). Allows (Keeps segs n) p.0 seat m p.1 (λ _. x)
      (λ _. wrote_last segs (step p.0 p.1 x 0 none) m x)) (λ k. (sym same k, word k))
      (writes-last-word segs n seat m (ap (λ (z : View P). z.drives) was ∙ i.drives) x
      (ap (λ (z : View P). z.driver.stage) was ∙ i.idle) (omega (arith, i.whole)) (omega (arith, i.whole, i.room)))

  pub move-tail : (last after : ℕ) (f : P) (s : Seg)
      → m ≡ (with_driver (drafted (length_word s.len true false) (drafting s.address v.driver)) v, (place, Some f) ∷ [])
      → IsFrame (segs f)
      → v.driver.draft ≡ pairs (take last (segs f)) → slice_get (segs f) last ≡ Some s → last + 1 ≡ size segs f
      → after ≡ (place + 1) % n
      → IsPut segs n m after
  move-tail last after f s was frame draft at whole next =
      let q : i.drafted ≡ last =
      omega (
        arith,
        i.whole,
        ap length draft ∙ pairs-length (take last (segs f))
            ∙ ap (λ t. 2 * t) (length-take-le last (segs f) (omega arith)),
      ) in
      let posted : m.0.driver.posted ≡ v.driver.posted = ap (λ (z : Me (Option P) (View P)). z.0.driver.posted) was in
      let all : take last (segs f) ++ s ∷ [] ≡ segs f = sym (take-get (segs f) last s at)
      ∙ take_all_of (segs f) (last + 1) whole in
      let ws : m.0.driver.draft ≡ frame_words false (segs f) = ap (λ (z : Me (Option P) (View P)). z.0.driver.draft) was
      ∙ ap (λ t. (t ++ s.address ∷ []) ++ length_word s.len true false ∷ []) draft
      ∙ sym (pairs-frame false (take last (segs f)) s) ∙ ap (frame_words false) all in
      let here : extent segs m.0.driver.posted + (size segs f - 1) ≡ extent segs v.driver.posted + i.drafted =
      omega (arith, ap (extent segs) posted) in
      let carried : m.1 ≡ ((extent segs m.0.driver.posted + (size segs f - 1)) % n, Some f) ∷ [] =
      ap (λ (z : Me (Option P) (View P)). z.1) was ∙ (λ k. (i.is_place k, Some f) ∷ [])
      ∙ (λ k. (sym here k % n, Some f) ∷ []) in
      let tail : (extent segs m.0.driver.posted + size segs f) % n ≡ after =
      sym (next-place (extent segs v.driver.posted + i.drafted) place n after some_place i.is_place next
      ∙ ap (λ t. t % n) (let z : extent segs v.driver.posted + i.drafted + 1 ≡ extent segs m.0.driver.posted
      + size segs f = omega (arith, ap (extent segs) posted) in z)) in (
        f,
        ap (λ (z : Me (Option P) (View P)). z.0.drives) was
            ∙ i.drives,
        ap (λ (z : Me (Option P) (View P)). z.0.driver.stage) was,
        ws,
        frame,
        carried,
        sym tail,
      )

pub put-call : {P : Type 0} (segs : P → List Seg) (n slots seat : ℕ) (m : Me (Option P) (View P)) (tail : ℕ) → slots ≡ n
    → IsPut segs n m tail → Allows (Keeps segs n) slots seat m 0 (λ _. tail)
    (λ _. moved_tail segs (step slots 0 tail 0 none) m tail)
put-call {P} segs n slots seat m tail same p =
    subst (λ (q : ℕ × ℕ). Allows (Keeps segs n) q.0 seat m 0 (λ _. q.1)
    (λ _. moved_tail segs (step q.0 0 q.1 0 none) m q.1)) (λ k. (sym same k, sym p.6 k))
    (moves-the-tail segs n seat m p.1 p.0 p.2 p.3 p.4 p.5)

-- the draft after the first segments of a frame
pub drafts : {P : Type 0} (segs : P → List Seg) (n : ℕ) (v w : View P) (start place i : ℕ) (ss : List Seg)
    → IsDrafting segs n v start → v.driver.draft ≡ [] → i ≤ length ss
    → extent segs v.driver.posted + i + 2 ≤ extent segs v.driver.reaped + n → w ≡ with_draft (pairs (take i ss)) v
    → place ≡ (extent segs v.driver.posted + i) % n → IsDrafting segs n w place
drafts {P} segs n v w start place i ss d empty within room e at = record {
  drives = ap (λ (z : View P). z.drives) e ∙ d.drives;
  idle = ap (λ (z : View P). z.driver.stage) e ∙ d.idle;
  drafted = i;
  whole = ap (λ (z : View P). length z.driver.draft) e ∙ pairs-length (take i ss)
      ∙ ap (λ t. 2 * t) (length-take-le i ss within);
  is_place = at ∙ ap (λ (z : View P). (extent segs z.driver.posted + i) % n) (sym e);
  room = subst (λ (z : View P). extent segs z.driver.posted + i + 2 ≤ extent segs z.driver.reaped + n) (sym e) room;
}

-- one segment more
pub drafts-more : {P : Type 0} (v : View P) (c : List (ℕ × Option P)) (m : Me (Option P) (View P)) (ss : List Seg)
    (i : ℕ) (s : Seg) (m' : Me (Option P) (View P)) → m ≡ (with_draft (pairs (take i ss)) v, c) → slice_get ss i
    ≡ Some s
    → m' ≡ (with_driver (drafting (length_word s.len false false) (drafting s.address m.0.driver)) m.0, m.1)
    → m' ≡ (with_draft (pairs (take (i + 1) ss)) v, c)
drafts-more {P} v c m ss i s m' e at step = step
    ∙ ap (λ (z : Me (Option P) (View P)).
    (with_driver (drafting (length_word s.len false false) (drafting s.address z.0.driver)) z.0, z.1)) e
    ∙ ap (λ t. (with_draft t v, c)) (sym (ap pairs (take-get ss i s at) ∙ pairs-snoc (take i ss) s))

-- the seat once the frame lies in the slot
pub put-in : {P : Type 0} (m m1 m2 m3 : Me (Option P) (View P)) (x y k place : ℕ) (f : P) → m.1 ≡ []
    → m1 ≡ (with_driver (drafting y m.0.driver) m.0, m.1)
    → m2 ≡ (with_driver (drafted x m1.0.driver) m1.0, (k, None) ∷ m1.1)
    → m3 ≡ (m2.0, (place, Some f) ∷ rest m2.1)
    → m3 ≡ (with_driver (drafted x (drafting y m.0.driver)) m.0, (place, Some f) ∷ [])
put-in {P} m m1 m2 m3 x y k place f empty a b c =
    c ∙ ap (λ (z : Me (Option P) (View P)). (z.0, (place, Some f) ∷ rest z.1)) b
    ∙ ap (λ (z : Me (Option P) (View P)). (with_driver (drafted x z.0.driver) z.0, (place, Some f) ∷ z.1)) a
    ∙ ap (λ t. (with_driver (drafted x (drafting y m.0.driver)) m.0, (place, Some f) ∷ t)) empty

pub put-out : {P : Type 0} (m m3 m4 : Me (Option P) (View P)) (x y place : ℕ) (f : P)
    → m3 ≡ (with_driver (drafted x (drafting y m.0.driver)) m.0, (place, Some f) ∷ [])
    → ((k : ℕ) (g : P) → m3.1 ≡ (k, Some g) ∷ [] → m4 ≡ (with_driver (posting g m3.0.driver) m3.0, []))
    → m4 ≡ (with_driver (posting f m.0.driver) m.0, [])
put-out {P} m m3 m4 x y place f e told = told place f (ap (λ (z : Me (Option P) (View P)). z.1) e)
    ∙ ap (λ (z : Me (Option P) (View P)). (with_driver (posting f z.0.driver) z.0, [])) e
