-- How many words and slots frames take, and how they are put together.
use Rattle.std.proofs.Common.{◌≡◌, ℕ, zero, suc, ◌+◌, ◌-◌, ◌*◌, ◌<◌, ◌≤◌, ◌≢◌, List, [], ◌∷◌, ◌++◌, length, get_or}
use Rattle.std.proofs.Common.{replicate, Bool, true, false, sym, refl, ap, ◌∙◌, subst, length-append, append_assoc}
use Rattle.std.proofs.Common.{arith, Option, Some, None, slice_get, take, add-one}
use Rattle.std.proofs.lemmas.List.{length-replicate, get_or-append-add, get_or_append_left, get_or_past}
use Rattle.std.proofs.Math.Seq.{get_or-append_seam}
use mathlib.Core.Logic.{dite}
use native.Mathlib.Decide.{dec_le}
use Rattle.flake_base.specs.declared.segment.Seg.{Seg}
use Rattle.tx_ring.specs.Words.{IsShortSegment, length_word, front, last_len, frame_words, pairs, EachElement, IsFrame}
use Rattle.tx_ring.specs.Words.{size, extent, lay, stops}

pub each-append : {A : Type 0} (F : A → Type 0) (xs ys : List A) → EachElement F xs → EachElement F ys
    → EachElement F (xs ++ ys)
each-append F [] ys a b = b
each-append F (x ∷ xs) ys a b = (a.0, each-append F xs ys a.1 b)

pub each-left : {A : Type 0} (F : A → Type 0) (xs ys : List A) → EachElement F (xs ++ ys) → EachElement F xs
each-left F [] ys a = tt
each-left F (x ∷ xs) ys a = (a.0, each-left F xs ys a.1)

pub each-right : {A : Type 0} (F : A → Type 0) (xs ys : List A) → EachElement F (xs ++ ys) → EachElement F ys
each-right F [] ys a = a
each-right F (x ∷ xs) ys a = each-right F xs ys a.1

pub front-length : (ss : List Seg) → 0 < length ss → suc (length (front ss)) ≡ 2 * length ss
front-length [] h = absurd (omega arith)
front-length (s ∷ []) h = refl
front-length (s ∷ t ∷ ss) h = let i = front-length (t ∷ ss) (omega arith) in omega arith

pub frame-length : (b : Bool) (ss : List Seg) → 0 < length ss → length (frame_words b ss) ≡ 2 * length ss
frame-length b ss h = omega (arith, length-append (front ss) (length_word (last_len ss) true b ∷ []), front-length ss h)

pub last-short : (ss : List Seg) → EachElement IsShortSegment ss → last_len ss ≤ 4096
last-short [] a = omega arith
last-short (s ∷ []) a = a.0.1
last-short (s ∷ t ∷ ss) a = last-short (t ∷ ss) a.1

pub pairs-snoc : (xs : List Seg) (s : Seg) → pairs (xs ++ s ∷ []) ≡ (pairs xs ++ s.address ∷ [])
    ++ length_word s.len false false ∷ []
pairs-snoc [] s = refl
pairs-snoc (x ∷ xs) s = ap (λ t. x.address ∷ length_word x.len false false ∷ t) (pairs-snoc xs s)

pub pairs-length : (xs : List Seg) → length (pairs xs) ≡ 2 * length xs
pairs-length [] = refl
pairs-length (x ∷ xs) = omega (arith, pairs-length xs)

pub pairs-frame : (b : Bool) (xs : List Seg) (s : Seg) → frame_words b (xs ++ s ∷ []) ≡ (pairs xs ++ s.address ∷ [])
    ++ length_word s.len true b ∷ []
pairs-frame b [] s = refl
pairs-frame b (x ∷ []) s = refl
pairs-frame b (x ∷ y ∷ xs) s = ap (λ t. x.address ∷ length_word x.len false false ∷ t) (pairs-frame b (y ∷ xs) s)

pub each-get : (ss : List Seg) (i : ℕ) (s : Seg) → EachElement IsShortSegment ss → slice_get ss i ≡ Some s
    → s.len ≤ 4096
each-get [] i s a e = absurd (cc)
each-get (x ∷ ss) zero s a e = let z : x ≡ s = cc in subst (λ (t : Seg). t.len ≤ 4096) z a.0.1
each-get (x ∷ ss) (suc i) s a e = each-get ss i s a.1 e

take-more : {A : Type 0} (ss : List A) (i : ℕ) (s : A) → slice_get ss i ≡ Some s → take (suc i) ss ≡ take i ss ++ s ∷ []
take-more [] i s e = absurd (cc)
take-more (x ∷ ss) zero s e = let z : x ≡ s = cc in ap (λ t. t ∷ []) z
take-more (x ∷ ss) (suc i) s e = ap (λ t. x ∷ t) (take-more ss i s e)

pub take-get : {A : Type 0} (ss : List A) (i : ℕ) (s : A) → slice_get ss i ≡ Some s → take (i + 1) ss ≡ take i ss
    ++ s ∷ []
take-get ss i s e = ap (λ t. take t ss) (add-one i) ∙ take-more ss i s e

module _ {P : Type 0} (segs : P → List Seg) where
  abbrev pub Frame : P → Type 0
  Frame f = IsFrame (segs f)

  pub extent-append : (fs gs : List P) → extent segs (fs ++ gs) ≡ extent segs fs + extent segs gs
  extent-append [] gs = omega arith
  extent-append (f ∷ fs) gs = omega (arith, extent-append fs gs)

  pub lay-append : (b : Bool) (fs gs : List P) → lay segs b (fs ++ gs) ≡ lay segs b fs ++ lay segs b gs
  lay-append b [] gs = refl
  lay-append b (f ∷ fs) gs = ap (λ t. frame_words b (segs f) ++ t) (lay-append b fs gs)
      ∙ sym (append_assoc (frame_words b (segs f)) (lay segs b fs) (lay segs b gs))

  pub stops-append : (fs gs : List P) → stops segs (fs ++ gs) ≡ stops segs fs ++ stops segs gs
  stops-append [] gs = refl
  stops-append (f ∷ fs) gs = ap (λ t. replicate (size segs f - 1) None ++ Some f ∷ t) (stops-append fs gs)
      ∙ sym (append_assoc (replicate (size segs f - 1) None) (Some f ∷ stops segs fs) (stops segs gs))

  pub lay-length : (b : Bool) (fs : List P) → EachElement Frame fs → length (lay segs b fs) ≡ 2 * extent segs fs
  lay-length b [] a = refl
  lay-length b (f ∷ fs) a =
      omega (
        arith,
        length-append (frame_words b (segs f)) (lay segs b fs),
        frame-length b (segs f) a.0.0,
        lay-length b
            fs a.1,
      )

  pub stops-length : (fs : List P) → EachElement Frame fs → length (stops segs fs) ≡ extent segs fs
  stops-length [] a = refl
  stops-length (f ∷ fs) a = let l = length-replicate {A = Option P} (size segs f - 1) None in let k = a.0.0 in
      omega (arith, length-append (replicate (size segs f - 1) None) (Some f ∷ stops segs fs), stops-length fs a.1)

  -- the frame behind fs lies in its last slot
  pub stop-at : (fs gs : List P) (f : P) → EachElement Frame fs → 0 < size segs f → get_or (stops segs (fs ++ f ∷ gs))
      (extent segs fs + (size segs f - 1)) None ≡ Some f
  stop-at fs gs f a some_seg =
      let l = length-replicate {A = Option P} (size segs f - 1) None in
      let n = stops-length fs a in
      ap (λ t. get_or t (extent segs fs + (size segs f - 1)) None) (stops-append fs (f ∷ gs))
      ∙ ap (λ t. get_or (stops segs fs ++ stops segs (f ∷ gs)) (t + (size segs f - 1)) None) (sym n)
      ∙ get_or-append-add (stops segs fs) (stops segs (f ∷ gs)) (size segs f - 1) None
      ∙ ap (λ t. get_or (replicate (size segs f - 1) None ++ Some f ∷ stops segs gs) t None) (sym l)
      ∙ get_or-append_seam (replicate (size segs f - 1) None) (Some f) (stops segs gs) None

  one_stop : (f : P) (k t : ℕ) → t ≢ k → get_or (replicate k None ++ Some f ∷ []) t None ≡ None
  one_stop f zero zero ne = absurd (ne refl)
  one_stop f zero (suc t) ne = refl
  one_stop f (suc k) zero ne = refl
  one_stop f (suc k) (suc t) ne = one_stop f k t (λ e. ne (ap suc e))

  -- a frame more changes only its last slot
  pub stop-else : (fs : List P) (f : P) (j : ℕ) → EachElement Frame fs → j ≢ extent segs fs + (size segs f - 1)
      → get_or (stops segs (fs ++ f ∷ [])) j None ≡ get_or (stops segs fs) j None
  stop-else fs f j a ne = ap (λ t. get_or t j None) (stops-append fs (f ∷ []))
      ∙ dite (dec_le (length (stops segs fs)) j)
      (λ le. let t : ℕ = j - length (stops segs fs) in let q : length (stops segs fs) + t ≡ j = omega arith in
      ap (λ z. get_or (stops segs fs ++ stops segs (f ∷ [])) z None) (sym q) ∙ get_or-append-add (stops segs fs)
      (stops segs (f ∷ [])) t None
      ∙ one_stop f (size segs f - 1) t (λ e. ne (omega (arith, stops-length fs a)))
      ∙ sym (get_or_past (stops segs fs) j None le))
      (λ not_le. get_or_append_left (stops segs fs) (stops segs (f ∷ [])) None j (omega arith))

  pub extent-zero : (fs : List P) → EachElement Frame fs → extent segs fs ≡ 0 → fs ≡ []
  extent-zero [] a e = refl
  extent-zero (f ∷ fs) a e = let k = a.0.0 in absurd (omega arith)
