-- Each descriptor stands in its place.
use Rattle.std.proofs.Common.{◌≡◌, ℕ, zero, suc, ◌+◌, ◌*◌, ◌%◌, ◌<◌, ◌≤◌, List, [], ◌∷◌, ◌++◌, length, get_or, Bool}
use Rattle.std.proofs.Common.{true, false, sym, refl, ap, ◌∙◌, subst, length-append, append_assoc, arith, Option, Some}
use Rattle.std.proofs.Common.{slice_get}
use Rattle.std.specs.Int.{w64, to_le_bytes}
use Rattle.std.proofs.lemmas.List.{get_or_append_left}
use mathlib.Core.Option as maybe
use Rattle.flake_base.specs.declared.segment.Seg.{Seg}
use Rattle.tx_descriptor.specs.declared.legacy.Legacy.{Legacy}
use Rattle.tx_descriptor.specs.Bytes.{descriptor_bytes}
use Rattle.tx_ring.specs.Words.{IsShortSegment, length_word, frame_words, EachElement, IsFrame, extent, lay}
use Rattle.tx_ring.specs.Rule.{Stands}
use Rattle.tx_ring.specs.Rows.{frame_descriptors}
use Rattle.tx_ring.specs.InDescriptors.{place_bytes, descriptors_of, WordsAreDescriptors}
use Rattle.tx_ring.specs.declared.view.DriverView.{DriverView}
use Rattle.tx_ring.specs.declared.view.DeviceView.{DeviceView}
use Rattle.tx_ring.proofs.Words.{each-append, each-left, each-right}
use Rattle.tx_ring.proofs.Posting.{word-at}
use Rattle.tx_ring.proofs.Descriptors.{halves}

-- a descriptor's second word
abbrev high : Legacy → ℕ
high v = length_word v.len v.eop v.dd

abbrev words_of : List Legacy → List ℕ
words_of [] = []
words_of (v ∷ vs) = v.address ∷ high v ∷ words_of vs

words_of-append : (vs us : List Legacy) → words_of (vs ++ us) ≡ words_of vs ++ words_of us
words_of-append [] us = refl
words_of-append (v ∷ vs) us = ap (λ t. v.address ∷ high v ∷ t) (words_of-append vs us)

frame-is : (done : Bool) (ss : List Seg) → 0 < length ss → frame_words done ss ≡ words_of (frame_descriptors done ss)
frame-is done [] h = absurd (omega arith)
frame-is done (s ∷ []) h = refl
frame-is done (s ∷ t ∷ ss) h = ap (λ ws. s.address ∷ length_word s.len false false ∷ ws)
    (frame-is done (t ∷ ss) (omega arith))

-- of a ring: RS stands with EOP, and the length fits
abbrev Fits : Legacy → Type 0
Fits v = (v.rs ≡ v.eop) × (v.len ≤ 4096)

frame-fits : (done : Bool) (ss : List Seg) → EachElement IsShortSegment ss
    → EachElement Fits (frame_descriptors done ss)
frame-fits done [] a = tt
frame-fits done (s ∷ []) a = ((refl, a.0.1), tt)
frame-fits done (s ∷ t ∷ ss) a = ((refl, a.0.1), frame-fits done (t ∷ ss) a.1)

fits-at : (vs : List Legacy) (j : ℕ) (v : Legacy) → EachElement Fits vs → slice_get vs j ≡ Some v → Fits v
fits-at [] j v a e = absurd (cc)
fits-at (x ∷ vs) zero v a e = let z : x ≡ v = cc in subst Fits z a.0
fits-at (x ∷ vs) (suc j) v a e = fits-at vs j v a.1 e

-- the two words of a descriptor
low-at : (vs : List Legacy) (j : ℕ) (v : Legacy) → slice_get vs j ≡ Some v → (2 * j + 1 < length (words_of vs))
    × (get_or (words_of vs) (2 * j) 0 ≡ v.address) × (get_or (words_of vs) (2 * j + 1) 0 ≡ high v)
low-at [] j v e = absurd (cc)
low-at (x ∷ vs) zero v e = let z : x ≡ v = cc in (omega arith, ap (λ (u : Legacy). u.address) z, ap high z)
low-at (x ∷ vs) (suc j) v e =
    let r = low-at vs j v e in
    let two : 2 * suc j ≡ suc (suc (2 * j)) = omega arith in
    let three : 2 * suc j + 1 ≡ suc (suc (2 * j + 1)) = omega arith in (
      omega (arith, r.0),
      ap (λ k. get_or (words_of (x ∷ vs)) k 0) two
          ∙ r.1,
      ap (λ k. get_or (words_of (x ∷ vs)) k 0) three ∙ r.2,
    )

bytes-are : (v : Legacy) → Fits v → to_le_bytes w64 v.address ++ to_le_bytes w64 (high v) ≡ descriptor_bytes v
bytes-are v f = halves v.address v.len v.eop v.dd f.1
    ∙ ap (λ (rs : Bool). descriptor_bytes
    (record { address = v.address; len = v.len; eop = v.eop; rs = rs; dd = v.dd })) (sym f.0)

module _ {P : Type 0} (segs : P → List Seg) where
  lay-is : (done : Bool) (fs : List P) → EachElement (λ (f : P). IsFrame (segs f)) fs → lay segs done fs
      ≡ words_of (descriptors_of segs done fs)
  lay-is done [] a = refl
  lay-is done (f ∷ fs) a = (λ i. frame-is done (segs f) a.0.0 i ++ lay-is done fs a.1 i)
      ∙ sym (words_of-append (frame_descriptors done (segs f)) (descriptors_of segs done fs))

  all-fit : (done : Bool) (fs : List P) → EachElement (λ (f : P). IsFrame (segs f)) fs
      → EachElement Fits (descriptors_of segs done fs)
  all-fit done [] a = tt
  all-fit done (f ∷ fs) a = each-append Fits (frame_descriptors done (segs f)) (descriptors_of segs done fs)
      (frame-fits done (segs f) a.0.1) (all-fit done fs a.1)

  module _ (n : ℕ) (words : List ℕ) (homes : List (maybe.Option (Option P))) (d : DriverView P) (e : DeviceView P)
      (s : Stands segs n words homes d e) where
    abbrev frame : P → Type 0
    frame f = IsFrame (segs f)

    abbrev all : List Legacy
    all = descriptors_of segs true s.finished ++ descriptors_of segs false s.waiting

    laid : lay segs true s.finished ++ (lay segs false s.waiting ++ d.draft) ≡ words_of all ++ d.draft
    laid = (λ i. lay-is true s.finished (each-left frame s.finished s.waiting s.frames) i
        ++ (lay-is false s.waiting (each-right frame s.finished s.waiting s.frames) i ++ d.draft))
        ∙ sym (append_assoc (words_of (descriptors_of segs true s.finished))
        (words_of (descriptors_of segs false s.waiting)) d.draft)
        ∙ ap (λ ws. ws ++ d.draft)
        (sym (words_of-append (descriptors_of segs true s.finished) (descriptors_of segs false s.waiting)))

    -- a word of a descriptor
    word : (k : ℕ) → k < length (words_of all) → get_or words (3 + (2 * extent segs d.reaped + k) % (2 * n)) 0
        ≡ get_or (words_of all) k 0
    word k low = s.written k (omega (arith, ap length laid, length-append (words_of all) d.draft))
        ∙ ap (λ ws. get_or ws k 0) laid ∙ get_or_append_left (words_of all) d.draft 0 k low

    pub stand-at : (j : ℕ) (v : Legacy) → slice_get all j ≡ Some v → place_bytes words ((extent segs d.reaped + j) % n)
        ≡ descriptor_bytes v
    stand-at j v is =
        let a : ℕ = extent segs d.reaped + j in
        let two = low-at all j v is in
        let fits = s.fits in
        let fit = fits-at all j v
        (each-append Fits (descriptors_of segs true s.finished) (descriptors_of segs false s.waiting)
        (all-fit true s.finished (each-left frame s.finished s.waiting s.frames))
        (all-fit false s.waiting (each-right frame s.finished s.waiting s.frames))) is in
        let low : 3 + 2 * (a % n) ≡ 3 + (2 * extent segs d.reaped + 2 * j) % (2 * n) =
        (let e : 2 * extent segs d.reaped + 2 * j ≡ 2 * a + 0 = omega arith in let w = ap (λ t. t % (2 * n)) e
        ∙ word-at a n 0 (omega arith) (omega arith) in omega arith) in
        let top : 3 + 2 * (a % n) + 1 ≡ 3 + (2 * extent segs d.reaped + (2 * j + 1)) % (2 * n) =
        (let e : 2 * extent segs d.reaped + (2 * j + 1) ≡ 2 * a + 1 = omega arith in let w = ap (λ t. t % (2 * n)) e
        ∙ word-at a n 1 (omega arith) (omega arith) in omega arith) in
        let first : get_or words (3 + 2 * (a % n)) 0 ≡ v.address = ap (λ t. get_or words t 0) low
        ∙ word (2 * j) (omega (arith, two.0)) ∙ two.1 in
        let last : get_or words (3 + 2 * (a % n) + 1) 0 ≡ high v = ap (λ t. get_or words t 0) top
        ∙ word (2 * j + 1) two.0 ∙ two.2 in
        (λ i. to_le_bytes w64 (first i) ++ to_le_bytes w64 (last i)) ∙ bytes-are v fit

  no-frame : (fs : List P) → length fs ≡ 0 → fs ≡ []
  no-frame [] e = refl
  no-frame (f ∷ fs) e = absurd (omega (arith, e))

  -- where all was reaped, nothing stands
  none-left : (reaped finished waiting : List P) → reaped ≡ (reaped ++ finished) ++ waiting → (finished ≡ [])
      × (waiting ≡ [])
  none-left reaped finished waiting e =
      let long = ap length e in
      let more = length-append (reaped ++ finished) waiting in
      let some = length-append reaped finished in
      (no-frame finished (omega (arith, long, more, some)), no-frame waiting (omega (arith, long, more, some)))

  pub words-are-descriptors : WordsAreDescriptors segs
  words-are-descriptors n words homes views ring =
      let s = ring.stands in
      record {
        finished = s.finished;
        waiting = s.waiting;
        completed_is = s.completed_is;
        posted_is = s.posted_is;
        fits = (let fits = s.fits in omega arith);
        each = stand-at n words homes ring.driver ring.device s;
        ended = λ t. none-left ring.driver.reaped s.finished s.waiting
            (sym (s.closed (s.ended t)).1 ∙ s.posted_is ∙ ap (λ fs. fs ++ s.waiting) s.completed_is);
      }
