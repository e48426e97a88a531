-- The calls of a fetch.
use Rattle.std.proofs.Common.{◌≡◌, ℕ, zero, suc, ◌+◌, ◌-◌, ◌*◌, ◌%◌, ◌<◌, ◌≤◌, List, [], ◌∷◌, length, take, slice_get}
use Rattle.std.proofs.Common.{get_or, ◌++◌, Bool, true, false, sym, refl, ap, ◌∙◌, subst, arith, Option, Some}
use mathlib.Core.Option.{none}
use Rattle.atomic_table.specs.Table.{Me, step, Allows}
use Rattle.flake_base.specs.declared.segment.Seg.{Seg}
use Rattle.tx_ring.specs.Words.{IsShortSegment, length_word, last_len, frame_words, EachElement, size, extent}
use lib.Seq.{take_all}
use Rattle.tx_ring.specs.Rows.{frame_rows}
use Rattle.tx_ring.specs.declared.job.Row.{Row}
use Rattle.tx_ring.proofs.Words.{take-get}
use Rattle.tx_ring.specs.Ends.{gathering, IsFetching, IsAtWord, Fetched}
use Rattle.tx_ring.specs.Moves.{fetching, holding}
use Rattle.tx_ring.specs.Plays.{Keeps, fetched, Fetches, with_device}
use Rattle.tx_ring.specs.declared.view.View.{View}
use Rattle.std.proofs.lemmas.Nat.{mod_below}
use Rattle.tx_ring.proofs.Posting.{word-at}
use Rattle.tx_ring.proofs.Steps.{fetches-word}

module _ {P : Type 0} (segs : P → List Seg) (n : ℕ) where
  pub fetch-below : (m : Me (Option P) (View P)) (k : ℕ) → 0 < n → IsAtWord segs n m k → k < 3 + 2 * n
  fetch-below m k some_place w = let h = mod_below (2 * extent segs m.0.device.completed + w.1) (2 * n) (omega arith) in
      omega (arith, w.4)

  pub fetch-call : (slots seat : ℕ) (m : Me (Option P) (View P)) (k : ℕ) → slots ≡ n → IsAtWord segs n m k
      → Allows (Keeps segs n) slots seat m k (λ x. x) (fetched segs (step slots k 0 0 none) m)
  fetch-call slots seat m k same w =
      subst (λ (p : ℕ × ℕ). Allows (Keeps segs n) p.0 seat m p.1 (λ x. x) (fetched segs (step p.0 p.1 0 0 none) m))
      (λ j. (sym same j, sym w.4 j))
      (fetches-word segs n seat m w.2 w.0 w.1 w.3)

module _ {P : Type 0} (segs : P → List Seg) (n : ℕ) (f : P) where
  -- the first word is one of the frame, and not its last
  pub at-low : (m : Me (Option P) (View P)) (place at : ℕ) → 0 < n → IsFetching segs n m place at f
      → IsAtWord segs n m (3 + 2 * place)
  at-low m place at some_place i =
      let e : 2 * extent segs m.0.device.completed + 2 * at ≡ 2 * (extent segs m.0.device.completed + at) + 0 =
      omega arith in
      let word : 3 + (2 * extent segs m.0.device.completed + 2 * at) % (2 * n) ≡ 3 + 2 * place =
      (let w = ap (λ t. t % (2 * n)) e ∙ word-at (extent segs m.0.device.completed + at) n 0 some_place (omega arith) in
      omega (arith, i.4)) in
      (f, 2 * at, ap (λ (z : Me (Option P) (View P)). z.0.gathers) i.0, i.1, sym word)

  pub after-low : (slots r : ℕ) (m m' : Me (Option P) (View P)) (place at : ℕ) → IsFetching segs n m place at f
      → Fetches segs slots m r m' m.0.device.stage
      → (r ≡ get_or (frame_words false (segs f)) (2 * at) 0)
      × (m' ≡ (gathering (fetching f (2 * at + 1) m.0.device), []))
  after-low slots r m m' place at i told =
      let t = subst (Fetches segs slots m r m') i.1 told in
      let short = i.2 in (
        t.0,
        t.1 (omega arith)
            ∙ ap (λ (z : Me (Option P) (View P)). (with_device (fetching f (2 * at + 1) m.0.device) z.0, z.1)) i.0,
      )

  pub at-high : (m m' : Me (Option P) (View P)) (place at : ℕ) → 0 < n → IsFetching segs n m place at f
      → m' ≡ (gathering (fetching f (2 * at + 1) m.0.device), []) → IsAtWord segs n m' (3 + 2 * place + 1)
  at-high m m' place at some_place i was =
      let done = ap (λ (z : Me (Option P) (View P)). extent segs z.0.device.completed) was in
      let e : 2 * extent segs m'.0.device.completed + (2 * at + 1) ≡ 2 * (extent segs m.0.device.completed + at) + 1 =
      omega arith in
      let word : 3 + (2 * extent segs m'.0.device.completed + (2 * at + 1)) % (2 * n) ≡ 3 + 2 * place + 1 =
      (let w = ap (λ t. t % (2 * n)) e ∙ word-at (extent segs m.0.device.completed + at) n 1 some_place (omega arith) in
      omega (arith, i.4)) in (
        f,
        2 * at + 1,
        ap (λ (z : Me (Option P) (View P)). z.0.gathers) was,
        ap
            (λ (z : Me (Option P) (View P)). z.0.device.stage) was,
        sym word,
      )

  pub after-high : (slots low r : ℕ) (m m' m'' : Me (Option P) (View P)) (place at : ℕ) → slots ≡ n
      → IsFetching segs n m place at f → low ≡ get_or (frame_words false (segs f)) (2 * at) 0
      → m' ≡ (gathering (fetching f (2 * at + 1) m.0.device), [])
      → Fetches segs slots m' r m'' m'.0.device.stage → Fetched segs m m'' place at low r f
  after-high slots low r m m' m'' place at same i first was told =
      let t = subst (Fetches segs slots m' r m'') (ap (λ (z : Me (Option P) (View P)). z.0.device.stage) was) told in (
        first,
        t.0,
        (λ short. t.1 (omega arith)
            ∙ ap (λ (z : Me (Option P) (View P)). (with_device (fetching f (2 * at + 1 + 1) z.0.device) z.0, z.1)) was
            ∙ ap (λ (k : ℕ). (gathering (fetching f k m.0.device), []))
            (let q : 2 * at + 1 + 1 ≡ 2 * (at + 1) = omega arith in q)),
        λ whole. t.2 (omega arith)
            ∙ ap (λ (z : Me (Option P) (View P)). (
              with_device (holding f z.0.device) z.0,
              ((extent segs z.0.device.completed + (size segs f - 1)) % slots, Some f) ∷ z.1,
            )) was
            ∙ (λ k. (
              gathering (holding f m.0.device),
              ((extent segs m.0.device.completed + (size segs f - 1)) % same k, Some f) ∷ [],
            ))
            ∙ ap (λ (k : ℕ). (gathering (holding f m.0.device), (k, Some f) ∷ []))
            (ap (λ t. t % n) (let q : extent segs m.0.device.completed + (size segs f - 1)
            ≡ extent segs m.0.device.completed + at = omega arith in q) ∙ sym i.4),
      )

-- what the status word of a descriptor shows
pub record Shows (ss : List Seg) (k : ℕ) : Type 0 where
  pub len : ℕ
  pub last : Bool
  pub word : get_or (frame_words false ss) (2 * k + 1) 0 ≡ length_word len last false
  pub short : len ≤ 4096
  pub ends : last ≡ true → (k + 1 ≡ length ss) × (len ≡ last_len ss)
  pub goes_on : last ≡ false → k + 1 < length ss

pub shows : (ss : List Seg) (k : ℕ) → EachElement IsShortSegment ss → k < length ss → Shows ss k
shows [] k a h = absurd (omega arith)
shows (s ∷ []) zero a h = record {
  len = s.len;
  last = true;
  word = refl;
  short = a.0.1;
  ends = λ _. (refl, refl);
  goes_on = λ b. absurd (cc);
}
shows (s ∷ []) (suc k) a h = absurd (omega arith)
shows (s ∷ t ∷ ss) zero a h = record {
  len = s.len;
  last = false;
  word = refl;
  short = a.0.1;
  ends = λ b. absurd (cc);
  goes_on = λ _. omega arith;
}
shows (s ∷ t ∷ ss) (suc k) a h = let r = shows (t ∷ ss) k a.1 (omega arith) in record {
  len = r.len;
  last = r.last;
  word = ap (λ i. get_or (frame_words false (s ∷ t ∷ ss)) i 0)
      (let q : 2 * suc k + 1 ≡ suc (suc (2 * k + 1)) = omega arith in q) ∙ r.word;
  short = r.short;
  ends = λ b. let e = (r.ends b).0 in (omega arith, (r.ends b).1);
  goes_on = λ b. let e = r.goes_on b in omega arith;
}

-- the two words of a descriptor
row-at : (ss : List Seg) (k : ℕ) → k < length ss → slice_get (frame_rows ss) k
    ≡ Some (record {
      address = get_or (frame_words false ss) (2 * k) 0;
      status = get_or (frame_words false ss) (2 * k + 1) 0;
    })
row-at [] k h = absurd (omega arith)
row-at (s ∷ []) zero h = refl
row-at (s ∷ []) (suc k) h = absurd (omega arith)
row-at (s ∷ t ∷ ss) zero h = refl
row-at (s ∷ t ∷ ss) (suc k) h =
    let low : suc (suc (2 * k)) ≡ 2 * suc k = omega arith in
    let high : suc (suc (2 * k + 1)) ≡ 2 * suc k + 1 = omega arith in
    row-at (t ∷ ss) k (omega arith)
    ∙ (λ j. Some (record {
      address = get_or (frame_words false (s ∷ t ∷ ss)) (low j) 0;
      status = get_or (frame_words false (s ∷ t ∷ ss)) (high j) 0;
    }))

rows-length : (ss : List Seg) → length (frame_rows ss) ≡ length ss
rows-length [] = refl
rows-length (s ∷ []) = refl
rows-length (s ∷ t ∷ ss) = ap suc (rows-length (t ∷ ss))

-- one descriptor more was fetched
pub rows-more : (ss : List Seg) (at : ℕ) (rows rows' : List Row) (r : Row) → at < length ss
    → rows ≡ take at (frame_rows ss) → r.address ≡ get_or (frame_words false ss) (2 * at) 0
    → r.status ≡ get_or (frame_words false ss) (2 * at + 1) 0
    → rows' ≡ rows ++ r ∷ [] → rows' ≡ take (at + 1) (frame_rows ss)
rows-more ss at rows rows' r within were low high grew =
    let row_is : r ≡ record {
      address = get_or (frame_words false ss) (2 * at) 0;
      status = get_or (frame_words false ss) (2 * at + 1) 0;
    } = λ k. record { address = low k; status = high k } in
    grew ∙ (λ k. were k ++ r ∷ []) ∙ sym (take-get (frame_rows ss) at r (row-at ss at within ∙ ap Some (sym row_is)))

-- and all of them were
pub rows-all : (ss : List Seg) (at : ℕ) → at + 1 ≡ length ss → take (at + 1) (frame_rows ss) ≡ frame_rows ss
rows-all ss at whole = take_all (at + 1) (frame_rows ss) (omega (arith, rows-length ss))

-- the loop's next descriptor
pub goes-on : {P : Type 0} (segs : P → List Seg) (n : ℕ) (f : P) (m w : Me (Option P) (View P)) (head place at : ℕ)
    → IsFetching segs n m head 0 f → at < size segs f → w ≡ (gathering (fetching f (2 * at) m.0.device), [])
    → place ≡ (extent segs m.0.device.completed + at) % n → IsFetching segs n w place at f
goes-on {P} segs n f m w head place at i within e p = (
  e ∙ ap (λ (z : Me (Option P) (View P)). (gathering z.0.device, [])) (sym e),
  ap (λ (z : Me (Option P) (View P)). z.0.device.stage) e,
  within,
  i.3,
  p ∙ ap (λ (z : Me (Option P) (View P)). (extent segs z.0.device.completed + at) % n) (sym e),
)
