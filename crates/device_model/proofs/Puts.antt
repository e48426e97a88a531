-- Texts that are put piece by piece.
use Rattle.std.proofs.Common.{◌≡◌, ℕ, ◌+◌, ◌<◌, ◌≤◌, Bool, true, false, List, [], ◌∷◌, ◌++◌, length, take, drop, ap}
use Rattle.std.proofs.Common.{sym, ◌∙◌, subst, append-nil, arith}
use Rattle.std.proofs.lemmas.List.{drop-drop, length-take, length-drop, take_more, take_all}
use Rattle.std.proofs.lemmas.Grind.{flat_map-append}
use Rattle.reply_layout.specs.Gathered.{Reading, read_all}
use Rattle.std.proofs.Math.Seq.{take-add}
use Rattle.std.specs.Borrow.{Bor}
use Rattle.any_wire.specs.Sends.{WireStep, puts, flushes, Chain, Sends}
use Rattle.std.proofs.lemmas.Option.{slice_get_within, get_or_from_slice_get}
use Rattle.std.specs.List.{slice_get}
use Rattle.std.specs.Prelude.{Some}
use Rattle.flake_base.specs.declared.segment.Seg.{Seg}
use Rattle.pin_core.specs.Holding.{Holding}
use Rattle.pin_core.specs.declared.sizes.Sizes.{Sizes}
use Rattle.pinned_pool.proofs.WordRuns.{length-bytes, room-most}
use Rattle.pinned_pool.specs.Addresses.{Covers}
use Rattle.reply_planner.proofs.Placed.{place-covered}
use Rattle.reply_planner.specs.Parcels.{Sent, IsSent, HasBytes}
use Rattle.reply_planner.proofs.Parts.{each-at, length-more}
use Rattle.pinned_pool.specs.Bytes.{bytes_of_words}
use Rattle.pinned_pool.specs.Moves.{front_of}
use Rattle.reply_planner.specs.Places.{buffer_bytes, reading, IsReadable}

-- a run and the run behind it
pub bytes-more : (hs : List Holding) (b from n m : ℕ) → buffer_bytes hs b from n ++ buffer_bytes hs b (from + n) m
    ≡ buffer_bytes hs b from (n + m)
bytes-more hs b from n m =
    let bytes = bytes_of_words (front_of b hs) in
    ap (λ t. take n (drop from bytes) ++ take m t) (sym (drop-drop n from bytes)) ∙ sym (take-add n m (drop from bytes))

-- each segment may be read
pub segment-readable : (z : Sizes) (p : Sent) (i : ℕ) (seg : Seg) → IsSent z p → slice_get p.segments i ≡ Some seg
    → IsReadable z p.holds seg
segment-readable z p i seg is found =
    subst (IsReadable z p.holds) (get_or_from_slice_get p.segments i seg seg found)
    (each-at (IsReadable z p.holds) p.segments i seg is.readable (slice_get_within p.segments i seg found))

pub segment-short : (z : Sizes) (p : Sent) (i : ℕ) (seg : Seg) → IsSent z p → slice_get p.segments i ≡ Some seg
    → seg.len ≤ 4096
segment-short z p i seg is found =
    (subst (λ (s : Seg). (0 < s.len) × (s.len ≤ 4096)) (get_or_from_slice_get p.segments i seg seg found)
    (each-at (λ (s : Seg). (0 < s.len) × (s.len ≤ 4096)) p.segments i seg is.short
    (slice_get_within p.segments i seg found))).1

-- so many bytes are there
pub run-length : (z : Sizes) (p : Sent) (b from n : ℕ) → IsSent z p → HasBytes z p.segments b from n
    → length (buffer_bytes p.holds b from n) ≡ n
run-length z p b from n is h =
    let may = segment-readable z p h.place h.segment is h.found in
    let bytes = bytes_of_words (front_of b p.holds) in
    omega (
      arith,
      h.within.1,
      may.held.within,
      ap (λ k. length (front_of k p.holds)) h.buffer,
      length-take n
          (drop from bytes),
      length-drop from bytes,
      length-bytes (front_of b p.holds),
    )

-- a piece of a segment
pub run-there : (z : Sizes) (p : Sent) (i : ℕ) (seg : Seg) (b from done n : ℕ) → slice_get p.segments i ≡ Some seg
    → Covers z b from seg.address
    → done + n ≤ seg.len → HasBytes z p.segments b (from + done) n
run-there z p i seg b from done n found covers within =
    let place = place-covered z b from seg.address covers in
    record {
      place = i;
      segment = seg;
      found = found;
      buffer = ap (λ (q : ℕ × ℕ). q.0) place;
      within = (omega (arith, ap (λ (q : ℕ × ℕ). q.1) place), omega (arith, ap (λ (q : ℕ × ℕ). q.1) place, within));
    }

-- an offset in a buffer is small
pub fits-in : (z : Sizes) (b from address : ℕ) → Covers z b from address → from < 4096
fits-in z b from address covers = omega (arith, covers.1, room-most z b)

-- one segment more
pub reads-more : (read : Reading) (segs : List Seg) (i : ℕ) (seg : Seg) → slice_get segs i ≡ Some seg
    → read_all read (take i segs) ++ read seg.address seg.len ≡ read_all read (take (i + 1) segs)
reads-more read segs i seg found =
    let each = λ (s : Seg). read s.address s.len in
    let front = take i segs in
    let more : take (i + 1) segs ≡ front ++ seg ∷ [] = take_more segs i seg (slice_get_within segs i seg found)
    ∙ ap (λ s. front ++ s ∷ []) (get_or_from_slice_get segs i seg seg found) in
    sym (ap (read_all read) more ∙ flat_map-append each front (seg ∷ []) ∙ ap (λ t. read_all read front ++ t)
    (append-nil (each seg)))

-- and its length
pub length-next : (z : Sizes) (p : Sent) (i : ℕ) (seg : Seg) → IsSent z p → slice_get p.segments i ≡ Some seg
    → length (read_all (reading z p.holds) (take (i + 1) p.segments))
    ≡ length (read_all (reading z p.holds) (take i p.segments)) + seg.len
length-next z p i seg is found =
    length-more z p i seg is (slice_get_within p.segments i seg found)
    ∙ ap (λ (s : Seg). length (read_all (reading z p.holds) (take i p.segments)) + s.len)
    (get_or_from_slice_get p.segments i seg seg found)

-- all of them
pub reads-all : (read : Reading) (segs : List Seg) (i : ℕ) → length segs ≤ i → read_all read (take i segs)
    ≡ read_all read segs
reads-all read segs i all = ap (read_all read) (take_all i segs all)

module _ {W : Type 0} (put_may : W → Bor (List ℕ) → (W × Bool) → Type 0) (flush_may : W → (W × Bool) → Type 0) where
  -- what is done without a flush may be done where one may come
  loosened : (steps : List WireStep) (failed now : Bool) (w end : W) → Chain put_may (λ w r. ⊥) steps failed now w end
      → Chain put_may flush_may steps failed now w end
  loosened [] failed now w end chain = chain
  loosened (puts piece ∷ steps) true now w end chain = loosened steps true now w end chain
  loosened (flushes ∷ steps) true now w end chain = loosened steps true now w end chain
  loosened (puts piece ∷ steps) false now w end chain =
      (chain.0, chain.1, chain.2, chain.3, loosened steps chain.0.1 now chain.0.0 end chain.4)
  loosened (flushes ∷ steps) false now w end chain = absurd chain.1

  pub sends-loosened : (failed now : Bool) (text : List ℕ) (w end : W) → Sends put_may (λ w r. ⊥) failed now text w end
      → Sends put_may flush_may failed now text w end
  sends-loosened failed now text w end s = record {
    steps = s.steps;
    whole = s.whole;
    short = s.short;
    chain = loosened s.steps failed now w end s.chain;
  }
