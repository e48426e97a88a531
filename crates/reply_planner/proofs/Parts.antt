-- The segments of a parcel, one by one.
use Rattle.std.proofs.Common.{◌≡◌, ℕ, zero, suc, ◌+◌, ◌<◌, ◌≤◌, List, [], ◌∷◌, length, take, drop, get_or, refl, sym}
use Rattle.std.proofs.Common.{ap, ◌∙◌, length-append, arith}
use Rattle.std.proofs.lemmas.List.{length-take, length-drop, take_more, take_all}
use Rattle.std.proofs.lemmas.Grind.{flat_map-append}
use Rattle.view_sums.specs.Total.{Each}
use Rattle.view_sums.proofs.Eachs.{each-imp, each-map}
use Rattle.pin_core.specs.Holding.{Holding, Key}
use Rattle.pin_core.specs.declared.sizes.Sizes.{Sizes}
use Rattle.pinned_pool.specs.Bytes.{bytes_of_words}
use Rattle.pinned_pool.specs.Moves.{front_of}
use Rattle.pinned_pool.specs.Named.{IsSeat}
use Rattle.pinned_pool.specs.declared.view.View.{View}
use Rattle.pinned_pool.proofs.Within.{front-short}
use Rattle.pinned_pool.proofs.WordRuns.{room-most, length-bytes}
use Rattle.flake_base.specs.declared.segment.Seg.{Seg}
use Rattle.reply_layout.specs.Gathered.{read_all}
use Rattle.reply_planner.specs.Owned.{IsStaging}
use Rattle.reply_planner.specs.Places.{place_of, reading, IsHeld, IsReadable}
use Rattle.reply_planner.specs.Parcels.{Sent, sent, IsParcelOf, IsSent}

pub each-at : {A : Type 0} (P : A → Type 0) (xs : List A) (i : ℕ) (d : A) → Each P xs → i < length xs
    → P (get_or xs i d)
each-at P [] i d all near = absurd (omega arith)
each-at P (x ∷ xs) zero d all near = all.0
each-at P (x ∷ xs) (suc i) d all near = each-at P xs i d all.1 (omega arith)

-- a segment is at most a buffer's size
pub short : (z : Sizes) (v : View) (seg : Seg) → IsSeat z v → IsReadable z v.holds seg → seg.len ≤ 4096
short z v seg seat may =
    let b = (place_of z seg.address).0 in
    omega (arith, may.held.within, front-short z v seat b may.held.held, room-most z b)

pub sent_is : (z : Sizes) (segments : List Seg) (call : ℕ) (pins staged : List Key) (v : View) → IsSeat z v
    → IsParcelOf z segments pins staged v → IsSent z (sent z segments call pins staged v.holds)
sent_is z segments call pins staged v seat is = record {
  some = is.some;
  few = is.few;
  short = each-imp (IsReadable z v.holds) (λ (seg : Seg). (0 < seg.len) × (seg.len ≤ 4096))
      (λ seg may. (may.some, short z v seg seat may)) segments is.readable;
  readable = is.readable;
  text_is = refl;
  small = each-map (λ b. b < z.small) (λ (k : Key). k.buffer) staged
      (each-imp (IsStaging z) (λ (k : Key). k.buffer < z.small) (λ k s. s.0) staged is.staging);
}

-- as many bytes are read as are asked for
pub length-reading : (z : Sizes) (hs : List Holding) (address n : ℕ) → IsHeld z hs address n
    → length (reading z hs address n) ≡ n
length-reading z hs address n held =
    let b = (place_of z address).0 in
    let offset = (place_of z address).1 in
    let bytes = bytes_of_words (front_of b hs) in
    omega (
      arith,
      length-take n (drop offset bytes),
      length-drop offset bytes,
      length-bytes
          (front_of b hs),
      held.within,
    )

-- one segment more
pub length-more : (z : Sizes) (p : Sent) (i : ℕ) (d : Seg) → IsSent z p → i < length p.segments
    → length (read_all (reading z p.holds) (take (i + 1) p.segments))
    ≡ length (read_all (reading z p.holds) (take i p.segments)) + (get_or p.segments i d).len
length-more z p i d is near =
    let read = λ (seg : Seg). reading z p.holds seg.address seg.len in
    let seg = get_or p.segments i d in
    let may = each-at (IsReadable z p.holds) p.segments i d is.readable near in
    let front = take i p.segments in
    omega (
      arith,
      ap (λ segs. length (read_all (reading z p.holds) segs)) (take_more p.segments i d near),
      ap length
          (flat_map-append read front (seg ∷ [])),
      length-append (read_all (reading z p.holds) front)
          (read_all (reading z p.holds) (seg ∷ [])),
      length-append (read seg) [],
      length-reading z p.holds seg.address
          seg.len may.held,
    )

pub short-at : (z : Sizes) (p : Sent) (i : ℕ) (d : Seg) → IsSent z p → i < length p.segments
    → (get_or p.segments i d).len ≤ 4096
short-at z p i d is near = (each-at (λ (seg : Seg). (0 < seg.len) × (seg.len ≤ 4096)) p.segments i d is.short near).1

pub length-all : (z : Sizes) (p : Sent) (i : ℕ) → IsSent z p → length p.segments ≤ i
    → length (read_all (reading z p.holds) (take i p.segments)) ≡ length p.text
length-all z p i is all = ap (λ segs. length (read_all (reading z p.holds) segs)) (take_all i p.segments all)
    ∙ ap length (sym is.text_is)
