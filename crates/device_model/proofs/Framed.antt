-- Frames that are put one after another, from a text that is read from place to place.
use Rattle.std.proofs.Common.{◌≡◌, ◌⊎◌, inl, inr, ⊎_elim, ℕ, zero, suc, ◌+◌, ◌-◌, ◌*◌, ◌/◌, ◌%◌, ◌<◌, ◌≤◌, List, []}
use Rattle.std.proofs.Common.{◌∷◌, ◌++◌, Some, min, slice_get, length, take, drop, refl, ap, sym, ◌∙◌}
use Rattle.std.proofs.Common.{subst, append_assoc, append-nil, arith}
use borrow.Rule.Slice.PartMut.{put_mid}
use Rattle.std.specs.List.{flat_map}
use Rattle.std.proofs.lemmas.List.{length-take, length-drop, drop-drop, drop-take, drop_at, drop_all, take-append-le}
use Rattle.std.proofs.lemmas.List.{drop-append-le, take-take, take_at, take_min, drop_min}
use Rattle.std.proofs.lemmas.Option.{slice_get_within, get_or_from_slice_get}
use Rattle.std.proofs.lemmas.Grind.{div_ceil_times}
use Rattle.std.proofs.Math.Nat.{lt_of_mul-lt-mul_right}
use Rattle.std.proofs.Math.Seq.{drop-cons, take-add, take-append-add}
use Rattle.flake_base.specs.declared.segment.Seg.{Seg}
use Rattle.mtu_frames.specs.Frames.{mtu_frame_bytes, cuts_from, frames_from}
use Rattle.pin_core.specs.declared.sizes.Sizes.{Sizes}
use Rattle.pinned_pool.specs.Addresses.{Covers}
use Rattle.reply_planner.proofs.Parts.{each-at, length-reading}
use Rattle.reply_planner.proofs.Placed.{place-covered}
use Rattle.reply_planner.specs.Parcels.{Sent, IsSent}
use Rattle.reply_planner.specs.Places.{buffer_bytes, reading}
use Rattle.pinned_pool.specs.Bytes.{bytes_of_words}
use Rattle.pinned_pool.specs.Moves.{front_of}
use Rattle.reply_layout.specs.Gathered.{read_all}
use Rattle.device_model.specs.Framing.{text_behind, IsInText}
use Rattle.device_model.proofs.Puts.{segment-readable}

-- the place before a text is in it, and all of it is behind
pub in-first : (z : Sizes) (p : Sent) (i : ℕ) → IsSent z p → IsInText p.segments i 0
in-first z p i is seg found =
    (subst (λ (s : Seg). (0 < s.len) × (s.len ≤ 4096)) (get_or_from_slice_get p.segments i seg seg found)
    (each-at (λ (s : Seg). (0 < s.len) × (s.len ≤ 4096)) p.segments i seg is.short
    (slice_get_within p.segments i seg found))).0

pub behind-all : (z : Sizes) (p : Sent) → IsSent z p → text_behind z p 0 0 ≡ p.text
behind-all z p is = sym is.text_is

-- what is behind a place in a segment
pub behind-in : (z : Sizes) (p : Sent) (i offset : ℕ) (seg : Seg) → slice_get p.segments i ≡ Some seg
    → text_behind z p i offset ≡ drop offset (reading z p.holds seg.address seg.len ++ text_behind z p (i + 1) 0)
behind-in z p i offset seg found =
    let read = reading z p.holds in
    let more : suc i ≡ i + 1 = omega arith in
    let next : drop i p.segments ≡ seg ∷ drop (i + 1) p.segments =
    drop-cons p.segments i seg (slice_get_within p.segments i seg found)
    ∙ ap (λ (s : Seg). s ∷ drop (suc i) p.segments) (get_or_from_slice_get p.segments i seg seg found)
    ∙ ap (λ k. seg ∷ drop k p.segments) more in
    ap (λ segs. drop offset (read_all read segs)) next

-- a part of what a segment has
pub behind-part : (z : Sizes) (p : Sent) (i offset n b from : ℕ) (seg : Seg) → IsSent z p
    → slice_get p.segments i ≡ Some seg → Covers z b from seg.address → offset + n ≤ seg.len
    → buffer_bytes p.holds b (from + offset) n ≡ take n (text_behind z p i offset)
behind-part z p i offset n b from seg is found covers within =
    let may = segment-readable z p i seg is found in
    let part = reading z p.holds seg.address seg.len in
    let size : length part ≡ seg.len = length-reading z p.holds seg.address seg.len may.held in
    let bytes = bytes_of_words (front_of b p.holds) in
    let here : part ≡ take seg.len (drop from bytes) =
    ap (λ (q : ℕ × ℕ). buffer_bytes p.holds q.0 q.1 seg.len) (place-covered z b from seg.address covers) in
    let rest = text_behind z p (i + 1) 0 in
    let whole : offset + (seg.len - offset) ≡ seg.len = omega arith in
    let cut : drop offset part ≡ take (seg.len - offset) (drop (from + offset) bytes) =
    ap (drop offset) here ∙ ap (λ k. drop offset (take k (drop from bytes))) (sym whole)
    ∙ drop-take offset (seg.len - offset) (drop from bytes)
    ∙ ap (take (seg.len - offset)) (drop-drop offset from bytes) in
    sym (ap (take n) (behind-in z p i offset seg found)
    ∙ ap (take n) (drop-append-le offset part rest (omega (arith, size, within)))
    ∙ take-append-le n (drop offset part) rest (omega (arith, length-drop offset part, size, within))
    ∙ ap (take n) cut
    ∙ take-take n (seg.len - offset) (drop (from + offset) bytes) (omega (arith, within)))

-- and what is behind it
pub behind-on : (z : Sizes) (p : Sent) (i offset n : ℕ)
    → text_behind z p i (offset + n) ≡ drop n (text_behind z p i offset)
behind-on z p i offset n = sym (drop-drop n offset (read_all (reading z p.holds) (drop i p.segments)))

pub behind-over : (z : Sizes) (p : Sent) (i offset n : ℕ) (seg : Seg) → IsSent z p → slice_get p.segments i ≡ Some seg
    → offset + n ≡ seg.len → text_behind z p (i + 1) 0 ≡ drop n (text_behind z p i offset)
behind-over z p i offset n seg is found whole =
    let may = segment-readable z p i seg is found in
    let part = reading z p.holds seg.address seg.len in
    let size : length part ≡ seg.len = length-reading z p.holds seg.address seg.len may.held in
    sym (sym (behind-on z p i offset n) ∙ behind-in z p i (offset + n) seg found
    ∙ drop_at part (text_behind z p (i + 1) 0) (offset + n) (size ∙ sym whole))

-- a room that has some bytes of a text, and then has more of them
pub filled-more : (done n : ℕ) (room rest more behind : List ℕ) → done ≤ length room → n ≤ length (drop done behind)
    → take done room ≡ take done behind
    → take (done + n) (take done room ++ ((take n (drop done behind) ++ rest) ++ more)) ≡ take (done + n) behind
filled-more done n room rest more behind in-room in-text same =
    let front = take done room in
    let next = take n (drop done behind) in
    let size : length front ≡ done = omega (arith, length-take done room, in-room) in
    let count : length next ≡ n = omega (arith, length-take n (drop done behind), in-text) in
    ap (λ k. take (k + n) (front ++ ((next ++ rest) ++ more))) (sym size)
    ∙ take-append-add front ((next ++ rest) ++ more) n
    ∙ ap (λ t. front ++ take n t) (append_assoc next rest more)
    ∙ ap (λ t. front ++ t) (take_at next (rest ++ more) n count)
    ∙ ap (λ t. t ++ next) same
    ∙ sym (take-add done n behind)

-- and all of a room behind its front
pub filled-end : (front : ℕ) (room bytes : List ℕ) → put_mid front (length room - front) room bytes
    ≡ take front room ++ bytes
filled-end front room bytes =
    ap (λ t. take front room ++ (bytes ++ t))
    (drop_all (length room - front) (drop front room) (omega (arith, length-drop front room)))
    ∙ ap (λ t. take front room ++ t) (append-nil bytes)

-- bytes of a text behind others
pub cut-more : (head behind : List ℕ) (done n : ℕ) → (head ++ take done behind) ++ take n (drop done behind)
    ≡ head ++ take (done + n) behind
cut-more head behind done n =
    append_assoc head (take done behind) (take n (drop done behind))
    ∙ ap (λ t. head ++ t) (sym (take-add done n behind))

-- the frames of what is left of a text, from a number on, as they are sent
abbrev pub frames_left : ℕ → ℕ → ℕ → ℕ → List ℕ → List ℕ
frames_left call count index size bytes =
    flat_map mtu_frame_bytes (frames_from call count index (cuts_from size (length bytes) bytes))

-- cuts are the same, however many more there might be
pub cuts-same : (size fuel other : ℕ) (bytes : List ℕ) → 0 < size → length bytes ≤ fuel → length bytes ≤ other
    → cuts_from size fuel bytes ≡ cuts_from size other bytes
cuts-same size zero zero bytes some few less = refl
cuts-same size zero (suc other) [] some few less = refl
cuts-same size zero (suc other) (byte ∷ bytes) some few less = absurd (omega (arith, few))
cuts-same size (suc fuel) zero [] some few less = refl
cuts-same size (suc fuel) zero (byte ∷ bytes) some few less = absurd (omega (arith, less))
cuts-same size (suc fuel) (suc other) [] some few less = refl
cuts-same size (suc fuel) (suc other) (byte ∷ bytes) some few less =
    ap (λ cuts. take size (byte ∷ bytes) ∷ cuts)
    (cuts-same size fuel other (drop size (byte ∷ bytes)) some
    (omega (arith, length-drop size (byte ∷ bytes), some, few))
    (omega (arith, length-drop size (byte ∷ bytes), some, less)))

-- the next frame
pub left-next : (call count index size : ℕ) (bytes : List ℕ) → 0 < size → 0 < length bytes
    → frames_left call count index size bytes
    ≡ mtu_frame_bytes (record { call = call; index = index; count = count; bytes = take size bytes })
    ++ frames_left call count (index + 1) size (drop size bytes)
left-next call count index size [] some filled = absurd (omega (arith, filled))
left-next call count index size (byte ∷ bytes) some filled =
    let first = mtu_frame_bytes
    (record { call = call; index = index; count = count; bytes = take size (byte ∷ bytes) }) in
    ap (λ cuts. first ++ flat_map mtu_frame_bytes (frames_from call count (index + 1) cuts))
    (cuts-same size (length bytes) (length (drop size (byte ∷ bytes))) (drop size (byte ∷ bytes)) some
    (omega (arith, length-drop size (byte ∷ bytes), some)) (omega arith))

pub left-none : (call count index size : ℕ) (bytes : List ℕ) → length bytes ≡ 0
    → frames_left call count index size bytes ≡ []
left-none call count index size [] none = refl
left-none call count index size (byte ∷ bytes) none = absurd (omega (arith, none))

-- how many cuts there are
times-more : (n size : ℕ) → suc n * size ≡ n * size + size
times-more n size = omega arith

none-or-some : (n : ℕ) → (n ≡ 0) ⊎ (0 < n)
none-or-some zero = inl refl
none-or-some (suc n) = inr (omega arith)

cuts-times : (size fuel : ℕ) (bytes : List ℕ) → 0 < size → length bytes ≤ fuel
    → (length bytes ≤ length (cuts_from size fuel bytes) * size)
    × (length (cuts_from size fuel bytes) * size < length bytes + size)
    × (length bytes ≡ 0 → length (cuts_from size fuel bytes) * size ≡ 0)
cuts-times size zero [] some few = (omega arith, omega (arith, some), λ none. omega arith)
cuts-times size zero (byte ∷ bytes) some few = absurd (omega (arith, few))
cuts-times size (suc fuel) [] some few = (omega arith, omega (arith, some), λ none. omega arith)
cuts-times size (suc fuel) (byte ∷ bytes) some few =
    let rest = drop size (byte ∷ bytes) in
    let left : length rest ≡ suc (length bytes) - size = length-drop size (byte ∷ bytes) in
    let more = cuts-times size fuel rest some (omega (arith, left, some, few)) in
    let next : length (cuts_from size (suc fuel) (byte ∷ bytes)) * size
    ≡ length (cuts_from size fuel rest) * size + size
    = times-more (length (cuts_from size fuel rest)) size in (
      omega (arith, left, more.0, next),
      ⊎_elim
          (λ none. omega (arith, more.2 none, next))
          (λ filled. omega (arith, left, filled, more.1, next))
          (none-or-some (length rest)),
      λ none. absurd (omega (arith, none)),
    )

same-times : (n a b size : ℕ) → n ≤ a * size → a * size < n + size → n ≤ b * size → b * size < n + size → a ≡ b
same-times n a b size from to low high =
    let less : a < suc b = lt_of_mul-lt-mul_right size (omega (arith, to, low, times-more b size)) in
    let more : b < suc a = lt_of_mul-lt-mul_right size (omega (arith, high, from, times-more a size)) in
    omega (arith, less, more)

pub cuts_counted : (size bytes : ℕ) (text : List ℕ) → 0 < size → length text ≡ bytes
    → bytes / size + min 1 (bytes % size) ≡ length (cuts_from size bytes text)
cuts_counted size bytes text some long =
    let cuts = cuts-times size bytes text some (omega (arith, long)) in
    let quotient = div_ceil_times bytes size some in
    same-times bytes (bytes / size + min 1 (bytes % size)) (length (cuts_from size bytes text)) size
    quotient.0 quotient.1 (omega (arith, cuts.0, long)) (omega (arith, cuts.1, long))

-- the next bytes, as many as are there
least-same : (len size : ℕ) (bytes : List ℕ) → len ≡ min (length bytes) size → len ≡ min size (length bytes)
least-same len size bytes least = omega (arith, least)

pub take-least : (len size : ℕ) (bytes : List ℕ) → len ≡ min (length bytes) size → take len bytes ≡ take size bytes
take-least len size bytes least =
    ap (λ n. take n bytes) (least-same len size bytes least) ∙ take_min size bytes

pub drop-least : (len size : ℕ) (bytes : List ℕ) → len ≡ min (length bytes) size → drop len bytes ≡ drop size bytes
drop-least len size bytes least =
    ap (λ n. drop n bytes) (least-same len size bytes least) ∙ drop_min size bytes
