-- A plan as it is given more.
use Rattle.std.proofs.Common.{◌≡◌, ℕ, zero, suc, ◌+◌, ◌≤◌, List, [], ◌∷◌, ◌++◌, length, Option, None, Some, refl, sym}
use Rattle.std.proofs.Common.{ap, ◌∙◌, subst, length-append, arith, lit<}
use Rattle.std.specs.Fmt.{decimal}
use Rattle.std.specs.Option.{MatchOption}
use Rattle.std.proofs.lemmas.Fmt.{length-decimal-le}
use Rattle.std.proofs.lemmas.Bool.{false≢true}
use Rattle.view_sums.specs.Total.{total}
use Rattle.view_sums.proofs.Sums.{total-append}
use Rattle.pin_core.specs.Holding.{Key}
use Rattle.pin_core.specs.declared.sizes.Sizes.{Sizes}
use Rattle.pinned_pool.specs.declared.view.View.{View}
use Rattle.flake_base.specs.declared.segment.Seg.{Seg}
use Rattle.flake_model.specs.Resp.{crlf}
use Rattle.frag_value.specs.Taken.{PlacedRun, Extent, entire, ranged, Begun, begun_with, more, copied, whole}
use Rattle.frag_value.specs.Taken as taken
use Rattle.reply_layout.specs.Pieces.{plain}
use Rattle.reply_planner.specs.Owned.{key_buffers}
use Rattle.reply_planner.specs.Laid.{head_text, pieces_so_far}
use Rattle.reply_planner.specs.Planned.{Planned, planned, one_value, long_of, paid_by, copied_of_extent, values_in}
use Rattle.reply_planner.specs.Planned.{copied_in, pinned_in, paid_in, left_of, slots_of, room_of, range_room_of}
use Rattle.reply_planner.specs.Plans.{one_if, IsSmall, Lies, Has, IsPlan}
use Rattle.reply_planner.specs.declared.terms.Terms.{Terms}
use Rattle.reply_planner.proofs.Pieced.{piece_copied, piece_begun, piece_finished}
use Rattle.reply_planner.proofs.LaidOut.{lies_copied}
use Rattle.reply_planner.proofs.Counted.{copied-more, pinned-more, room-same, room-less, range-less}

-- how many bytes a text has, and how many pieces stay
pub copied_is : (z : Sizes) (p : Planned) (text : List ℕ) (segs : List Seg) (pins staged : List Key) (run paid : ℕ)
    (seat : View) → IsPlan z p text segs pins staged run paid seat → length text ≡ copied_in p
copied_is z p text segs pins staged run paid seat is = ap (λ (l : List ℕ). length l) is.lies.text_is

pub length-buffers : (ks : List Key) → length (key_buffers ks) ≡ length ks
length-buffers [] = refl
length-buffers (k ∷ ks) = ap suc (length-buffers ks)

pub begun_is : (o : Option Begun) (P : Begun → Type 0) → MatchOption o ⊥ P → (b : Begun) × (o ≡ Some b)
begun_is None P m = absurd m
begun_is (Some b) P m = (b, refl)

pub stays_most : (n : ℕ) → one_if n ≤ 1
stays_most zero = omega arith
stays_most (suc n) = omega arith

-- no run more stays
pub has_same : (base : Terms) (ts us : List taken.TakenPiece) (o r : Option Begun) (pins : List Key) (paid : ℕ)
    (seat : View) → pinned_in (planned base us r) ≡ pinned_in (planned base ts o) → paid_in (planned base us r)
    ≡ paid_in (planned base ts o)
    → Has (planned base ts o) pins paid seat → Has (planned base us r) pins paid seat
has_same base ts us o r pins paid seat same cost is = record {
  keys = is.keys;
  pins_are = is.pins_are ∙ sym same;
  paid_are = is.paid_are ∙ sym cost;
  paid_is = is.paid_is ∙ sym cost;
  credits = is.credits;
  idle = is.idle;
}

module _ (base : Terms) (ts : List taken.TakenPiece) where
  abbrev t : ℕ
  t = base.threshold

  -- bytes that are copied outside of a value
  module _ (bytes : List ℕ) where
    abbrev pub next_copied : Planned
    next_copied = planned base (ts ++ copied bytes ∷ []) None

    copied_count : copied_in next_copied ≡ copied_in (planned base ts None) + length bytes
    copied_count = copied-more t (pieces_so_far ts None) (pieces_so_far (ts ++ copied bytes ∷ []) None) (plain bytes)
        (piece_copied ts bytes)

    copied_pins : pinned_in next_copied ≡ pinned_in (planned base ts None)
    copied_pins = omega (
      arith,
      pinned-more t (pieces_so_far ts None) (pieces_so_far (ts ++ copied bytes ∷ []) None)
          (plain bytes) (piece_copied ts bytes),
    )

    copied_paid : paid_in next_copied ≡ paid_in (planned base ts None)
    copied_paid = omega (arith, total-append (paid_by t) ts (copied bytes ∷ []))

    copied_values : values_in next_copied ≡ values_in (planned base ts None)
    copied_values = omega (arith, total-append one_value ts (copied bytes ∷ []))

    pub copy-left : length bytes ≤ left_of (planned base ts None) → left_of (planned base ts None) ≡ left_of next_copied
        + length bytes
    copy-left room = omega (arith, copied_count, room)

    pub copy-slots : slots_of next_copied ≡ slots_of (planned base ts None)
    copy-slots = omega (arith, copied_pins, copied_values)

    pub copy-room : length bytes ≤ left_of (planned base ts None) → length bytes ≤ 521 → room_of (planned base ts None)
        ≤ room_of next_copied + 1
    copy-room room few = room-less (planned base ts None) next_copied (omega (arith, copy-left room, few))
        (omega (arith, copy-slots))

  -- a value that is begun
  module _ (e : Extent) (n : ℕ) (few : n ≤ 65536) where
    abbrev pub next_begun : Planned
    next_begun = planned base ts (Some (begun_with e n))

    pub head-few : length (head_text n) ≤ 8
    head-few =
        let digits : length (decimal n) ≤ 5 = length-decimal-le 5 n (lit< tt) (omega (arith, few))
        (omega (arith, few)) in
        omega (arith, length-append (decimal n) crlf, digits)

    begun_count : copied_in next_begun ≡ copied_in (planned base ts None) + length (head_text n)
    begun_count = copied-more t (pieces_so_far ts None) (pieces_so_far ts (Some (begun_with e n))) (plain (head_text n))
        (piece_begun ts e n)

    begun_pins : pinned_in next_begun ≡ pinned_in (planned base ts None)
    begun_pins = omega (
      arith,
      pinned-more t (pieces_so_far ts None) (pieces_so_far ts (Some (begun_with e n)))
          (plain (head_text n)) (piece_begun ts e n),
    )

    begin-left : left_of (planned base ts None) ≤ left_of next_begun + (8 + copied_of_extent e)
    begin-left = omega (arith, begun_count, head-few)

    begin-slots : slots_of (planned base ts None) ≤ slots_of next_begun + 17
    begin-slots = omega (arith, begun_pins)

  pub begin-room : (n : ℕ) → n ≤ 65536 → room_of (planned base ts None) ≤ room_of
      (planned base ts (Some (begun_with entire n))) + 1
  begin-room n few = room-less (planned base ts None) (planned base ts (Some (begun_with entire n)))
      (omega (arith, begin-left entire n few)) (begin-slots entire n few)

  pub begin-range : (n : ℕ) → n ≤ 65536 → range_room_of (planned base ts None) ≤ range_room_of
      (planned base ts (Some (begun_with ranged n))) + 1
  begin-range n few = range-less (planned base ts None) (planned base ts (Some (begun_with ranged n)))
      (omega (arith, begin-left ranged n few)) (begin-slots ranged n few)

  -- a value that ends
  module _ (b : Begun) where
    abbrev pub next_finished : Planned
    next_finished = planned base (ts ++ whole b ∷ []) None

    finished_count : copied_in next_finished ≡ copied_in (planned base ts (Some b)) + 2
    finished_count = copied-more t (pieces_so_far ts (Some b)) (pieces_so_far (ts ++ whole b ∷ []) None) (plain crlf)
        (piece_finished ts b)

    finished_pins : pinned_in next_finished ≡ pinned_in (planned base ts (Some b))
    finished_pins = omega (
      arith,
      pinned-more t (pieces_so_far ts (Some b)) (pieces_so_far (ts ++ whole b ∷ []) None)
          (plain crlf) (piece_finished ts b),
    )

    finished_paid : paid_in next_finished ≡ paid_in (planned base ts (Some b))
    finished_paid = omega (arith, total-append (paid_by t) ts (whole b ∷ []))

    finished_values : values_in next_finished ≡ values_in (planned base ts (Some b))
    finished_values = omega (arith, total-append one_value ts (whole b ∷ []))

    pub finish-rooms : IsSmall t (Some b) → (room_of (planned base ts (Some b)) ≤ room_of next_finished)
        × (range_room_of (planned base ts (Some b)) ≤ range_room_of next_finished)
    finish-rooms small = room-same (planned base ts (Some b)) next_finished (omega (arith, finished_count, small.2))
        (omega (arith, finished_pins, finished_values))

module _ (z : Sizes) (base : Terms) (ts : List taken.TakenPiece) (text : List ℕ) (segs : List Seg)
    (pins staged : List Key) (run paid : ℕ) (seat : View) where
  -- a plan of these terms, as its fields are
  abbrev pub Plan : List taken.TakenPiece → Option Begun → Type 0
  Plan us o = IsPlan z (planned base us o) text segs pins staged run paid seat

  pub after_copy : (bytes text2 : List ℕ) → Plan ts None → text2 ≡ text ++ bytes
      → length bytes ≤ left_of (planned base ts None)
      → IsPlan z (next_copied base ts bytes) text2 segs pins staged run paid seat
  after_copy bytes text2 is grown room =
      let long : length text2 ≡ length text + length bytes = ap (λ (l : List ℕ). length l) grown
      ∙ length-append text bytes in
      let size = copied_is z (planned base ts None) text segs pins staged run paid seat is in
      let same = copied_pins base ts bytes in
      let values = copied_values base ts bytes in
      record {
        lies = subst (λ qs. Lies z base.threshold base.stage qs text2 segs run seat.holds) (sym (piece_copied ts bytes))
            (lies_copied z base.threshold base.stage (pieces_so_far ts None) text segs run seat.holds is.lies
            (plain bytes) bytes text2 refl refl tt grown);
        fits = record {
          bytes = omega (arith, long, size, room, is.fits.bytes);
          slots = omega (arith, same, values, is.fits.slots);
          segments_few = omega (arith, same, values, is.fits.segments_few);
          closed = tt;
          small = tt;
        };
        has = has_same base ts (ts ++ copied bytes ∷ []) None None pins paid seat same (copied_paid base ts bytes)
            is.has;
        staging = is.staging;
        threshold = is.threshold;
        few = is.few;
      }

  begun_small : (e : Extent) (n : ℕ) → n ≤ 65536 → IsSmall base.threshold (Some (begun_with e n))
  begun_small entire n few = (few, omega arith, omega arith)
  begun_small ranged n few = (few, omega arith, omega arith)

  pub after_begin : (e : Extent) (n : ℕ) (text2 : List ℕ) → n ≤ 65536 → Plan ts None → text2 ≡ text ++ head_text n
      → 8 + copied_of_extent e ≤ left_of (planned base ts None) → 17 ≤ slots_of (planned base ts None)
      → IsPlan z (planned base ts (Some (begun_with e n))) text2 segs pins staged run paid seat
  after_begin e n text2 few is grown room slots =
      let long : length text2 ≡ length text + length (head_text n) = ap (λ (l : List ℕ). length l) grown
      ∙ length-append text (head_text n) in
      let size = copied_is z (planned base ts None) text segs pins staged run paid seat is in
      let head = head-few base ts e n few in
      let same = begun_pins base ts e n few in
      record {
        lies = subst (λ qs. Lies z base.threshold base.stage qs text2 segs run seat.holds) (sym (piece_begun ts e n))
            (lies_copied z base.threshold base.stage (pieces_so_far ts None) text segs run seat.holds is.lies
            (plain (head_text n)) (head_text n) text2 refl refl tt grown);
        fits = record {
          bytes = omega (arith, long, size, room, head);
          slots = omega (arith, same, slots);
          segments_few = omega (arith, same, is.fits.segments_few);
          closed = λ h. absurd (false≢true h);
          small = begun_small e n few;
        };
        has = has_same base ts ts None (Some (begun_with e n)) pins paid seat same refl is.has;
        staging = is.staging;
        threshold = is.threshold;
        few = is.few;
      }

  pub after_finish : (b : Begun) (text2 : List ℕ) → Plan ts (Some b) → text2 ≡ text ++ crlf
      → IsPlan z (next_finished base ts b) text2 segs pins staged run paid seat
  after_finish b text2 is grown =
      let long : length text2 ≡ length text + 2 = ap (λ (l : List ℕ). length l) grown ∙ length-append text crlf in
      let same = finished_pins base ts b in
      let values = finished_values base ts b in
      record {
        lies = subst (λ qs. Lies z base.threshold base.stage qs text2 segs run seat.holds) (sym (piece_finished ts b))
            (lies_copied z base.threshold base.stage (pieces_so_far ts (Some b)) text segs run seat.holds is.lies
            (plain crlf) crlf text2 refl refl tt grown);
        fits = record {
          bytes = omega (arith, long, is.fits.bytes, is.fits.small.2);
          slots = omega (arith, same, values, is.fits.slots);
          segments_few = omega (
            arith,
            same,
            total-append one_value ts (whole b ∷ []),
            is.fits.segments_few,
            stays_most
                (total (long_of base.threshold) b.frags),
          );
          closed = tt;
          small = tt;
        };
        has = has_same base ts (ts ++ whole b ∷ []) (Some b) None pins paid seat same (finished_paid base ts b) is.has;
        staging = is.staging;
        threshold = is.threshold;
        few = is.few;
      }
