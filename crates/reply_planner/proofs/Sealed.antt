-- A plan that becomes a parcel.
use Rattle.std.proofs.Common.{◌≡◌, ℕ, ◌+◌, ◌-◌, ◌*◌, ◌/◌, ◌^◌, ◌<◌, ◌≤◌, List, ◌++◌, length, take, None, sym, ap, ◌∙◌}
use Rattle.std.proofs.Common.{subst, append-nil, arith}
use Rattle.view_sums.specs.Total.{Each}
use Rattle.pin_core.specs.Holding.{Key}
use Rattle.pin_core.specs.declared.sizes.Sizes.{Sizes}
use Rattle.pinned_pool.specs.declared.view.View.{View}
use Rattle.flake_base.specs.declared.segment.Seg.{Seg}
use Rattle.frag_value.specs.Taken as taken
use Rattle.reply_layout.specs.Layout.{placings_of, pinned_of, layout_of, cut, staging_buffers_for}
use Rattle.reply_layout.specs.Gathered.{text_of_pieces, read_all, IsStaged}
use Rattle.reply_planner.specs.Laid.{pieces_in, pieces_so_far}
use Rattle.reply_planner.specs.Parcels.{Sent, pinned_keys, IsLaid}
use Rattle.reply_planner.specs.Places.{buffer_addresses, reading, IsHeld}
use Rattle.reply_planner.specs.Planned.{planned}
use Rattle.reply_planner.specs.Plans.{Lies, IsPlan}
use Rattle.reply_planner.specs.Sealed.{IsSealed}
use Rattle.reply_planner.specs.declared.terms.Terms.{Terms}
use Rattle.reply_planner.proofs.LaidOut.{lies_all}
use Rattle.reply_planner.proofs.Runs.{paid-most}
use Rattle.reply_planner.proofs.SealedUp.{copied_some, copied-length, some_segment, all_laid, layout_reads}

module _ (z : Sizes) (base : Terms) (ts : List taken.TakenPiece) (text : List ℕ) (segs : List Seg)
    (pins staged : List Key) (run paid : ℕ) (seat : View)
    (is : IsPlan z (planned base ts None) text segs pins staged run paid seat) where
  same_pieces : pieces_so_far ts None ≡ pieces_in ts
  same_pieces = append-nil (pieces_in ts)

  lies : Lies z base.threshold base.stage (pieces_in ts) text segs run seat.holds
  lies = subst (λ ps. Lies z base.threshold base.stage ps text segs run seat.holds) same_pieces is.lies

  pub seal_text : 0 < length (text_of_pieces (pieces_in ts)) → (0 < length text)
      × (length text ≤ 512 * length base.stage)
  seal_text some = (
    subst (λ (l : List ℕ). 0 < length l) (sym lies.text_is) (copied_some base.threshold ts some),
    omega
        (arith, is.fits.bytes),
  )

  pub seal_credits : (paid ≤ base.descriptors + 2) × (0 < base.descriptors + 2 - paid)
      × (seat.credits ≡ base.descriptors + 2 - paid + 1)
  seal_credits =
      let cost : paid ≤ base.descriptors =
      omega (arith, paid-most pins, is.has.paid_are, is.has.paid_is, is.has.pins_are, is.fits.slots) in
      (omega (arith, cost), omega (arith, cost), omega (arith, cost, is.has.credits))

  module _ (all : List Seg)
      (laid : all ≡ segs ++ cut (buffer_addresses z base.stage) (length text - run) run (length text - run))
      (count : length all + run / 512 ≤ length segs + (length text + 511) / 512) where
    whole : layout_of (buffer_addresses z base.stage) (placings_of base.threshold (pieces_in ts)) ≡ all
    whole = lies_all z base.threshold base.stage (pieces_in ts) text segs run seat.holds lies all laid

    pub seal_few : length all ≤ base.descriptors
    seal_few = omega (arith, count, is.fits.segments_few, is.fits.slots, is.fits.bytes)

    pub seal_some : 0 < length text → (0 < length all) × (length all < 2 ^ 32)
    seal_some some = (
      subst (λ (l : List Seg). 0 < length l) whole
          (some_segment (buffer_addresses z base.stage) 0 0 (placings_of base.threshold (pieces_in ts))
          (omega (
            arith,
            some,
            copied-length base.threshold (pieces_in ts),
            ap (λ (l : List ℕ). length l)
                lies.text_is,
          ))),
      omega (arith, seal_few, is.few),
    )

    pub seal_laid : Each (IsLaid z seat.holds base.stage (length text)) all
    seal_laid =
        subst (Each (IsLaid z seat.holds base.stage (length text))) whole
        (all_laid z base.threshold is.threshold.0 seat.holds base.stage (length text) (pieces_in ts) 0 0
        (omega (arith, copied-length base.threshold (pieces_in ts), ap (λ (l : List ℕ). length l) lies.text_is))
        lies.kept)

    pub sealed : (parcel : Sent) (call : ℕ) → parcel.segments ≡ all → parcel.text
        ≡ read_all (reading z parcel.holds) parcel.segments → parcel.call ≡ call
        → parcel.staged ≡ take (staging_buffers_for (length text)) base.stage → parcel.pinned ≡ length pins
        → parcel.paid ≡ pinned_keys pins
        → IsStaged (reading z parcel.holds) (buffer_addresses z base.stage) text
        → ((address n : ℕ) → IsHeld z seat.holds address n → reading z parcel.holds address n
        ≡ reading z seat.holds address n)
        → IsSealed z (planned base ts None) call parcel
    sealed parcel call segments_are text_are call_is staged_are pinned_is paid_is copies kept = record {
      segments = segments_are ∙ sym whole;
      text = text_are ∙ ap (read_all (reading z parcel.holds)) (segments_are ∙ sym whole)
          ∙ layout_reads z base.threshold seat.holds (reading z parcel.holds) kept (buffer_addresses z base.stage)
          (pieces_in ts) lies.kept
          (subst (IsStaged (reading z parcel.holds) (buffer_addresses z base.stage)) lies.text_is copies);
      call_is = call_is;
      staged = staged_are ∙ ap (λ (l : List ℕ). take (staging_buffers_for (length l)) base.stage) is.lies.text_is;
      pinned = pinned_is ∙ is.has.pins_are ∙ ap (λ ps. pinned_of (placings_of base.threshold ps)) same_pieces;
      paid = paid_is ∙ is.has.paid_are;
      in_stage = omega (arith, ap (λ (l : List ℕ). length l) is.lies.text_is, is.fits.bytes);
      in_ring = omega (arith, seal_few, ap (λ (l : List Seg). length l) segments_are);
    }
