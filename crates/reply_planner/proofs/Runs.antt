-- A plan that takes one run more.
use Rattle.std.proofs.Common.{◌≡◌, ℕ, zero, suc, ◌+◌, ◌-◌, ◌*◌, ◌/◌, ◌^◌, ◌<◌, ◌≤◌, List, [], ◌∷◌, ◌++◌, Bool, true}
use Rattle.std.proofs.Common.{false, cond, length, map, Option, None, Some, refl, sym, ap, ◌∙◌, subst, length-append}
use Rattle.std.proofs.Common.{lt_of_not-le, arith}
use mathlib.Core.Logic.{dite}
use native.Mathlib.Decide.{dec_le}
use Rattle.std.specs.Option.{MatchOption}
use Rattle.std.specs.List.{AllByRecursion}
use Rattle.std.proofs.lemmas.List.{map-append}
use Rattle.std.proofs.lemmas.Bool.{false≢true, le-leb}
use Rattle.view_sums.specs.Total.{total}
use Rattle.view_sums.proofs.Sums.{total-append}
use Rattle.pin_core.specs.Holding.{Holding, Key}
use Rattle.pin_core.specs.declared.sizes.Sizes.{Sizes}
use Rattle.pinned_pool.specs.Moves.{hold_key}
use Rattle.pinned_pool.specs.declared.view.View.{View}
use Rattle.flake_base.specs.declared.segment.Seg.{Seg}
use Rattle.frag_value.specs.Taken.{PlacedRun, Begun, MayComeNext, more}
use Rattle.frag_value.specs.Taken as taken
use Rattle.reply_layout.specs.Layout.{copied, pinned, segment, placing_of, pinned_of, cut}
use Rattle.reply_layout.specs.Gathered.{copied_from}
use Rattle.reply_planner.specs.Owned.{OnlyTookHolds}
use Rattle.reply_planner.specs.Parcels.{pinned_keys}
use Rattle.reply_planner.specs.Places.{buffer_addresses}
use Rattle.reply_planner.specs.Laid.{stored_run, pieces_so_far}
use Rattle.reply_planner.specs.Told.{with_run}
use Rattle.reply_planner.specs.Planned.{Planned, planned, one_value, short_of, long_of, paid_of, copied_of_extent}
use Rattle.reply_planner.specs.Planned.{copied_in, pinned_in, paid_in, room_of, range_room_of}
use Rattle.reply_planner.specs.Plans.{LiesAt, StaysReadable, ends_long, one_if, IsSmall, Lies, IsPlan}
use Rattle.reply_planner.specs.declared.terms.Terms.{Terms}
use Rattle.reply_planner.proofs.Pieced.{piece_run}
use Rattle.reply_planner.proofs.LaidOut.{lies_copied, lies_pinned}
use Rattle.reply_planner.proofs.KeptAt.{kept_more}
use Rattle.reply_planner.proofs.Counted.{below, is_short, is_long, next_fits, next_ends, ends-more, long_most}
use Rattle.reply_planner.proofs.Counted.{copied-more, pinned-more, room-same}
use Rattle.reply_planner.proofs.Moved.{has_same, stays_most}

pub paid-most : (ks : List Key) → pinned_keys ks ≤ length ks
paid-most [] = omega arith
paid-most (k ∷ ks) = omega (arith, paid-most ks, one k.pinned) where
  one : (b : Bool) → (let n : ℕ = cond b 1 0 in n) ≤ 1
  one true = omega arith
  one false = omega arith

-- the run's piece, below the threshold and from it on
short_place : (t : ℕ) (f : PlacedRun) → length f.bytes < t → placing_of t (stored_run f) ≡ copied (length f.bytes)
short_place t f less =
    ap (λ b. cond b (pinned (segment (f.address + f.offset) (length f.bytes))) (copied (length f.bytes)))
    (below t (length f.bytes) less)

short_from : (t : ℕ) (f : PlacedRun) → length f.bytes < t → copied_from t (stored_run f) ≡ f.bytes
short_from t f less = ap (λ b. cond b [] f.bytes) (below t (length f.bytes) less)

long_place : (t : ℕ) (f : PlacedRun) → t ≤ length f.bytes → placing_of t (stored_run f)
    ≡ pinned (segment (f.address + f.offset) (length f.bytes))
long_place t f more =
    ap (λ b. cond b (pinned (segment (f.address + f.offset) (length f.bytes))) (copied (length f.bytes)))
    (le-leb t (length f.bytes) more)

long_from : (t : ℕ) (f : PlacedRun) → t ≤ length f.bytes → copied_from t (stored_run f) ≡ []
long_from t f more = ap (λ b. let l : List ℕ = cond b [] f.bytes in l) (le-leb t (length f.bytes) more)

module _ (base : Terms) (ts : List taken.TakenPiece) (b : Begun) (f : PlacedRun) where
  abbrev pub next_run : Planned
  next_run = planned base ts (Some (more f b))

  abbrev before : Planned
  before = planned base ts (Some b)

  run_count : copied_in next_run ≡ copied_in before + length (copied_from base.threshold (stored_run f))
  run_count = copied-more base.threshold (pieces_so_far ts (Some b)) (pieces_so_far ts (Some (more f b))) (stored_run f)
      (piece_run ts b f)

  run_pins : pinned_in next_run ≡ pinned_in before + pinned_of (placing_of base.threshold (stored_run f) ∷ [])
  run_pins = pinned-more base.threshold (pieces_so_far ts (Some b)) (pieces_so_far ts (Some (more f b))) (stored_run f)
      (piece_run ts b f)

  run_paid : paid_in next_run ≡ paid_in before + paid_of base.threshold f
  run_paid = omega (arith, total-append (paid_of base.threshold) b.frags (f ∷ []))

  run_short : total (short_of base.threshold) (b.frags ++ f ∷ []) ≡ total (short_of base.threshold) b.frags
      + short_of base.threshold f
  run_short = omega (arith, total-append (short_of base.threshold) b.frags (f ∷ []))

  run_long : total (long_of base.threshold) (b.frags ++ f ∷ []) ≡ total (long_of base.threshold) b.frags
      + long_of base.threshold f
  run_long = omega (arith, total-append (long_of base.threshold) b.frags (f ∷ []))

  -- a run that is copied
  module _ (from n : ℕ) (threshold : (0 < base.threshold) × (base.threshold ≤ 512)) (next : MayComeNext from n b)
      (some : 0 < n) (small : IsSmall base.threshold (Some b)) (long : length f.bytes ≡ n) where
    may : (length b.frags < 16) × (total (short_of base.threshold) b.frags + 513 ≤ copied_of_extent b.extent)
    may = next_fits base.threshold threshold.0 threshold.1 b.extent from n b.size b.frags next some small.0

    pub short-small : n < base.threshold → IsSmall base.threshold (Some (more f b))
    short-small less =
        let is = is_short base.threshold f (omega (arith, long, less)) in (
          small.0,
          omega (arith, may.0, length-append b.frags (f ∷ [])),
          omega
              (arith, may.1, run_short, is.short, long, less, threshold.1),
        )

    pub long-small : base.threshold ≤ n → IsSmall base.threshold (Some (more f b))
    long-small more_bytes =
        let is = is_long base.threshold f (omega (arith, long, more_bytes)) in
        (small.0, omega (arith, may.0, length-append b.frags (f ∷ [])), omega (arith, may.1, run_short, is.short))

    short-counts : n < base.threshold → (copied_in next_run ≡ copied_in before + n)
        × (pinned_in next_run ≡ pinned_in before)
    short-counts less =
        let under : length f.bytes < base.threshold = omega (arith, long, less) in (
          omega (arith, run_count, ap (λ (l : List ℕ). length l) (short_from base.threshold f under), long),
          omega (arith, run_pins, ap (λ y. pinned_of (y ∷ [])) (short_place base.threshold f under)),
        )

    long-counts : base.threshold ≤ n → (copied_in next_run ≡ copied_in before)
        × (pinned_in next_run ≡ pinned_in before + 1)
    long-counts more_bytes =
        let over : base.threshold ≤ length f.bytes = omega (arith, long, more_bytes) in (
          omega (arith, run_count, ap (λ (l : List ℕ). length l) (long_from base.threshold f over)),
          omega (arith, run_pins, ap (λ y. pinned_of (y ∷ [])) (long_place base.threshold f over)),
        )

    pub short-rooms : n < base.threshold → (room_of before ≤ room_of next_run)
        × (range_room_of before ≤ range_room_of next_run)
    short-rooms less =
        let is = is_short base.threshold f (omega (arith, long, less)) in
        let counts = short-counts less in
        room-same before next_run (omega (arith, counts.0, run_short, is.short, long, may.1, less, threshold.1))
        (omega (arith, counts.1, run_long, is.long))

    pub long-rooms : base.threshold ≤ n → (room_of before ≤ room_of next_run)
        × (range_room_of before ≤ range_room_of next_run)
    long-rooms more_bytes =
        let is = is_long base.threshold f (omega (arith, long, more_bytes)) in
        let counts = long-counts more_bytes in
        room-same before next_run (omega (arith, counts.0, run_short, is.short))
        (omega (arith, counts.1, run_long, is.long, may.0, long_most base.threshold b.frags))

module _ (z : Sizes) (base : Terms) (ts : List taken.TakenPiece) (text : List ℕ) (segs : List Seg)
    (pins staged : List Key) (run paid : ℕ) (seat : View) (b : Begun) (from n : ℕ)
    (is : IsPlan z (planned base ts (Some b)) text segs pins staged run paid seat) (next : MayComeNext from n b)
    (some : 0 < n) where
  -- the place that a run needs
  pub fits_short : n < base.threshold → length text + n ≤ 512 * length base.stage
  fits_short less =
      let may = next_fits base.threshold is.threshold.0 is.threshold.1 b.extent from n b.size b.frags next some
      is.fits.small.0 in
      omega (arith, is.fits.bytes, may.1, less, is.threshold.1)

  pub record FitsLong : Type 0 where
    pub text_fits : length text ≤ 512 * length base.stage
    pub segments : length segs + (length text + 511) / 512 + 1 ≤ base.descriptors + run / 512
    pub pins_fit : length pins < base.descriptors
    pub credits : 3 < seat.credits
    pub paid_fits : paid + 1 < 2 ^ 32

  pub fits_long : FitsLong
  fits_long =
      let may = next_fits base.threshold is.threshold.0 is.threshold.1 b.extent from n b.size b.frags next some
      is.fits.small.0 in
      let few = long_most base.threshold b.frags in
      let cost : paid ≤ length pins = omega (arith, paid-most pins, is.has.paid_are, is.has.paid_is) in
      record {
        text_fits = omega (arith, is.fits.bytes);
        segments = omega (
          arith,
          is.fits.bytes,
          is.fits.slots,
          is.fits.segments_few,
          may.0,
          few,
          stays_most
              (total (long_of base.threshold) b.frags),
        );
        pins_fit = omega (arith, is.fits.slots, is.has.pins_are, may.0, few);
        credits = omega (arith, is.fits.slots, is.has.pins_are, is.has.credits, may.0, few, cost);
        paid_fits = omega (arith, is.fits.slots, is.has.pins_are, may.0, few, cost, is.few);
      }

  module _ (f : PlacedRun) (long : length f.bytes ≡ n) where
    pub after_short : (text2 : List ℕ) → n < base.threshold → text2 ≡ text ++ f.bytes
        → IsPlan z (next_run base ts b f) text2 segs pins staged run paid seat
    after_short text2 less grown =
        let size : length text2 ≡ length text + n = ap (λ (l : List ℕ). length l) grown ∙ length-append text f.bytes
        ∙ ap (λ m. length text + m) long in
        let under : length f.bytes < base.threshold = omega (arith, long, less) in
        let short = is_short base.threshold f under in
        let counts = short-counts base ts b f from n is.threshold next some is.fits.small long less in
        let no_pin : total (long_of base.threshold) (b.frags ++ f ∷ []) ≡ total (long_of base.threshold) b.frags =
        omega (arith, run_long base ts b f, short.long) in
        let test : ends_long base.threshold (b.frags ++ f ∷ []) ≡ false =
        ends-more base.threshold is.threshold.0 is.threshold.1 b.frags f
        ∙ below base.threshold (length f.bytes) under in
        record {
          lies = subst (λ qs. Lies z base.threshold base.stage qs text2 segs run seat.holds) (sym (piece_run ts b f))
              (lies_copied z base.threshold base.stage (pieces_so_far ts (Some b)) text segs run seat.holds is.lies
              (stored_run f) f.bytes text2
              (short_place base.threshold f under) (short_from base.threshold f under)
              (λ yes. absurd (false≢true (sym (below base.threshold (length f.bytes) under) ∙ yes))) grown);
          fits = record {
            bytes = omega (
              arith,
              size,
              is.fits.bytes,
              run_short base ts b f,
              short.short,
              long,
              next_fits base.threshold is.threshold.0 is.threshold.1 b.extent from n b.size b.frags next some
                  is.fits.small.0,
              less,
              is.threshold.1,
            );
            slots = omega (arith, counts.1, no_pin, is.fits.slots);
            segments_few = omega (arith, counts.1, ap one_if no_pin, is.fits.segments_few);
            closed = λ yes. absurd (false≢true (sym test ∙ yes));
            small = short-small base ts b f from n is.threshold next some is.fits.small long less;
          };
          has = has_same base ts ts (Some b) (Some (more f b)) pins paid seat counts.1
              (omega (arith, run_paid base ts b f, short.paid)) is.has;
          staging = is.staging;
          threshold = is.threshold;
          few = is.few;
        }

    pub after_long : (segs2 : List Seg) (pins2 : List Key) (k : Key) (paid2 : ℕ) (ks : List Holding) (seat2 : View)
        → base.threshold ≤ n
        → segs2 ≡ segs ++ cut (buffer_addresses z base.stage) (length text - run) run (length text - run)
        ++ segment (f.address + f.offset) n ∷ []
        → length segs2 + run / 512 ≤ length segs + (length text + 511) / 512 + 1
        → pins2 ≡ pins ++ k ∷ [] → seat2.holds ≡ seat.holds ++ ks → map hold_key ks ≡ k ∷ [] → pinned_keys (k ∷ [])
        ≡ paid_of base.threshold f
        → paid2 ≡ paid + paid_of base.threshold f → seat2.credits + paid2 ≡ base.descriptors + 3 → OnlyTookHolds seat2
        → LiesAt z seat2.holds (f.address + f.offset) f.bytes
        → IsPlan z (next_run base ts b f) text segs2 pins2 staged (length text) paid2 seat2
    after_long segs2 pins2 k paid2 ks seat2 more_bytes laid count pinned_is holds key cost paid_is credits idle there =
        let over : base.threshold ≤ length f.bytes = omega (arith, long, more_bytes) in
        let stays = is_long base.threshold f over in
        let counts = long-counts base ts b f from n is.threshold next some is.fits.small long more_bytes in
        let one_more : total (long_of base.threshold) (b.frags ++ f ∷ [])
        ≡ suc (total (long_of base.threshold) b.frags) = omega (arith, run_long base ts b f, stays.long) in
        let still = subst (λ hs. AllByRecursion (StaysReadable z base.threshold hs) (pieces_so_far ts (Some b)))
        (sym holds) (kept_more z seat.holds ks base.threshold (pieces_so_far ts (Some b)) is.lies.kept) in
        let segs_are : segs2 ≡ segs ++ cut (buffer_addresses z base.stage) (length text - run) run (length text - run)
        ++ segment (f.address + f.offset) (length f.bytes) ∷ [] =
        laid ∙ ap (λ m. segs ++ cut (buffer_addresses z base.stage) (length text - run) run (length text - run)
        ++ segment (f.address + f.offset) m ∷ []) (sym long) in
        record {
          lies = subst (λ qs. Lies z base.threshold base.stage qs text segs2 (length text) seat2.holds)
              (sym (piece_run ts b f))
              (lies_pinned z base.threshold base.stage (pieces_so_far ts (Some b)) text segs run seat.holds is.lies
              (stored_run f) (segment (f.address + f.offset) (length f.bytes)) segs2 seat2.holds
              (long_place base.threshold f over) (long_from base.threshold f over) still (λ yes. there) segs_are);
          fits = record {
            bytes = omega (arith, is.fits.bytes, run_short base ts b f, stays.short);
            slots = omega (
              arith,
              counts.1,
              one_more,
              is.fits.slots,
              next_fits base.threshold is.threshold.0 is.threshold.1 b.extent from n b.size b.frags next some
                  is.fits.small.0,
              long_most base.threshold b.frags,
            );
            segments_few = few_segments (total (long_of base.threshold) b.frags) refl counts.1 (ap one_if one_more);
            closed = λ yes. omega arith;
            small = long-small base ts b f from n is.threshold next some is.fits.small long more_bytes;
          };
          has = record {
            keys = ap (map hold_key) holds ∙ map-append hold_key seat.holds ks ∙ (λ i. is.has.keys i ++ key i)
                ∙ sym pinned_is;
            pins_are = omega (
              arith,
              ap (λ (l : List Key). length l) pinned_is,
              length-append pins
                  (k ∷ []),
              is.has.pins_are,
              counts.1,
            );
            paid_are = ap pinned_keys pinned_is ∙ total-append (λ (j : Key). cond j.pinned 1 0) pins (k ∷ [])
                ∙ (λ i. is.has.paid_are i + cost i) ∙ sym (run_paid base ts b f);
            paid_is = paid_is ∙ ap (λ m. m + paid_of base.threshold f) is.has.paid_is ∙ sym (run_paid base ts b f);
            credits = credits;
            idle = idle;
          };
          staging = is.staging;
          threshold = is.threshold;
          few = is.few;
        }
      where
        few_segments : (m : ℕ) → total (long_of base.threshold) b.frags ≡ m → pinned_in (next_run base ts b f)
            ≡ pinned_in (planned base ts (Some b)) + 1
            → one_if (total (long_of base.threshold) (b.frags ++ f ∷ [])) ≡ 1
            → length segs2 ≤ pinned_in (next_run base ts b f)
            + (total one_value ts + one_if (total (long_of base.threshold) (b.frags ++ f ∷ []))) + length text / 512
        few_segments zero none pins_more stays =
            omega (arith, count, is.fits.segments_few, ap one_if none, pins_more, stays)
        few_segments (suc m) some_stay pins_more stays =
            let ends = next_ends base.threshold is.threshold.0 is.threshold.1 b.extent from n b.size b.frags next
            (ap one_if some_stay) in
            let since : length text - run ≡ 0 = is.fits.closed ends in
            let nothing : length (cut (buffer_addresses z base.stage) (length text - run) run (length text - run)) ≡ 0 =
            ap (λ m. length (cut (buffer_addresses z base.stage) m run m)) since in
            let exact = ap (λ (l : List Seg). length l) laid
            ∙ length-append (segs ++ cut (buffer_addresses z base.stage) (length text - run) run
            (length text - run)) (segment (f.address + f.offset) n ∷ [])
            ∙ ap (λ m. m + 1) (length-append segs
            (cut (buffer_addresses z base.stage) (length text - run) run (length text - run))) in
            omega (
              arith,
              exact,
              nothing,
              since,
              is.fits.segments_few,
              is.lies.run_is,
              ap one_if some_stay,
              pins_more,
              stays,
            )

-- a run takes no room that wasn't set aside
pub run_rooms : (base : Terms) (ts : List taken.TakenPiece) (o : Option Begun) (f : PlacedRun) (from n : ℕ)
    → (0 < base.threshold) × (base.threshold ≤ 512)
    → MatchOption o ⊥ (λ b. MayComeNext from n b) → 0 < n → IsSmall base.threshold o → length f.bytes ≡ n
    → (room_of (planned base ts o) ≤ room_of (planned base ts (with_run f o)))
    × (range_room_of (planned base ts o) ≤ range_room_of (planned base ts (with_run f o)))
run_rooms base ts None f from n threshold next some small long = absurd next
run_rooms base ts (Some b) f from n threshold next some small long =
    dite (dec_le base.threshold n)
    (λ over. long-rooms base ts b f from n threshold next some small long over)
    (λ under. short-rooms base ts b f from n threshold next some small long (lt_of_not-le under))
