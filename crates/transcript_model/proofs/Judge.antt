-- A test that computes whether lines are right. It serves worked transcripts: what passes it is right.
use Rattle.std.proofs.Common.{◌≡◌, ℕ, zero, suc, ◌+◌, ◌-◌, ◌*◌, ◌/◌, ◌<◌, ◌≤◌, Bool, true, false, not, List, [], ◌∷◌}
use Rattle.std.proofs.Common.{◌++◌, length, slice_get, Option, None, Some, refl, subst, arith, nat_lt, nat_le}
use Rattle.std.specs.Prelude.{◌==◌, ◌&&◌}
use Rattle.std.specs.List.{AllByRecursion}
use Rattle.flake_base.specs.declared.segment.Seg.{Seg}
use Rattle.flake_base.specs.declared.session.End.{End}
use Rattle.flake_base.specs.declared.session.End.TheVariants.{Clean, Protocol, Truncated, TooLong, ReadFault, Memory}
use Rattle.flake_base.specs.declared.session.End.TheVariants.{Left}
use Rattle.flake_model.specs.Command.{Command}
use Rattle.reply_layout.specs.declared.need.Need.{Need}
use Rattle.reply_layout.specs.Need.{need_of}
use Rattle.reply_layout.specs.Frames.{Frame}
use Rattle.transcript_model.proofs.Buffers.{pool_base, large_base, IsSmall, IsLarge, IsBuffer, all_in}
use Rattle.transcript_model.specs.Lines.{LineEvent, posted, ring_full, stage_full, at_end, sent, dropped}
use Rattle.transcript_model.specs.Lines.{nothing_posted, reaped, nothing_reaped}
use Rattle.pin_core.specs.declared.sizes.Sizes.{Sizes}
use Rattle.transcript_model.specs.Terms.{Terms}
use Rattle.transcript_model.specs.Standing.{Standing, frames_waiting, ring_room, free, FitsStanding}
use Rattle.transcript_model.specs.Frames.{frame_of, stored_of}
use Rattle.transcript_model.specs.Right.{is_known, MayHaveReaped, IsPosted, IsRingFull, IsStageFull, IsGathered}
use Rattle.transcript_model.specs.Right.{IsReaped, IsRight, AreRight}

both : (a b : Bool) → (a && b) ≡ true → (a ≡ true) × (b ≡ true)
both true b is = (refl, is)
both false b is = absurd (cc)

le_is : (a b : ℕ) → nat_le a b ≡ true → a ≤ b
le_is a b is = grind arith

lt_is : (a b : ℕ) → nat_lt a b ≡ true → a < b
lt_is a b is = grind arith

eq_is : (a b : ℕ) → (a == b) ≡ true → a ≡ b
eq_is a b is = grind arith

bool_eq : Bool → Bool → Bool
bool_eq true b = b
bool_eq false b = not b

same_bool : (a b : Bool) → bool_eq a b ≡ true → a ≡ b
unfolding bool_eq
same_bool true true is = refl
same_bool true false is = absurd (cc)
same_bool false true is = absurd (cc)
same_bool false false is = refl

unfoldable pub is_seg : Seg → Seg → Bool
is_seg a b = (a.address == b.address) && (a.len == b.len)

unfoldable pub are_segs : List Seg → List Seg → Bool
are_segs [] [] = true
are_segs [] (b ∷ bs) = false
are_segs (a ∷ as_) [] = false
are_segs (a ∷ as_) (b ∷ bs) = is_seg a b && are_segs as_ bs

same_segs : (some others : List Seg) → are_segs some others ≡ true → some ≡ others
unfolding are_segs is_seg
same_segs [] [] is = refl
same_segs [] (b ∷ bs) is = absurd (cc)
same_segs (a ∷ as_) [] is = absurd (cc)
same_segs (a ∷ as_) (b ∷ bs) is =
    let parts = both (is_seg a b) (are_segs as_ bs) is in
    let fields = both (a.address == b.address) (a.len == b.len) parts.0 in
    let address = eq_is a.address b.address fields.0 in
    let len = eq_is a.len b.len fields.1 in
    let rest = same_segs as_ bs parts.1 in
    λ i. record { address = address i; len = len i } ∷ rest i

unfoldable pub is_small : Sizes → ℕ → Bool
is_small buffers address = nat_lt ((address - pool_base) / 512) buffers.small
    && (address == pool_base + 512 * ((address - pool_base) / 512))

unfoldable pub is_large : Sizes → ℕ → Bool
is_large buffers address = nat_lt ((address - large_base buffers) / 4096) buffers.large
    && (address == large_base buffers + 4096 * ((address - large_base buffers) / 4096))

unfoldable pub is_buffer : Sizes → Seg → Bool
is_buffer buffers seg = chosen (nat_le seg.len 512) where
  chosen : Bool → Bool
  chosen true = is_small buffers seg.address
  chosen false = is_large buffers seg.address

small_is : (buffers : Sizes) (address : ℕ) → is_small buffers address ≡ true → IsSmall buffers address
unfolding is_small
small_is buffers address is =
    let parts = both _ _ is in
    record { number = (address - pool_base) / 512; below = lt_is _ _ parts.0; is = eq_is _ _ parts.1 }

large_is : (buffers : Sizes) (address : ℕ) → is_large buffers address ≡ true → IsLarge buffers address
unfolding is_large
large_is buffers address is =
    let parts = both _ _ is in
    record { number = (address - large_base buffers) / 4096; below = lt_is _ _ parts.0; is = eq_is _ _ parts.1 }

buffer_is : (buffers : Sizes) (seg : Seg) → is_buffer buffers seg ≡ true → IsBuffer buffers seg
unfolding is_buffer
buffer_is buffers seg is =
    elim (nat_le seg.len 512) as
    (λ b. elim b as (λ _. Bool) [ true ↦ is_small buffers seg.address | false ↦ is_large buffers seg.address ]
    ≡ true → elim b as (λ _. Type 0) [ true ↦ IsSmall buffers seg.address | false ↦ IsLarge buffers seg.address ]) [
      | true ↦ small_is buffers seg.address
      | false ↦ large_is buffers seg.address
    ] is

unfoldable pub all_buffers : Sizes → List Seg → Bool
all_buffers buffers [] = true
all_buffers buffers (seg ∷ segs) = is_buffer buffers seg && all_buffers buffers segs

buffers_are : (buffers : Sizes) (segs : List Seg) → all_buffers buffers segs ≡ true
    → AllByRecursion (IsBuffer buffers) segs
unfolding all_buffers
buffers_are buffers [] is = tt
buffers_are buffers (seg ∷ segs) is = (buffer_is buffers seg (both _ _ is).0, buffers_are buffers segs (both _ _ is).1)

unfoldable pub fits : Terms → Standing → Need → ℕ → Bool
fits terms before need gone = nat_le need.descriptors (ring_room terms.ring (frames_waiting before gone))
    && nat_le need.stage (length (free terms.stage (frames_waiting before gone)))

fits_is : (terms : Terms) (before : Standing) (need : Need) (gone : ℕ) → fits terms before need gone ≡ true
    → FitsStanding terms.ring terms.stage (frames_waiting before gone) need
unfolding fits
fits_is terms before need gone is = record { in_ring = le_is _ _ (both _ _ is).0; in_stage = le_is _ _ (both _ _ is).1 }

pub is_fits : (terms : Terms) (before : Standing) (need : Need) (gone : ℕ) → FitsStanding terms.ring terms.stage
    (frames_waiting before gone) need → fits terms before need gone ≡ true
unfolding fits
is_fits terms before need gone at = joined _ _ (le_true _ _ at.in_ring) (le_true _ _ at.in_stage) where
  joined : (a b : Bool) → a ≡ true → b ≡ true → (a && b) ≡ true
  joined a b x y = rw (x, y) refl

  le_true : (a b : ℕ) → a ≤ b → nat_le a b ≡ true
  le_true a b le = grind arith

-- it doesn't fit behind fewer than n reaps
unfoldable pub none_fits : Terms → Standing → Need → ℕ → Bool
none_fits terms before need zero = true
none_fits terms before need (suc n) = not (fits terms before need (before.reaped + n)) && none_fits terms before need n

not_fits : (b : Bool) → not b ≡ true → b ≡ true → ⊥
not_fits true x y = cc
not_fits false x y = cc

none_before : (terms : Terms) (before : Standing) (need : Need) (n : ℕ) → none_fits terms before need n ≡ true
    → (fewer : ℕ) → fewer < n → FitsStanding terms.ring terms.stage (frames_waiting before (before.reaped + fewer)) need
    → ⊥
unfolding none_fits
none_before terms before need zero is fewer below at = absurd (omega arith)
none_before terms before need (suc n) is fewer below at =
    elim (nat_lt fewer n) as (λ b. nat_lt fewer n ≡ b → ⊥) [
      | true ↦ λ less. none_before terms before need n (both _ _ is).1 fewer (lt_is fewer n less) at
      | false ↦ λ less.
          let last : fewer ≡ n = grind arith in
          not_fits (fits terms before need (before.reaped + n)) (both _ _ is).0
          (is_fits terms before need (before.reaped + n)
          (subst (λ m. FitsStanding terms.ring terms.stage (frames_waiting before (before.reaped + m)) need) last
          at))
    ] refl

module _ (terms : Terms) (before : Standing) where
  unfoldable pub post_ok : ℕ → ℕ → List Seg → List Seg → Option Command → Bool
  post_ok call freed segments fragments None = false
  post_ok call freed segments fragments (Some command) =
      (call == length before.frames)
      && (nat_le (before.reaped + freed) before.gathered
      && (fits terms before (need_of command) (before.reaped + freed)
      && (none_fits terms before (need_of command) freed
      && (are_segs segments
      (frame_of terms (free terms.stage (frames_waiting before (before.reaped + freed))) call command).segments
      && (are_segs fragments (stored_of terms call command) && all_buffers terms.sizes fragments)))))

  unfoldable pub post_after : ℕ → ℕ → Option Command → Standing
  post_after call freed None = before
  post_after call freed (Some command) =
      record before {
        frames = before.frames
            ++ frame_of terms (free terms.stage (frames_waiting before (before.reaped + freed))) call command ∷ [];
        reaped = before.reaped + freed;
      }

  unfoldable pub ring_ok : ℕ → ℕ → Option Command → Bool
  ring_ok need_is room_is None = false
  ring_ok need_is room_is (Some command) = not before.ended
      && ((need_is == (need_of command).descriptors)
      && ((room_is == ring_room terms.ring (frames_waiting before before.gathered)) && nat_lt room_is need_is))

  unfoldable pub stage_ok : ℕ → ℕ → Option Command → Bool
  stage_ok need_is free_is None = false
  stage_ok need_is free_is (Some command) = not before.ended
      && (nat_le (need_of command).descriptors (ring_room terms.ring (frames_waiting before before.gathered))
      && ((need_is == (need_of command).stage)
      && ((free_is == length (free terms.stage (frames_waiting before before.gathered)))
      && nat_lt free_is need_is)))

  unfoldable pub gather_ok : ℕ → ℕ → Option Frame → Bool
  gather_ok call bytes None = false
  gather_ok call bytes (Some frame) = (call == before.gathered) && (bytes == frame.bytes)

  unfoldable pub reap_ok : ℕ → ℕ → Option Frame → Bool
  reap_ok call recycled None = false
  reap_ok call recycled (Some frame) = (call == before.reaped)
      && (nat_lt before.reaped before.gathered && nat_le recycled frame.pinned)

  unfoldable pub ok : LineEvent → Bool
  ok (posted call freed segments fragments) = post_ok call freed segments fragments (slice_get terms.commands call)
  ok (ring_full need_is room_is) = ring_ok need_is room_is (slice_get terms.commands (length before.frames))
  ok (stage_full need_is free_is) = stage_ok need_is free_is (slice_get terms.commands (length before.frames))
  ok at_end = (length before.frames == terms.end.replies)
      && (is_known terms.end.end && nat_le before.reaped before.gathered)
  ok (sent call bytes) = gather_ok call bytes (slice_get before.frames call) && nat_lt call terms.whole
  ok (dropped call bytes) = gather_ok call bytes (slice_get before.frames call) && nat_le terms.whole call
  ok nothing_posted = before.gathered == length before.frames
  ok (reaped call recycled) = reap_ok call recycled (slice_get before.frames call)
  ok nothing_reaped = before.reaped == before.gathered

  -- a call that met want of memory is taken to have reaped nothing
  unfoldable pub after : LineEvent → Standing
  after (posted call freed segments fragments) = post_after call freed (slice_get terms.commands call)
  after (ring_full need_is room_is) = record before { reaped = before.gathered }
  after (stage_full need_is free_is) = record before { reaped = before.gathered }
  after at_end = record before { reaped = before.reaped + 0; ended = true }
  after (sent call bytes) = record before { gathered = before.gathered + 1 }
  after (dropped call bytes) = record before { gathered = before.gathered + 1 }
  after nothing_posted = before
  after (reaped call recycled) = record before { reaped = before.reaped + 1 }
  after nothing_reaped = before

  post_right : (call freed : ℕ) (segments fragments : List Seg) (command : Option Command)
      → slice_get terms.commands call ≡ command → post_ok call freed segments fragments command ≡ true
      → IsPosted terms before call freed segments fragments (post_after call freed command)
  unfolding post_ok post_after
  post_right call freed segments fragments None asked is = absurd (cc)
  post_right call freed segments fragments (Some command) asked is =
      let one = both _ _ is in
      let two = both _ _ one.1 in
      let three = both _ _ two.1 in
      let four = both _ _ three.1 in
      let five = both _ _ four.1 in
      let six = both _ _ five.1 in
      record {
        command = command;
        next = eq_is _ _ one.0;
        asked = asked;
        least = record {
          gathered = le_is _ _ two.0;
          fits = fits_is terms before (need_of command) (before.reaped + freed) three.0;
          least = none_before terms before (need_of command) freed four.0;
        };
        segments_are = same_segs _ _ five.0;
        fragments_are = same_segs _ _ six.0;
        buffers = all_in terms.sizes fragments (buffers_are terms.sizes fragments six.1);
        leaves = refl;
      }

  open_is : (b : Bool) → not b ≡ true → b ≡ false
  open_is true is = absurd (cc)
  open_is false is = refl

  ring_right : (need_is room_is : ℕ) (command : Option Command) → slice_get terms.commands (length before.frames)
      ≡ command → ring_ok need_is room_is command ≡ true
      → IsRingFull terms before need_is room_is (record before { reaped = before.gathered })
  unfolding ring_ok
  ring_right need_is room_is None asked is = absurd (cc)
  ring_right need_is room_is (Some command) asked is =
      let one = both _ _ is in
      let two = both _ _ one.1 in
      let three = both _ _ two.1 in
      record {
        command = command;
        asked = asked;
        open_yet = open_is before.ended one.0;
        needs = eq_is _ _ two.0;
        has = eq_is _ _ three.0;
        less = lt_is _ _ three.1;
        leaves = refl;
      }

  stage_right : (need_is free_is : ℕ) (command : Option Command) → slice_get terms.commands (length before.frames)
      ≡ command → stage_ok need_is free_is command ≡ true
      → IsStageFull terms before need_is free_is (record before { reaped = before.gathered })
  unfolding stage_ok
  stage_right need_is free_is None asked is = absurd (cc)
  stage_right need_is free_is (Some command) asked is =
      let one = both _ _ is in
      let two = both _ _ one.1 in
      let three = both _ _ two.1 in
      let four = both _ _ three.1 in
      record {
        command = command;
        asked = asked;
        open_yet = open_is before.ended one.0;
        enough = le_is _ _ two.0;
        needs = eq_is _ _ three.0;
        has = eq_is _ _ four.0;
        less = lt_is _ _ four.1;
        leaves = refl;
      }

  gather_right : (call bytes : ℕ) (frame : Option Frame) → slice_get before.frames call ≡ frame
      → gather_ok call bytes frame ≡ true → IsGathered terms before call bytes
      (record before { gathered = before.gathered + 1 })
  unfolding gather_ok
  gather_right call bytes None at is = absurd (cc)
  gather_right call bytes (Some frame) at is = record {
    frame = frame;
    next = eq_is _ _ (both _ _ is).0;
    posted_is = at;
    bytes_are = eq_is _ _ (both _ _ is).1;
    leaves = refl;
  }

  reap_right : (call recycled : ℕ) (frame : Option Frame) → slice_get before.frames call ≡ frame
      → reap_ok call recycled frame ≡ true → IsReaped terms before call recycled
      (record before { reaped = before.reaped + 1 })
  unfolding reap_ok
  reap_right call recycled None at is = absurd (cc)
  reap_right call recycled (Some frame) at is =
      let one = both _ _ is in
      record {
        frame = frame;
        next = eq_is _ _ one.0;
        gathered = lt_is _ _ (both _ _ one.1).0;
        posted_is = at;
        recycles = le_is _ _ (both _ _ one.1).1;
        leaves = refl;
      }

  may_zero : (end : End) (said : Bool) → MayHaveReaped end said 0
  may_zero Clean said = refl
  may_zero (Protocol kind place) said = refl
  may_zero (Truncated place) said = refl
  may_zero TooLong said = refl
  may_zero ReadFault said = refl
  may_zero Memory true = refl
  may_zero Memory false = tt
  may_zero Left said = refl

  pub right_by_test : (event : LineEvent) → ok event ≡ true → IsRight terms before event (after event)
  unfolding ok after
  right_by_test (posted call freed segments fragments) is = post_right call freed segments fragments
      (slice_get terms.commands call) refl is
  right_by_test (ring_full need_is room_is) is = ring_right need_is room_is
      (slice_get terms.commands (length before.frames)) refl is
  right_by_test (stage_full need_is free_is) is = stage_right need_is free_is
      (slice_get terms.commands (length before.frames)) refl is
  right_by_test at_end is =
      let one = both _ _ is in
      let two = both _ _ one.1 in
      record {
        freed = 0;
        served = eq_is _ _ one.0;
        known = two.0;
        may = may_zero terms.end.end before.ended;
        gathered = omega (arith, le_is _ _ two.1);
        leaves = refl;
      }
  right_by_test (sent call bytes) is =
      (gather_right call bytes (slice_get before.frames call) refl (both _ _ is).0, lt_is _ _ (both _ _ is).1)
  right_by_test (dropped call bytes) is =
      (gather_right call bytes (slice_get before.frames call) refl (both _ _ is).0, le_is _ _ (both _ _ is).1)
  right_by_test nothing_posted is = (eq_is _ _ is, refl)
  right_by_test (reaped call recycled) is = reap_right call recycled (slice_get before.frames call) refl is
  right_by_test nothing_reaped is = (eq_is _ _ is, refl)

unfoldable pub all_ok : Terms → Standing → List LineEvent → Bool
all_ok terms before [] = true
all_ok terms before (event ∷ events) = ok terms before event && all_ok terms (after terms before event) events

unfoldable pub last_of : Terms → Standing → List LineEvent → Standing
last_of terms before [] = before
last_of terms before (event ∷ events) = last_of terms (after terms before event) events

pub all_right : (terms : Terms) (before : Standing) (events : List LineEvent) → all_ok terms before events ≡ true
    → AreRight terms before events (last_of terms before events)
unfolding all_ok last_of
all_right terms before [] is = refl
all_right terms before (event ∷ events) is = (
  after terms before event,
  right_by_test terms before event (both _ _ is).0,
  all_right terms
      (after terms before event) events (both _ _ is).1,
)
