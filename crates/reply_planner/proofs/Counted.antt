-- How much of its need a plan has used, as it goes on.
use Rattle.std.proofs.Common.{◌≡◌, ℕ, ◌+◌, ◌/◌, ◌<◌, ◌≤◌, min, List, [], ◌∷◌, ◌++◌, Bool, true, false, cond, length}
use Rattle.std.proofs.Common.{refl, ap, ◌∙◌, length-append, append-nil, arith, rules}
use Rattle.std.specs.Prelude.{nat_le}
use Rattle.std.proofs.lemmas.Bool.{le-leb}
use Rattle.std.proofs.lemmas.Grind.{flat_map-append}
use Rattle.std.proofs.lemmas.List.{map-append}
use Rattle.view_sums.specs.Total.{total, Each}
use Rattle.frag_value.specs.Taken.{PlacedRun, Extent, entire, ranged, IsFull, MayFollow}
use Rattle.reply_layout.specs.Pieces.{Piece}
use Rattle.reply_layout.specs.Layout.{Placing, copied, pinned, placing_of, placings_of, pinned_of}
use Rattle.reply_layout.specs.Gathered.{copied_from, copied_text}
use Rattle.reply_planner.specs.Planned.{Planned, short_of, long_of, paid_of, copied_of_extent, left_of, slots_of}
use Rattle.reply_planner.specs.Planned.{room_of, range_room_of}
use Rattle.reply_planner.specs.Plans.{ends_long, one_if}

pub below : (t n : ℕ) → n < t → nat_le t n ≡ false
below t n h = search rules

-- a run that is copied
pub record IsShort (t : ℕ) (f : PlacedRun) : Type 0 where
  pub short : short_of t f ≡ length f.bytes
  pub long : long_of t f ≡ 0
  pub paid : paid_of t f ≡ 0

-- a run that stays
pub record IsLong (t : ℕ) (f : PlacedRun) : Type 0 where
  pub short : short_of t f ≡ 0
  pub long : long_of t f ≡ 1
  pub paid : paid_of t f ≡ (cond f.over 0 1)

unpaid : (over : Bool) (n : ℕ) → n ≡ 0 → cond over 0 n ≡ 0
unpaid true n none = refl
unpaid false n none = none

pub is_short : (t : ℕ) (f : PlacedRun) → length f.bytes < t → IsShort t f
is_short t f less =
    let test = below t (length f.bytes) less in
    let long : long_of t f ≡ 0 = ap (λ b. let n : ℕ = cond b 1 0 in n) test in
    record { short = ap (λ b. cond b 0 (length f.bytes)) test; long = long; paid = unpaid f.over (long_of t f) long }

pub is_long : (t : ℕ) (f : PlacedRun) → t ≤ length f.bytes → IsLong t f
is_long t f more =
    let test = le-leb t (length f.bytes) more in
    let long : long_of t f ≡ 1 = ap (λ b. let n : ℕ = cond b 1 0 in n) test in
    record {
      short = ap (λ b. cond b 0 (length f.bytes)) test;
      long = long;
      paid = ap (λ (n : ℕ). cond f.over 0 n) long;
    }

short_most : (t : ℕ) (f : PlacedRun) → 0 < t → short_of t f < t
short_most t f some = by_test (nat_le t (length f.bytes)) refl where
  by_test : (b : Bool) → nat_le t (length f.bytes) ≡ b → short_of t f < t
  by_test true is = let none : short_of t f ≡ 0 = ap (λ b. cond b 0 (length f.bytes)) is in omega (arith, none)
  by_test false is =
      let all : short_of t f ≡ length f.bytes = ap (λ b. cond b 0 (length f.bytes)) is in
      let less : length f.bytes < t = search rules in
      omega (arith, all, less)

module _ (t : ℕ) (some : 0 < t) (few : t ≤ 512) where
  full_long : (f : PlacedRun) → IsFull f → IsLong t f
  full_long f full = is_long t f (omega (arith, full))

  full_sums : (fs : List PlacedRun) → Each IsFull fs → (total (short_of t) fs ≡ 0) × (total (long_of t) fs ≡ length fs)
  full_sums [] e = (refl, refl)
  full_sums (f ∷ fs) e =
      let here = full_long f e.0 in
      let rest = full_sums fs e.1 in
      (omega (arith, here.short, rest.0), omega (arith, here.long, rest.1))

  full_ends : (f : PlacedRun) (fs : List PlacedRun) → Each IsFull (f ∷ fs) → ends_long t (f ∷ fs) ≡ true
  full_ends f [] e = le-leb t (length f.bytes) (omega (arith, e.0))
  full_ends f (g ∷ fs) e = full_ends g fs e.1

  -- one run more fits
  pub next_fits : (e : Extent) (from n size : ℕ) (fs : List PlacedRun) → MayFollow e from n size fs → 0 < n
      → size ≤ 65536
      → (length fs < 16) × (total (short_of t) fs + 513 ≤ copied_of_extent e)
  next_fits entire from n size fs next more limit = (omega (arith, next.2), omega (arith, full_sums fs next.1))
  next_fits ranged from n size [] next more limit = (next.0, omega arith)
  next_fits ranged from n size (f ∷ fs) next more limit =
      (next.0, omega (arith, full_sums fs next.1, short_most t f some))

  -- behind a run that stays only full ones come, but for the last
  pub next_ends : (e : Extent) (from n size : ℕ) (fs : List PlacedRun) → MayFollow e from n size fs
      → one_if (total (long_of t) fs) ≡ 1 → ends_long t fs ≡ true
  next_ends e from n size [] next stays = absurd (omega (arith, stays))
  next_ends entire from n size (f ∷ fs) next stays = full_ends f fs next.1
  next_ends ranged from n size (f ∷ []) next stays = by_test (nat_le t (length f.bytes)) refl where
    by_test : (b : Bool) → nat_le t (length f.bytes) ≡ b → nat_le t (length f.bytes) ≡ true
    by_test true is = is
    by_test false is =
        let none : long_of t f + 0 ≡ 0 = omega (arith, ap (λ b. let n : ℕ = cond b 1 0 in n) is) in
        absurd (omega (arith, stays, ap one_if none))
  next_ends ranged from n size (f ∷ g ∷ fs) next stays = full_ends g fs next.1

  pub ends-more : (fs : List PlacedRun) (f : PlacedRun) → ends_long t (fs ++ f ∷ []) ≡ nat_le t (length f.bytes)
  ends-more [] f = refl
  ends-more (g ∷ []) f = refl
  ends-more (g ∷ h ∷ fs) f = ends-more (h ∷ fs) f

one_long : (t : ℕ) (f : PlacedRun) → long_of t f ≤ 1
one_long t f = by_test (nat_le t (length f.bytes)) where
  by_test : (b : Bool) → cond b 1 0 ≤ 1
  by_test true = omega arith
  by_test false = omega arith

pub long_most : (t : ℕ) (fs : List PlacedRun) → total (long_of t) fs ≤ length fs
long_most t [] = omega arith
long_most t (f ∷ fs) = omega (arith, one_long t f, long_most t fs)

-- what one piece more does to the numbers
pub copied-more : (t : ℕ) (ps qs : List Piece) (x : Piece) → qs ≡ ps ++ x ∷ [] → length (copied_text t qs)
    ≡ length (copied_text t ps) + length (copied_from t x)
copied-more t ps qs x is =
    ap (λ (l : List Piece). length (copied_text t l)) is ∙ ap (λ (l : List ℕ). length l)
    (flat_map-append (copied_from t) ps (x ∷ []))
    ∙ length-append (copied_text t ps) (copied_from t x ++ [])
    ∙ ap (λ (l : List ℕ). length (copied_text t ps) + length l) (append-nil (copied_from t x))

pinned-append : (ys zs : List Placing) → pinned_of (ys ++ zs) ≡ pinned_of ys + pinned_of zs
pinned-append [] zs = omega arith
pinned-append (copied n ∷ ys) zs = pinned-append ys zs
pinned-append (pinned seg ∷ ys) zs = omega (arith, pinned-append ys zs)

pub pinned-more : (t : ℕ) (ps qs : List Piece) (x : Piece) → qs ≡ ps ++ x ∷ [] → pinned_of (placings_of t qs)
    ≡ pinned_of (placings_of t ps) + pinned_of (placing_of t x ∷ [])
pinned-more t ps qs x is =
    ap (λ l. pinned_of (placings_of t l)) is ∙ ap pinned_of (map-append (placing_of t) ps (x ∷ []))
    ∙ pinned-append (placings_of t ps) (placing_of t x ∷ [])

-- room, by what is left
least : {a b c d : ℕ} → a ≤ c → b ≤ d → min a b ≤ min c d
least x y = omega arith

least-more : (a b c d : ℕ) → a ≤ c + 1 → b ≤ d + 1 → min a b ≤ min c d + 1
least-more a b c d x y = omega arith

module _ (p q : Planned) where
  pub room-same : left_of p ≤ left_of q → slots_of p ≤ slots_of q → (room_of p ≤ room_of q)
      × (range_room_of p ≤ range_room_of q)
  room-same x y =
      let slots : slots_of p / 17 ≤ slots_of q / 17 = omega (arith, y) in
      let one : left_of p / 521 ≤ left_of q / 521 = omega (arith, x) in
      let two : left_of p / 1032 ≤ left_of q / 1032 = omega (arith, x) in
      (least one slots, least two slots)

  pub room-less : left_of p ≤ left_of q + 521 → slots_of p ≤ slots_of q + 17 → room_of p ≤ room_of q + 1
  room-less x y =
      let slots : slots_of p / 17 ≤ slots_of q / 17 + 1 = omega (arith, y) in
      let one : left_of p / 521 ≤ left_of q / 521 + 1 = omega (arith, x) in
      least-more (left_of p / 521) (slots_of p / 17) (left_of q / 521) (slots_of q / 17) one slots

  pub range-less : left_of p ≤ left_of q + 1032 → slots_of p ≤ slots_of q + 17 → range_room_of p ≤ range_room_of q + 1
  range-less x y =
      let slots : slots_of p / 17 ≤ slots_of q / 17 + 1 = omega (arith, y) in
      let one : left_of p / 1032 ≤ left_of q / 1032 + 1 = omega (arith, x) in
      least-more (left_of p / 1032) (slots_of p / 17) (left_of q / 1032) (slots_of q / 17) one slots
