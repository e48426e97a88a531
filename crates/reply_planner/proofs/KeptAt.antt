-- Bytes stay at their addresses as a seat gets more holds.
use Rattle.std.proofs.Common.{◌≡◌, ℕ, ◌+◌, ◌*◌, ◌<◌, ◌≤◌, List, [], ◌∷◌, ◌++◌, Bool, true, false, cond, eq-eqb, nat_lt}
use Rattle.std.proofs.Common.{length, take, drop, refl, sym, ap, ◌∙◌, subst, append-nil, arith}
use Rattle.std.specs.List.{AllByRecursion}
use Rattle.std.proofs.lemmas.List.{length-take, length-drop}
use Rattle.view_sums.specs.Total.{total, Each}
use Rattle.view_sums.proofs.Eachs.{each-back}
use Rattle.view_sums.proofs.Sums.{total-append}
use Rattle.pin_core.specs.Buffers.{buffers, buffer_words}
use Rattle.pin_core.specs.Holding.{Holding, Key, at}
use Rattle.pin_core.specs.declared.sizes.Sizes.{Sizes}
use Rattle.pinned_pool.specs.Addresses.{address_of, Covers}
use Rattle.pinned_pool.specs.Bytes.{bytes_of_words}
use Rattle.pinned_pool.specs.Moves.{front_of, meant_count, first_hold, holds_for, hold_key, gaining}
use Rattle.pinned_pool.specs.Named.{IsNearby, IsSeat}
use Rattle.pinned_pool.specs.declared.view.View.{View}
use Rattle.pinned_pool.proofs.AfterSteps.{front-append, front-joined, front-on, front-is}
use Rattle.pinned_pool.proofs.Keys.{some-at, found, each-first}
use Rattle.frag_value.proofs.Hands.{length-bytes}
use Rattle.reply_layout.specs.Pieces.{Piece, plain, stored}
use Rattle.reply_planner.specs.Places.{place_of, buffer_bytes, IsHeld}
use Rattle.reply_planner.specs.Plans.{LiesAt, StaysReadable}
use Rattle.reply_planner.proofs.Placed.{place-is}

module _ (z : Sizes) (hs ks : List Holding) where
  pub held_more : (a n : ℕ) → IsHeld z hs a n → IsHeld z (hs ++ ks) a n
  held_more a n is = record {
    covered = is.covered;
    held = omega (arith, is.held, total-append (at (place_of z a).0) hs ks);
    within = omega (arith, is.within, ap (λ (l : List ℕ). length l) (front-append (place_of z a).0 hs ks is.held));
  }

  pub read_more : (a n : ℕ) → IsHeld z hs a n → buffer_bytes (hs ++ ks) (place_of z a).0 (place_of z a).1 n
      ≡ buffer_bytes hs (place_of z a).0 (place_of z a).1 n
  read_more a n is = ap (λ f. take n (drop (place_of z a).1 (bytes_of_words f)))
      (front-append (place_of z a).0 hs ks is.held)

  pub at_more : (a : ℕ) (bytes : List ℕ) → LiesAt z hs a bytes → LiesAt z (hs ++ ks) a bytes
  at_more a bytes is = record {
    held = held_more a (length bytes) is.held;
    bytes_are = read_more a (length bytes) is.held ∙ is.bytes_are;
  }

  pub kept_more : (t : ℕ) (ps : List Piece) → AllByRecursion (StaysReadable z t hs) ps
      → AllByRecursion (StaysReadable z t (hs ++ ks)) ps
  kept_more t [] k = tt
  kept_more t (plain bytes ∷ ps) k = (tt, kept_more t ps k.1)
  kept_more t (stored a bytes ∷ ps) k = (λ long. at_more a bytes (k.0 long), kept_more t ps k.1)

-- a run of a front that is held
pub length-run : (from n : ℕ) (front : List ℕ) → from + n ≤ 8 * length front
    → length (take n (drop from (bytes_of_words front))) ≡ n
length-run from n front fits =
    omega (
      arith,
      length-take n (drop from (bytes_of_words front)),
      length-drop from (bytes_of_words front),
      length-bytes front,
    )

pub at_new : (z : Sizes) (hs : List Holding) (b from n : ℕ) (front : List ℕ) → b < buffers z → 0 < n
    → from + n ≤ 8 * length front
    → length front ≤ buffer_words z b → 0 < total (at b) hs → front_of b hs ≡ front
    → LiesAt z hs (address_of z b + from) (take n (drop from (bytes_of_words front)))
at_new z hs b from n front near some fits short there same =
    let inside : from < 8 * buffer_words z b = omega (arith, some, fits, short) in
    let is = place-is z b from inside in
    let bytes = take n (drop from (bytes_of_words front)) in
    let long = length-run from n front fits in
    record {
      held = record {
        covered = subst (λ p. Covers z p.0 p.1 (address_of z b + from)) (sym is) (near, inside, refl);
        held = subst (λ p. 0 < total (at p.0) hs) (sym is) there;
        within = subst (λ p. p.1 + length bytes ≤ 8 * length (front_of p.0 hs)) (sym is)
            (omega (arith, long, fits, ap (λ (l : List ℕ). length l) same));
      };
      bytes_are = ap (λ p. buffer_bytes hs p.0 p.1 (length bytes)) is
          ∙ ap (λ f. take (length bytes) (drop from (bytes_of_words f))) same
          ∙ ap (λ m. take m (drop from (bytes_of_words front))) long;
    }

room-most : (z : Sizes) (b : ℕ) → buffer_words z b ≤ 512
room-most z b = by_class (nat_lt b z.small) where
  by_class : (t : Bool) → cond t 64 512 ≤ 512
  by_class true = omega arith
  by_class false = omega arith

-- what a seat's last hold keeps
module _ (z : Sizes) (seat seat2 : View) (h : Holding) (from n : ℕ) (holds : seat2.holds ≡ seat.holds ++ h ∷ [])
    (is : IsSeat z seat2) (some : 0 < n) (fits : from + n ≤ 8 * length h.front) where
  last_near : IsNearby z h
  last_near = (each-back (IsNearby z) seat.holds (h ∷ []) (subst (Each (IsNearby z)) holds is.near)).0

  last_there : 0 < total (at h.buffer) (h ∷ [])
  last_there =
      let here : at h.buffer h ≡ 1 = ap (λ b. let m : ℕ = cond b 1 0 in m) (eq-eqb h.buffer h.buffer refl) in
      omega (arith, here)

  last_front : front_of h.buffer seat2.holds ≡ h.front
  last_front =
      let fronts = is.fronts in
      ap (front_of h.buffer) holds
      ∙ front-joined fronts.0 h.buffer seat.holds (h ∷ [])
      (subst (Each (λ (k : Holding). k.front ≡ fronts.0 k.buffer)) holds fronts.1) last_there
      ∙ front-on h.buffer h [] refl

  pub last_short : from + n ≤ 4096
  last_short = omega (arith, fits, last_near.1, room-most z h.buffer)

  pub last_at : LiesAt z seat2.holds (address_of z h.buffer + from) (take n (drop from (bytes_of_words h.front)))
  last_at =
      at_new z seat2.holds h.buffer from n h.front last_near.0 some fits last_near.1
      (omega (arith, ap (total (at h.buffer)) holds, total-append (at h.buffer) seat.holds (h ∷ []), last_there))
      last_front

-- a hold that came from its owner
pub record CameOver (owner seat seat2 : View) (k : Key) : Type 0 where
  pub hold : Holding
  pub holds : seat2.holds ≡ seat.holds ++ hold ∷ []
  pub key : hold_key hold ≡ k
  pub front : hold.front ≡ front_of k.buffer owner.holds

pub came_over : (z : Sizes) (owner seat seat2 : View) (k : Key) → seat2 ≡ gaining (holds_for (k ∷ []) owner.holds) seat
    → IsSeat z owner → 0 < meant_count k owner.holds → CameOver owner seat seat2 k
came_over z owner seat seat2 k gains is some =
    let f = found k owner.holds some in
    let fronts = is.fronts in
    let same : Each (λ (h : Holding). h.front ≡ fronts.0 h.buffer) (f.hold ∷ []) =
    subst (Each (λ (h : Holding). h.front ≡ fronts.0 h.buffer)) f.here
    (each-first (λ (h : Holding). h.front ≡ fronts.0 h.buffer) k owner.holds fronts.1) in
    record {
      hold = f.hold;
      holds = ap (λ (v : View). v.holds) gains
          ∙ ap (λ l. seat.holds ++ l) (append-nil (first_hold k owner.holds) ∙ f.here);
      key = f.key;
      front = same.0 ∙ ap fronts.0 (ap (λ (j : Key). j.buffer) f.key)
          ∙ sym (front-is fronts.0 k.buffer owner.holds fronts.1 (some-at k owner.holds some));
    }
