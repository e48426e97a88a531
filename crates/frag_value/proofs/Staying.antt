-- A value stays while other values come and go.
use Rattle.std.proofs.Common.{◌≡◌, ℕ, ◌+◌, ◌<◌, ◌≤◌, Bool, true, false, cond, eqb, List, [], ◌∷◌, ◌++◌, length, sym}
use Rattle.std.proofs.Common.{refl, ap, ◌∙◌, subst, arith}
use Rattle.view_sums.specs.Total.{total, same, Each}
use Rattle.view_sums.proofs.Sums.{total-append}
use Rattle.view_sums.proofs.Eachs.{each-front, each-back}
use Rattle.pin_core.specs.Holding.{Holding, Key, at}
use Rattle.pin_core.specs.declared.sizes.Sizes.{Sizes}
use Rattle.pinned_pool.specs.Moves.{times_asked, meant_count, front_of, holds_for, without_keys, joined_views, losing}
use Rattle.pinned_pool.specs.Moves.{gaining, loose_key, HasHolds}
use Rattle.pinned_pool.specs.Named.{IsSeat}
use Rattle.pinned_pool.specs.declared.view.View.{View}
use Rattle.pinned_pool.proofs.Keys.{some-at, each-left_by}
use Rattle.pinned_pool.proofs.AfterSteps.{times-append, times-loose, times-left_by, times-taken_by, has_none}
use Rattle.pinned_pool.proofs.AfterSteps.{front-append, front-joined, front-left_by, front-taken_by}
use Rattle.frag_value.specs.Values.{keys_of, uses, whole_fragments, partial_of, HasValue, IsFilled, unmarked_view}
use Rattle.frag_value.specs.Changes.{IsWritten, IsAppended, IsReleased}
use Rattle.frag_value.specs.Taken.{HandsOver}
use Rattle.frag_value.specs.Stays.{Stays, ValuesStay}
use Rattle.frag_value.proofs.Framed.{each_there, still}
use Rattle.frag_value.proofs.Released.{asked-loose, has_keys}
use Rattle.frag_value.proofs.Unmarked.{has_unmarked, same_front}
use Rattle.frag_value.proofs.Appended.{stays_behind}

-- the fragments of two values
pub uses-both : (b : ℕ) (v w : List (ℕ × ℕ)) → uses b (v ++ w) ≡ uses b v + uses b w
uses-both b v w = total-append (λ (p : ℕ × ℕ). same p.0 b) v w

pub has_both : (hs : List Holding) (v w : List (ℕ × ℕ)) → HasValue hs (v ++ w) → HasValue hs v × HasValue hs w
has_both hs v w has = (
  record { held = λ b. omega (arith, uses-both b v w, has.held b); filled = each-front (IsFilled hs) v w has.filled },
  record { held = λ b. omega (arith, uses-both b v w, has.held b); filled = each-back (IsFilled hs) v w has.filled },
)

-- all holds of one buffer have one front
abbrev pub AreFronts : (ℕ → List ℕ) → List Holding → Type 0
AreFronts fronts hs = Each (λ (h : Holding). h.front ≡ fronts h.buffer) hs

-- some holds went and others came, and the value's are among the rest
module _ (v : List (ℕ × ℕ)) (gone come : List Key) (old new : List Holding) (fronts news : ℕ → List ℕ)
    (one : AreFronts fronts old) (one_new : AreFronts news new)
    (rest : without_keys come new ≡ without_keys gone old) (coming : HasHolds come new) (going : HasHolds gone old)
  where
    times-rest : (k : Key) → meant_count k new + times_asked k gone ≡ meant_count k old + times_asked k come
    times-rest k = omega (
      arith,
      times-left_by k come new coming,
      ap (meant_count k) rest,
      times-left_by k gone old
          going,
    )

    -- the front of a buffer of which a hold is left
    pub front-rest : (c : ℕ) → times_asked (loose_key c) gone < meant_count (loose_key c) old → front_of c new
        ≡ front_of c old
    front-rest c more =
        let there : 0 < total (at c) (without_keys gone old) = some-at (loose_key c) (without_keys gone old)
        (omega (arith, more, times-left_by (loose_key c) gone old going)) in
        let there_new : 0 < total (at c) (without_keys come new) = omega (arith, there, ap (total (at c)) rest) in
        sym (front-left_by news c come new one_new there_new) ∙ ap (front_of c) rest
        ∙ front-left_by fronts c gone old one there

    pub stays : ((c : ℕ) → uses c v + times_asked (loose_key c) gone ≤ meant_count (loose_key c) old)
        → Each (IsFilled old) v → Stays v old new
    stays besides filled =
        let there = each_there old new v (λ c some. front-rest c (omega (arith, some, besides c))) filled in
        record {
          has = record { held = λ b. omega (arith, times-rest (loose_key b), besides b); filled = there.0 };
          bytes_are = there.1;
        }

-- the keys of the other one of two values
besides_other : (v w : List (ℕ × ℕ)) (hs : List Holding) → HasValue hs (v ++ w) → (c : ℕ)
    → uses c v + times_asked (loose_key c) (keys_of w) ≤ meant_count (loose_key c) hs
besides_other v w hs has c = omega (arith, uses-both c v w, has.held c, asked-loose c w)

pub stays_written : (z : Sizes) (v w : List (ℕ × ℕ)) (bytes : List ℕ) (old new : View) → IsSeat z new
    → HasValue old.holds v → IsWritten bytes w old new → Stays v old.holds new.holds
stays_written z v w bytes old new seat has written =
    let both = stays_behind z v w old new seat written.holds (has_keys w new.holds written.has.held) has in
    record { has = both.0; bytes_are = both.1 }

-- the other value's holds went
pub stays_left : (z : Sizes) (v w : List (ℕ × ℕ)) (old new : View) → IsSeat z old → HasValue old.holds (v ++ w)
    → new.holds ≡ without_keys (keys_of w) old.holds → Stays v old.holds new.holds
stays_left z v w old new seat has gone =
    let both = has_both old.holds v w has in
    let one_new : AreFronts seat.fronts.0 new.holds =
    subst (AreFronts seat.fronts.0) (sym gone)
    (each-left_by (λ (h : Holding). h.front ≡ seat.fronts.0 h.buffer) (keys_of w) old.holds seat.fronts.1) in
    stays v (keys_of w) [] old.holds new.holds seat.fronts.0 seat.fronts.0 seat.fronts.1 one_new gone
    (has_none new.holds) (has_keys w old.holds both.1.held) (besides_other v w old.holds has) both.0.filled

pub stays_released : (z : Sizes) (v w : List (ℕ × ℕ)) (n : ℕ) (old new : View) → IsSeat z old
    → HasValue old.holds (v ++ w) → IsReleased w n old new → Stays v old.holds new.holds
stays_released z v w n old new seat has released = stays_left z v w old new seat has released.holds

pub stays_handed : (z : Sizes) (v w : List (ℕ × ℕ)) (old new : View) → IsSeat z old → HasValue old.holds (v ++ w)
    → HandsOver w old new → Stays v old.holds new.holds
stays_handed z v w old new seat has handed = stays_left z v w old new seat has handed.holds

pub stays_lost : (z : Sizes) (v w : List (ℕ × ℕ)) (old new : View) → IsSeat z old → HasValue old.holds (v ++ w)
    → new ≡ losing (keys_of w) old → Stays v old.holds new.holds
stays_lost z v w old new seat has lost = stays_left z v w old new seat has (ap (λ (x : View). x.holds) lost)

-- the other value's partial fragment was written anew with more bytes behind it
uses-parts : (c : ℕ) (w : List (ℕ × ℕ)) → uses c (whole_fragments w) + uses c (partial_of w) ≡ uses c w
uses-parts c [] = refl
uses-parts c (p ∷ w) = by_length (eqb p.1 4096) (uses-parts c w)
  where
    by_length : (t : Bool) → uses c (whole_fragments w) + uses c (partial_of w) ≡ uses c w
        → uses c (cond t (p ∷ whole_fragments w) (whole_fragments w))
        + uses c (cond t (partial_of w) (p ∷ partial_of w)) ≡ same p.0 c + uses c w
    by_length true rest = omega (arith, rest)
    by_length false rest = omega (arith, rest)

pub stays_appended : (z : Sizes) (v w x : List (ℕ × ℕ)) (bytes : List ℕ) (old new : View) → IsSeat z old → IsSeat z new
    → 0 < length bytes → HasValue old.holds (v ++ w) → IsAppended w bytes x old new → Stays v old.holds new.holds
stays_appended z v w x bytes old new seat seat_new some has appended =
    let m = appended.moved some in
    let both = has_both old.holds v w has in
    let coming : (c : ℕ) → uses c m.added ≤ meant_count (loose_key c) new.holds =
    λ c. omega (arith, ap (uses c) m.parts, uses-both c (whole_fragments w) m.added, appended.has.held c) in
    let going : (c : ℕ) → uses c (partial_of w) ≤ meant_count (loose_key c) old.holds =
    λ c. omega (arith, uses-parts c w, both.1.held c) in
    stays v (keys_of (partial_of w)) (keys_of m.added) old.holds new.holds seat.fronts.0 seat_new.fronts.0 seat.fronts.1
    seat_new.fronts.1 m.holds (has_keys m.added new.holds coming)
    (has_keys (partial_of w) old.holds going)
    (λ c. omega (arith, uses-both c v w, uses-parts c w, has.held c, asked-loose c (partial_of w))) both.0.filled

-- holds came
pub stays_gained : (v : List (ℕ × ℕ)) (more : List Holding) (old new : View) → HasValue old.holds v
    → new ≡ gaining more old → Stays v old.holds new.holds
stays_gained v more old new has gained =
    let holds : new.holds ≡ old.holds ++ more = ap (λ (x : View). x.holds) gained in
    let both = still old.holds new.holds (λ k. omega (arith, ap (meant_count k) holds, times-append k old.holds more)) v
    (λ c some. ap (front_of c) holds ∙ front-append c old.holds more
    (some-at (loose_key c) old.holds (omega (arith, some, has.held c)))) has in
    record { has = both.0; bytes_are = both.1 }

pub stays_joined : (v : List (ℕ × ℕ)) (old other new : View) → HasValue old.holds v → new ≡ joined_views old other
    → Stays v old.holds new.holds
stays_joined v old other new has joins =
    let holds : new.holds ≡ old.holds ++ other.holds = ap (λ (x : View). x.holds) joins in
    let both = still old.holds new.holds
    (λ k. omega (arith, ap (meant_count k) holds, times-append k old.holds other.holds)) v
    (λ c some. ap (front_of c) holds ∙ front-append c old.holds other.holds
    (some-at (loose_key c) old.holds (omega (arith, some, has.held c)))) has in
    record { has = both.0; bytes_are = both.1 }

-- the value's holds came behind others
module _ (z : Sizes) (v : List (ℕ × ℕ)) (old front back : List Holding) (new : View) (seat : IsSeat z new)
    (holds : new.holds ≡ front ++ back) (filled : Each (IsFilled old) v)
    (held : (c : ℕ) → uses c v ≤ meant_count (loose_key c) back)
    (same_fronts : (c : ℕ) → 0 < uses c v → front_of c back ≡ front_of c old) where
  front-come : (c : ℕ) → 0 < uses c v → front_of c new.holds ≡ front_of c old
  front-come c some =
      ap (front_of c) holds ∙ front-joined seat.fronts.0 c front back
      (subst (AreFronts seat.fronts.0) holds seat.fronts.1)
      (some-at (loose_key c) back (omega (arith, some, held c))) ∙ same_fronts c some

  stays_come : Stays v old new.holds
  stays_come =
      let there = each_there old new.holds v front-come filled in
      record {
        has = record {
          held =
              λ b. omega (arith, ap (meant_count (loose_key b)) holds, times-append (loose_key b) front back, held b);
          filled = there.0;
        };
        bytes_are = there.1;
      }

pub stays_taken_in : (z : Sizes) (v : List (ℕ × ℕ)) (old other new : View) → IsSeat z new → HasValue old.holds v
    → new ≡ joined_views other old → Stays v old.holds new.holds
stays_taken_in z v old other new seat has joins = stays_come z v old.holds other.holds old.holds new seat
    (ap (λ (x : View). x.holds) joins) has.filled has.held (λ c some. refl)

pub stays_moved : (z : Sizes) (v : List (ℕ × ℕ)) (old into new : View) → IsSeat z old → IsSeat z new
    → HasValue old.holds v → new ≡ gaining (holds_for (keys_of v) old.holds) into → Stays v old.holds new.holds
stays_moved z v old into new seat seat_new has gained =
    let all = has_keys v old.holds has.held in
    let more = holds_for (keys_of v) old.holds in
    let held : (c : ℕ) → uses c v ≤ meant_count (loose_key c) more =
    λ c. omega (arith, times-taken_by (loose_key c) (keys_of v) old.holds all, asked-loose c v) in
    stays_come z v old.holds into.holds more new seat_new (ap (λ (x : View). x.holds) gained) has.filled held
    (λ c some. front-taken_by seat.fronts.0 c (keys_of v) old.holds seat.fronts.1
    (some-at (loose_key c) more (omega (arith, some, held c))))

pub stays_shared : (v : List (ℕ × ℕ)) (old new : View) → HasValue old.holds v → unmarked_view new ≡ unmarked_view old
    → Stays v old.holds new.holds
stays_shared v old new has same_view =
    record {
      has = has_unmarked v old new same_view has;
      bytes_are = (each_there old.holds new.holds v (λ c some. same_front c old new same_view) has.filled).1;
    }

-- a seat has one hold at most of a buffer that isn't pinned
pub values_apart : (z : Sizes) (v w : List (ℕ × ℕ)) (seat : View) → IsSeat z seat → HasValue seat.holds (v ++ w)
    → (b : ℕ) → uses b v + uses b w ≤ 1
values_apart z v w seat is has b = omega (arith, uses-both b v w, has.held b, times-loose b seat.holds, is.loose b)

pub values_stay : ValuesStay
values_stay = record {
  written = stays_written;
  appended = stays_appended;
  released = stays_released;
  handed = stays_handed;
  lost = stays_lost;
  gained = stays_gained;
  joined_in = stays_joined;
  taken_in = stays_taken_in;
  shared = stays_shared;
  moved = stays_moved;
  apart = values_apart;
}

-- what to give to `search`
pub ruleset staying = (
  uses-both,
  has_both,
  stays_written,
  stays_appended,
  stays_released,
  stays_handed,
  stays_lost,
  stays_gained,
  stays_joined,
  stays_taken_in,
  stays_shared,
  stays_moved,
  values_apart,
)
