-- Each step of a pool is its events on the plain list of holds.
use Rattle.std.proofs.Common.{◌≡◌, ℕ, ◌+◌, ◌-◌, ◌<◌, ◌≤◌, ◌≢◌, List, [], ◌∷◌, ◌++◌, map, set, get_or, replicate, Bool}
use Rattle.std.proofs.Common.{true, false, cond, sym, refl, ap, ◌∙◌, subst, length, length-set, arith}
use mathlib.Core.Logic.{dite}
use mathlib.Core.Option.{some}
use native.Mathlib.Decide.{ℕ_discrete}
use lib.ListN.{get_elem?}
use Rattle.std.proofs.lemmas.List.{drop-set-lt, drop-set-add}
use Rattle.atomic_table.proofs.Lists.{set_else}
use Rattle.view_sums.specs.Total.{total, SameItems}
use Rattle.view_sums.specs.Numbered.{by_number}
use Rattle.view_sums.proofs.Sums.{total-map, total-append, total-le, term-le}
use Rattle.view_sums.proofs.Items.{total-replicate-add}
use Rattle.pin_core.specs.Buffers.{buffers, buffer_words, start}
use Rattle.pin_core.specs.Holding.{Holding, Key, at, sole_at, pinned_copy}
use Rattle.pin_core.specs.Pins.{Owned, Pins, own}
use Rattle.pin_core.specs.PinStep.{give, IsClaim, IsPut, IsLoad, IsPin, IsUnpin, SamePins, PinSteps}
use Rattle.pin_core.specs.declared.sizes.Sizes.{Sizes}
use Rattle.pin_core.proofs.Weights.{at-on, sole-at}
use Rattle.pinned_pool.specs.Views.{view, nobody, all_holds}
use Rattle.pinned_pool.specs.Moves.{meant_count, holds_for, share, write, front_of, pinned_hold, won, lost, pin, put}
use Rattle.pinned_pool.specs.Moves.{unpin, split_old, split_new, joined_views}
use Rattle.pinned_pool.specs.Rule.{holds_by, credits_by, pins_of, word_at, IsSoundTable}
use Rattle.pinned_pool.specs.StepKinds.{move_all}
use Rattle.pinned_pool.specs.declared.view.View.{View}
use Rattle.pinned_pool.proofs.Keys.{total-without, total-left_by, found}
use Rattle.pinned_pool.proofs.Fronts.{Picked, pick, changed-one, share-on, write-on, shared_idle, written_idle}
use Rattle.pinned_pool.proofs.Fronts.{exclusive_of}
use Rattle.pinned_pool.proofs.Listed.{holds-set, holds-push, credits-set, credits-push, credits_stay, weigh_all}

-- some holds go to another holder, and then some credits
moves : (z : Sizes) (hs : List Holding) (p taker n : ℕ) (old new : Pins ℕ) (rest : List (Owned ℕ)) (left : List ℕ)
    → SameItems old.holds (map (own p) hs ++ rest) → SameItems new.holds (map (own taker) hs ++ rest)
    → new.words ≡ old.words
    → SameItems old.credits (replicate n p ++ left) → SameItems new.credits (replicate n taker ++ left)
    → PinSteps z old (move_all hs p taker ++ give p taker n ∷ []) new
moves z [] p taker n old new rest left before after words had has = (
  new,
  record { rest = left; had = had; given = has; holds = λ f. after f ∙ sym (before f); words = words },
  record { holds = λ f. refl; words = refl; credits = λ f. refl },
)
moves z (h ∷ hs) p taker n old new rest left before after words had has =
    let mid : Pins ℕ = record {
      holds = own taker h ∷ (map (own p) hs ++ rest);
      words = old.words;
      credits = old.credits;
    } in (
      mid,
      record {
        hold = h;
        rest = map (own p) hs ++ rest;
        meant = record { of_buffer = refl; as_pinned = refl };
        held = before;
        moved = λ f. refl;
        words = refl;
        credits = λ f. refl;
      },
      moves z hs p taker n mid new (own taker h ∷ rest) left
          (λ f. omega (
            arith,
            total-append f (map (own p) hs) rest,
            total-append f (map (own p) hs)
                (own taker h ∷ rest),
          ))
          (λ f. omega (
            arith,
            after f,
            total-append f (map (own taker) hs) rest,
            total-append f (map (own taker) hs)
                (own taker h ∷ rest),
          ))
          words
          had
          has,
    )

-- credits of one holder, in two parts
parts_of : (weight : ℕ → ℕ) (seat m n k : ℕ) → k ≡ m + n → total weight (replicate k seat)
    ≡ total weight (replicate m seat) + total weight (replicate n seat)
parts_of weight seat m n k e = ap (λ (j : ℕ). total weight (replicate j seat)) e ∙ total-replicate-add weight m n seat

-- the sums of the rule as they stand over the seats
module _ (z : Sizes) (words : List ℕ) (views : List View) (s : IsSoundTable z words views) where
  pub sole-of : (b : ℕ) → 0 < all_holds (sole_at b) views → all_holds (at b) views ≡ 1
  sole-of b has = omega (arith, weigh_all (at b) views, s.held.held.sole b (omega (arith, weigh_all (sole_at b) views)))

  module _ (seat : ℕ) (v : View) (me : get_elem? views seat ≡ some v) where
    -- where it holds a buffer, every other hold of it is shared
    others_shared : (b : ℕ) (p : Picked b v.holds) → total (sole_at b) p.rest ≡ 0
    others_shared b p =
        dite (ℕ_discrete (total (sole_at b) p.rest) 0) (λ none. none)
        (λ ne. absurd (omega (
          arith,
          sole-of b (omega (
            arith,
            term-le (λ (u : View). total (sole_at b) u.holds) views seat v me,
            p.sums
                (sole_at b),
          )),
          term-le (λ (u : View). total (at b) u.holds) views seat v me,
          p.sums (at b),
          at-on b p.hold p.buffer,
          total-le (sole_at b) (at b) (sole-at b) p.rest,
        )))

    -- an exclusive hold is the only one
    pub record Only (b : ℕ) : Type 0 where
      pub one : Picked b v.holds
      pub exclusive : one.hold.exclusive ≡ true
      pub alone : total (at b) one.rest ≡ 0
      pub count : all_holds (at b) views ≡ 1

    pub only : (b : ℕ) → 0 < total (sole_at b) v.holds → Only b
    only b has =
        let p = pick b v.holds (omega (arith, total-le (sole_at b) (at b) (sole-at b) v.holds)) in
        let count = sole-of b (omega (arith, term-le (λ (u : View). total (sole_at b) u.holds) views seat v me)) in
        let alone : total (at b) p.rest ≡ 0 =
        omega (
          arith,
          count,
          term-le (λ (u : View). total (at b) u.holds) views seat v me,
          p.sums
              (at b),
          at-on b p.hold p.buffer,
        ) in
        record {
          one = p;
          exclusive = exclusive_of b p.hold p.buffer
              (omega (arith, p.sums (sole_at b), total-le (sole_at b) (at b) (sole-at b) p.rest, alone));
          alone = alone;
          count = count;
        }

    -- the seat with other holds
    abbrev with_holds : List Holding → View
    with_holds hs = view hs v.credits [] [] 0 []

    pub claim_event : (b : ℕ) → b < buffers z → get_or words b 0 ≡ 0 → IsClaim b seat (pins_of z words views)
        (pins_of z (set words b 1) (set views seat (won b v)))
    claim_event b near free = record {
      free = weigh_all (at b) views ∙ sym (s.counted b near) ∙ free;
      claimed = λ f. omega (arith, holds-set f views seat v (won b v) me);
      words = drop-set-lt (buffers z) words b 1 near;
      credits = credits_stay views seat v (won b v) me refl;
    }

    pub look_event : (b n : ℕ) → SamePins (pins_of z words views) (pins_of z words (set views seat (lost b n v)))
    look_event b n = record {
      holds = λ f. omega (arith, holds-set f views seat v (lost b n v) me);
      words = refl;
      credits = credits_stay views seat v (lost b n v) me refl;
    }

    pub put_event : (b i x : ℕ) → 0 < total (sole_at b) v.holds → i ≤ length (front_of b v.holds) → i < buffer_words z b
        → IsPut z b seat i x (pins_of z words views)
        (pins_of z (set words (word_at z b i) x) (set views seat (put b i x v)))
    put_event b i x has within fits =
        let o = only b has in
        let p = o.one in
        record {
          hold = p.hold;
          rest = by_number holds_by 0 (set views seat (with_holds p.rest));
          of_buffer = p.buffer;
          held = λ f. omega (arith, holds-set f views seat v (with_holds p.rest) me, p.sums (λ h. f (own seat h)));
          exclusive = o.exclusive;
          in_front = subst (λ xs. i ≤ length xs) p.front within;
          in_buffer = fits;
          put = λ f. omega (
            arith,
            holds-set f views seat v (put b i x v) me,
            holds-set f views seat v (with_holds p.rest) me,
            changed-one (write b i x) (at b) (written_idle b i x) (λ h. f (own seat h)) b v.holds p o.alone,
            ap (λ h. f (own seat h)) (write-on b i x p.hold p.buffer),
          );
          words = drop-set-add (buffers z) words (start z b + i) x;
          credits = credits_stay views seat v (put b i x v) me refl;
        }

    pub load_event : (b i : ℕ) → 0 < total (at b) v.holds → i < length (front_of b v.holds)
        → IsLoad b seat i (pins_of z words views) (pins_of z words views)
    load_event b i has short =
        let p = pick b v.holds has in
        record {
          hold = p.hold;
          rest = by_number holds_by 0 (set views seat (with_holds p.rest));
          of_buffer = p.buffer;
          held = λ f. omega (arith, holds-set f views seat v (with_holds p.rest) me, p.sums (λ h. f (own seat h)));
          in_front = subst (λ xs. i < length xs) p.front short;
          holds = λ f. refl;
          words = refl;
          credits = λ f. refl;
        }

    pub pin_event : (b n : ℕ) → b < buffers z → 0 < total (at b) v.holds → 1 < v.credits
        → IsPin b seat seat (pins_of z words views) (pins_of z (set words b n) (set views seat (pin b v)))
    pin_event b n near has rich =
        let p = pick b v.holds has in
        let copy : pinned_hold b (front_of b v.holds) ≡ pinned_copy p.hold = λ j. pinned_hold (sym p.buffer j)
        (p.front j) in
        record {
          hold = p.hold;
          rest = by_number holds_by 0 (set views seat (with_holds p.rest));
          of_buffer = p.buffer;
          held = λ f. omega (arith, holds-set f views seat v (with_holds p.rest) me, p.sums (λ h. f (own seat h)));
          pinned = λ f. omega (
            arith,
            holds-set f views seat v (pin b v) me,
            holds-set f views seat v (with_holds p.rest) me,
            changed-one (share b) (sole_at b) (shared_idle b) (λ h. f (own seat h)) b v.holds p (others_shared b p),
            ap (λ h. f (own seat h)) (share-on b p.hold p.buffer),
            ap (λ h. f (own seat h)) copy,
          );
          words = drop-set-lt (buffers z) words b n near;
          credits = λ f. omega (
            arith,
            credits-set f views seat v (pin b v) me,
            parts_of f seat
                (v.credits - 1) 1 v.credits (omega arith),
          );
        }

    unpin_credits : (t : Bool) (w : View) → w.credits ≡ v.credits + cond t 1 0
        → SameItems (by_number credits_by 0 (set views seat w))
        (cond t (seat ∷ by_number credits_by 0 views) (by_number credits_by 0 views))
    unpin_credits true w e =
        λ f. omega (arith, credits-set f views seat v w me, parts_of f seat v.credits 1 w.credits e)
    unpin_credits false w e = credits_stay views seat v w me (omega (arith, e))

    pub unpin_event : (last : Bool) (k : Key) (n : ℕ) → k.buffer < buffers z → 0 < meant_count k v.holds
        → IsUnpin k seat (pins_of z words views) (pins_of z (set words k.buffer n) (set views seat (unpin last k v)))
    unpin_event last k n near has =
        let m = found k v.holds has in
        let w : View = unpin last k v in
        record {
          hold = m.hold;
          meant = record { of_buffer = ap (λ (j : Key). j.buffer) m.key; as_pinned = ap (λ (j : Key). j.pinned) m.key };
          unpinned = λ f. omega (
            arith,
            holds-set f views seat v w me,
            total-without (λ h. f (own seat h)) k v.holds,
            ap
                (total (λ h. f (own seat h))) m.here,
          );
          words = drop-set-lt (buffers z) words k.buffer n near;
          credits = unpin_credits k.pinned w refl;
        }

    pub split_event : (ks : List Key) (n : ℕ) → n < v.credits
        → PinSteps z (pins_of z words views)
        (move_all (holds_for ks v.holds) seat (length views) ++ give seat (length views) n ∷ [])
        (pins_of z words (set views seat (split_old ks n v) ++ split_new ks n v ∷ []))
    split_event ks n less =
        let l : View = split_old ks n v in
        let r : View = split_new ks n v in
        let left : List View = set views seat l in
        let taker : ℕ = length views in
        let far : length left ≡ taker = length-set views seat l in
        moves z (holds_for ks v.holds) seat taker n (pins_of z words views) (pins_of z words (left ++ r ∷ []))
        (by_number holds_by 0 left) (by_number credits_by 0 left)
        (λ f. omega (
          arith,
          holds-set f views seat v l me,
          total-left_by (λ h. f (own seat h)) ks v.holds,
          total-append f (map (own seat) (holds_for ks v.holds)) (by_number holds_by 0 left),
          total-map f (own seat) (holds_for ks v.holds),
        ))
        (λ f. omega (
          arith,
          holds-push f left r taker far,
          total-append f (map (own taker) (holds_for ks v.holds)) (by_number holds_by 0 left),
          total-map f (own taker) (holds_for ks v.holds),
        ))
        refl
        (λ f. omega (
          arith,
          credits-set f views seat v l me,
          parts_of f seat n l.credits v.credits
              (omega arith),
          total-append f (replicate n seat) (by_number credits_by 0 left),
        ))
        (λ f. omega (
          arith,
          credits-push f left r taker far,
          total-append f (replicate n taker)
              (by_number credits_by 0 left),
        ))

    pub join_event : (other : ℕ) (w : View) → other ≢ seat → get_elem? views other ≡ some w
        → PinSteps z (pins_of z words views) (move_all w.holds other seat ++ give other seat w.credits ∷ [])
        (pins_of z words (set (set views seat (joined_views v w)) other nobody))
    join_event other w apart there =
        let both : View = joined_views v w in
        let between : List View = set views seat both in
        let after : List View = set between other nobody in
        let gone : List View = set views other nobody in
        let still : get_elem? between other ≡ some w = set_else views seat other both apart ∙ there in
        moves z w.holds other seat w.credits (pins_of z words views) (pins_of z words after) (by_number holds_by 0 gone)
        (by_number credits_by 0 gone)
        (λ f. omega (
          arith,
          holds-set f views other w nobody there,
          total-append f (map (own other) w.holds)
              (by_number holds_by 0 gone),
          total-map f (own other) w.holds,
        ))
        (λ f. omega (
          arith,
          holds-set f views other w nobody there,
          holds-set f views seat v both me,
          holds-set f between other w nobody still,
          total-append (λ h. f (own seat h)) v.holds w.holds,
          total-append f (map (own seat) w.holds) (by_number holds_by 0 gone),
          total-map f (own seat) w.holds,
        ))
        refl
        (λ f. omega (
          arith,
          credits-set f views other w nobody there,
          total-append f (replicate w.credits other)
              (by_number credits_by 0 gone),
        ))
        (λ f. omega (
          arith,
          credits-set f views other w nobody there,
          credits-set f views seat v both me,
          credits-set f between other w nobody still,
          parts_of f seat v.credits w.credits both.credits refl,
          total-append f (replicate w.credits seat) (by_number credits_by 0 gone),
        ))
