-- The rule's sums say it of single holds.
use Rattle.std.proofs.Common.{◌≡◌, ℕ, suc, ◌+◌, ◌<◌, ◌≤◌, List, [], ◌∷◌, length, get_or, Bool, true, false, cond, eqb}
use Rattle.std.proofs.Common.{sym, refl, ap, ◌∙◌, subst, eqb-true, arith}
use mathlib.Core.Logic.{dite}
use mathlib.Core.Option.{some, some-injective}
use native.Mathlib.Decide.{ℕ_discrete}
use lib.ListN.{get_elem?}
use Rattle.std.proofs.lemmas.List.{get_or-drop}
use Rattle.view_sums.specs.Total.{total, same}
use Rattle.view_sums.proofs.Sums.{term-le, terms-le}
use Rattle.view_sums.proofs.Eachs.{each-get_elem?}
use Rattle.pin_core.specs.Buffers.{buffers, start}
use Rattle.pin_core.specs.Holding.{Holding, at, sole_at, loose_at}
use Rattle.pin_core.specs.declared.sizes.Sizes.{Sizes}
use Rattle.pin_core.proofs.Weights.{at-on, sole-on, Fits}
use Rattle.pinned_pool.specs.Views.{among, all_holds, all_claims}
use Rattle.pinned_pool.specs.Rule.{IsSoundTable}
use Rattle.pinned_pool.specs.InWords.{SeatHolds, WonByLive, SoundInWords}
use Rattle.pinned_pool.specs.declared.view.View.{View}
use Rattle.pinned_pool.proofs.Events.{sole-of}
use Rattle.pinned_pool.proofs.Keeps.{fits-of, loose-of, claimed-of}

module _ {A : Type 0} where
  some_term : (weight : A → ℕ) (xs : List A) → 0 < total weight xs → (k : ℕ) × (x : A) × (get_elem? xs k ≡ some x)
      × (0 < weight x)
  some_term weight [] more = absurd (omega arith)
  some_term weight (y ∷ ys) more = dite (ℕ_discrete (weight y) 0)
      (λ none. let t = some_term weight ys (omega arith) in (suc t.0, t.1, t.2, t.3))
      (λ here. (0, y, refl, omega arith))

same-true : (a b : ℕ) → 0 < same a b → a ≡ b
same-true a b more = eqb-true a b (bit (eqb a b) more)
  where
    bit : (t : Bool) → (let n : ℕ = cond t 1 0 in 0 < n) → t ≡ true
    bit true h = refl
    bit false h = absurd (omega arith)

loose-on : (b : ℕ) (h : Holding) → h.buffer ≡ b → h.pinned ≡ false → loose_at b h ≡ 1
loose-on b h e x = ap {B = ℕ} (λ t. cond (eqb h.buffer b) (cond t 0 1) 0) x ∙ at-on b h e

module _ (z : Sizes) (words : List ℕ) (views : List View) (s : IsSoundTable z words views) where
  won_by : (b : ℕ) → 0 < all_claims b views → WonByLive views b
  won_by b more =
      let t = some_term (λ (v : View). among b v.claims) views more in
      let c = some_term (λ c. same c b) t.1.claims t.3 in
      record {
        seat = t.0;
        view = t.1;
        sits = t.2;
        live = dite (ℕ_discrete t.1.credits 0)
            (λ poor. absurd (omega (arith, t.3, ap (λ (v : View). among b v.claims) (s.live t.0 t.1 t.2 poor))))
            (λ rich. omega arith);
        place = c.0;
        won = subst (λ n. get_elem? t.1.claims c.0 ≡ some n) (same-true c.1 b c.3) c.2;
      }

  fit : (seat k : ℕ) (h : Holding) → SeatHolds views seat k h → Fits z s.held.held.fronts h
  fit seat k h p = each-get_elem? (Fits z s.held.held.fronts) p.view.holds k h
      (fits-of z words views s seat p.view p.sits) p.stands

  -- one hold weighs no more than all
  hold-le : (weight : Holding → ℕ) (seat k : ℕ) (h : Holding) → SeatHolds views seat k h
      → weight h ≤ all_holds weight views
  hold-le weight seat k h p =
      omega (
        arith,
        term-le (λ (v : View). total weight v.holds) views seat p.view p.sits,
        term-le weight p.view.holds k
            h p.stands,
      )

  -- holds of which only one can weigh anything are one
  one_place : (weight : Holding → ℕ) → all_holds weight views ≤ 1 → (seat k other j : ℕ) (h g : Holding)
      → SeatHolds views seat k h → SeatHolds views other j g → weight h ≡ 1 → weight g ≡ 1 → (other ≡ seat) × (j ≡ k)
  one_place weight few seat k other j h g p q mine yours =
      let first = term-le weight p.view.holds k h p.stands in
      let second = term-le weight q.view.holds j g q.stands in
      let seat_is : other ≡ seat = dite (ℕ_discrete other seat) (λ e. e)
      (λ ne. absurd (omega (
        arith,
        terms-le (λ (v : View). total weight v.holds) views seat other p.view q.view ne
            p.sits q.sits,
        first,
        second,
        mine,
        yours,
        few,
      ))) in
      let view_is : q.view ≡ p.view = some-injective q.view p.view (sym q.sits ∙ ap (get_elem? views) seat_is ∙ p.sits)
      in
      let there : get_elem? p.view.holds j ≡ some g = subst (λ (v : View). get_elem? v.holds j ≡ some g) view_is
      q.stands in (
        seat_is,
        dite (ℕ_discrete j k) (λ e. e)
            (λ ne. absurd (omega (
              arith,
              terms-le weight p.view.holds k j h g ne p.stands there,
              term-le
                  (λ (v : View). total weight v.holds) views seat p.view p.sits,
              mine,
              yours,
              few,
            ))),
      )

  only_one : (seat k other j : ℕ) (h g : Holding) → SeatHolds views seat k h → SeatHolds views other j g → h.exclusive
      ≡ true → g.buffer ≡ h.buffer → (other ≡ seat) × (j ≡ k)
  only_one seat k other j h g p q exclusive e =
      let one = sole-of z words views s h.buffer
      (omega (arith, hold-le (sole_at h.buffer) seat k h p, sole-on h.buffer h refl exclusive)) in
      one_place (at h.buffer) (omega (arith, one)) seat k other j h g p q (at-on h.buffer h refl) (at-on h.buffer g e)

pub sound_in_words : SoundInWords
sound_in_words z words views s = record {
  only = only_one z words views s;
  loose = λ seat k other j h g p q e mine yours. one_place z words views s (loose_at h.buffer)
      (loose-of z words views s h.buffer) seat k other j h g p q (loose-on h.buffer h refl mine)
      (loose-on h.buffer g e yours);
  near = λ seat k h p. let f = fit z words views s seat k h p in
      (f.near, omega (arith, ap length f.front_is, s.held.held.short h.buffer));
  begins = λ seat k i h p short. let f = fit z words views s seat k h p in
      sym (get_or-drop (buffers z) words (start z h.buffer + i) 0) ∙ s.held.held.begun h.buffer i f.near
      (subst (λ xs. i < length xs) f.front_is short) ∙ ap (λ xs. get_or xs i 0) (sym f.front_is);
  agree = λ seat k other j h g p q e. (fit z words views s other j g q).front_is ∙ ap s.held.held.fronts e
      ∙ sym (fit z words views s seat k h p).front_is;
  held = λ seat k h p. won_by z words views s h.buffer
      (claimed-of z words views s h.buffer
      (omega (arith, hold-le z words views s (at h.buffer) seat k h p, at-on h.buffer h refl)));
  looked = λ seat k v l me e. won_by z words views s l.0
      (s.looked l.0 (omega (
        arith,
        term-le (λ (u : View). total (λ (x : ℕ × ℕ). same x.0 l.0) u.looks) views seat v me,
        term-le (λ (x : ℕ × ℕ). same x.0 l.0) v.looks k l e,
        at-on l.0
            (record { buffer = l.0; front = []; exclusive = true; pinned = true }) refl,
      )));
}
