-- The calls of a reap.
use Rattle.std.proofs.Common.{◌≡◌, ℕ, ◌+◌, ◌-◌, ◌*◌, ◌%◌, ◌<◌, List, [], ◌∷◌, ◌++◌, sym, ap, ◌∙◌, subst, arith, Option}
use Rattle.std.proofs.Common.{Some, None}
use Rattle.std.proofs.Math.Nat.{add-mod_right}
use Rattle.std.proofs.lemmas.Nat.{mod_below}
use mathlib.Core.Option.{none}
use Rattle.atomic_table.specs.Table.{Me, step, Allows, rest}
use Rattle.flake_base.specs.declared.segment.Seg.{Seg}
use Rattle.tx_ring.specs.Words.{size, extent}
use Rattle.tx_ring.specs.Ends.{driving, HasTaken}
use Rattle.tx_ring.specs.Moves.{reaping, missed}
use Rattle.tx_ring.specs.Plays.{Keeps, saw_status, gave_back, shut, with_driver}
use Rattle.tx_ring.specs.declared.view.View.{View}
use Rattle.tx_ring.specs.declared.view.DriverView.{DriverView}
use Rattle.tx_ring.proofs.Words.{extent-append}
use Rattle.tx_ring.proofs.Posting.{word-at}
use Rattle.tx_ring.proofs.Steps.{looks-at-status, gives-slot-back, closes-ring}

module _ {P : Type 0} (segs : P → List Seg) (n : ℕ) where
  pub status-call : (slots seat : ℕ) (m : Me (Option P) (View P)) → slots ≡ n → 0 < n → m ≡ (driving m.0.driver, [])
      → (f : P) (more : List P) → m.0.driver.posted ≡ m.0.driver.reaped ++ f ∷ more → 0 < size segs f
      → (last : ℕ) → last ≡ (extent segs m.0.driver.reaped + (size segs f - 1)) % n → Allows (Keeps segs n) slots seat m
      (3 + 2 * last + 1) (λ x. x) (saw_status segs (step slots (3 + 2 * last + 1) 0 0 none) m)
  status-call slots seat m same some_place posed f more pending some_seg last at =
      let e : 2 * extent segs m.0.driver.reaped + (2 * size segs f - 1)
      ≡ 2 * (extent segs m.0.driver.reaped + (size segs f - 1)) + 1 = omega arith in
      let word : 3 + (2 * extent segs m.0.driver.reaped + (2 * size segs f - 1)) % (2 * n) ≡ 3 + 2 * last + 1 =
      (let w = ap (λ t. t % (2 * n)) e ∙ word-at (extent segs m.0.driver.reaped + (size segs f - 1)) n 1 some_place
      (omega arith) in omega arith) in
      subst (λ (p : ℕ × ℕ). Allows (Keeps segs n) p.0 seat m p.1 (λ x. x) (saw_status segs (step p.0 p.1 0 0 none) m))
      (λ k. (sym same k, word k))
      (looks-at-status segs n seat m (ap (λ (z : Me (Option P) (View P)). z.0.drives) posed) f more
      (ap (λ (z : Me (Option P) (View P)). z.0.driver.stage) posed)
      (ap (λ (z : Me (Option P) (View P)). z.0.driver.draft) posed) pending)

  pub last-below : (a last : ℕ) → 0 < n → last ≡ a % n → last < n
  last-below a last some_place at = let h = mod_below a n some_place in omega arith

  -- the seat after a miss
  pub after-miss : (m m' : Me (Option P) (View P)) → m ≡ (driving m.0.driver, [])
      → m' ≡ (with_driver (missed m.0.driver) m.0, m.1) → m' ≡ (driving (missed m.0.driver), [])
  after-miss m m' posed e = e ∙ ap (λ (z : Me (Option P) (View P)). (with_driver (missed z.0.driver) z.0, z.1)) posed

  -- and after a hit, with the slot still out
  pub after-hit : (f : P) (k last : ℕ) (m m' m'' : Me (Option P) (View P)) → m ≡ (driving m.0.driver, [])
      → m' ≡ (with_driver (reaping f m.0.driver) m.0, (k, Some f) ∷ m.1) → m'' ≡ (m'.0, (last, None) ∷ rest m'.1)
      → m'' ≡ (with_driver (reaping f (driving m.0.driver).driver) (driving m.0.driver), (last, None) ∷ [])
  after-hit f k last m m' m'' posed e o = o ∙ ap (λ (z : Me (Option P) (View P)). (z.0, (last, None) ∷ rest z.1)) e
      ∙ ap (λ (z : Me (Option P) (View P)). (with_driver (reaping f z.0.driver) z.0, (last, None) ∷ z.1)) posed

  pub taken : (m : Me (Option P) (View P)) (d : DriverView P) (f : P) (last : ℕ) → 0 < n → 0 < size segs f
      → last ≡ (extent segs d.reaped + (size segs f - 1)) % n
      → m ≡ (with_driver (reaping f (driving d).driver) (driving d), (last, None) ∷ []) → HasTaken segs n m last
  taken m d f last some_place some_seg at e =
      let grown : extent segs m.0.driver.reaped ≡ extent segs d.reaped + size segs f =
      ap (λ (z : Me (Option P) (View P)). extent segs z.0.driver.reaped) e ∙ extent-append segs d.reaped (f ∷ [])
      ∙ (let z : extent segs d.reaped + extent segs (f ∷ []) ≡ extent segs d.reaped + size segs f = omega arith in
      z) in
      let place : last ≡ (extent segs m.0.driver.reaped + (n - 1)) % n =
      at ∙ sym (add-mod_right (extent segs d.reaped + (size segs f - 1)) n)
      ∙ ap (λ t. t % n) (let z : extent segs d.reaped + (size segs f - 1) + n ≡ extent segs m.0.driver.reaped
      + (n - 1) = omega arith in z) in (
        last-below _ last some_place at,
        ap (λ (z : Me (Option P) (View P)). z.0.drives) e,
        ap
            (λ (z : Me (Option P) (View P)). z.0.driver.stage) e,
        ap (λ (z : Me (Option P) (View P)). z.1) e
            ∙ (λ j. (place j, None) ∷ []),
      )

  pub give-call : (slots seat : ℕ) (m : Me (Option P) (View P)) (last k : ℕ) → slots ≡ n → HasTaken segs n m last
      → Allows (Keeps segs n) slots seat m k (λ x. x) (gave_back segs (step slots k 0 0 none) m)
  give-call slots seat m last k same h =
      subst (λ (s : ℕ). Allows (Keeps segs n) s seat m k (λ x. x) (gave_back segs (step s k 0 0 none) m)) (sym same)
      (gives-slot-back segs n seat m h.1 h.2 h.3 k)

-- what was in the slot
pub slot_value : {P : Type 0} → Option P → List (ℕ × Option P) → Option P
slot_value o [] = o
slot_value o (x ∷ xs) = x.1

pub found : {P : Type 0} (k last : ℕ) (f : P) (r : Option P) (c : List (ℕ × Option P)) → c ≡ (k, Some f) ∷ []
    → c ≡ (last, r) ∷ rest c → r ≡ Some f
unfolding slot_value
found k last f r c a b = ap (slot_value r) (sym b ∙ a)

-- a seat that took a slot may exchange what is in it
pub slot-out : {P : Type 0} (m' : Me (Option P) (View P)) (w : View P) (k last : ℕ) (o : Option P)
    (c : List (ℕ × Option P)) → m' ≡ (w, (k, o) ∷ c) → k ≡ last → (x : Option P) × (m'.1 ≡ (last, x) ∷ rest m'.1)
slot-out {P} m' w k last o c e q = let at = ap (λ (z : Me (Option P) (View P)). z.1) e in
    (o, at ∙ (λ j. (q j, o) ∷ sym (ap rest at) j))

pub close-call : {P : Type 0} (segs : P → List Seg) (n slots seat : ℕ) (m : Me (Option P) (View P)) → slots ≡ n
    → m ≡ (driving m.0.driver, []) → m.0.driver.posted ≡ m.0.driver.reaped → Allows (Keeps segs n) slots seat m 2
    (λ _. 1) (λ _. shut segs (step slots 2 1 0 none) m 1)
close-call {P} segs n slots seat m same posed all =
    subst (λ (s : ℕ). Allows (Keeps segs n) s seat m 2 (λ _. 1) (λ _. shut segs (step s 2 1 0 none) m 1)) (sym same)
    (closes-ring segs n seat m (ap (λ (z : Me (Option P) (View P)). z.0.drives) posed)
    (ap (λ (z : Me (Option P) (View P)). z.0.driver.stage) posed) all)
