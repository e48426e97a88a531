-- The calls that bring both ends to one seat and part them again.
use Rattle.std.proofs.Common.{◌≡◌, ℕ, List, [], ◌∷◌, ◌++◌, length, true, sym, refl, ap, ◌∙◌, subst, Option}
use Rattle.std.proofs.Common.{length-append, append-nil, arith}
use Rattle.std.specs.Prelude.{⊤}
use mathlib.Core.Option.{none}
use Rattle.atomic_table.specs.Table.{Me, step, Allows, Enters, Joins}
use Rattle.flake_base.specs.declared.segment.Seg.{Seg}
use Rattle.tx_ring.specs.Ends.{steering, gathering, IsBoth}
use Rattle.tx_ring.specs.Rule.{nobody}
use Rattle.tx_ring.specs.Plays.{Keeps, compared, InOrder, both_parts}
use Rattle.tx_ring.specs.declared.view.View.{View}
use Rattle.tx_ring.specs.declared.view.DriverView.{DriverView}
use Rattle.tx_ring.specs.declared.view.DeviceView.{DeviceView}
use Rattle.tx_ring.specs.declared.view.DriverStage.TheVariants.{Closed}
use Rattle.tx_ring.proofs.Seats.{enters}
use Rattle.tx_ring.proofs.Steps.{compares, joins-seats}

-- what one seat has of both
abbrev pub together : {P : Type 0} → DriverView P → DeviceView P → View P
together d e = record { drives = true; gathers = true; driver = d; device = e }

module _ {P : Type 0} (segs : P → List Seg) (n slots : ℕ) where
  pub spare-call : Enters (Keeps {P = P} segs n) slots 0 (λ k w. ⊤)
  spare-call t r long low = (nobody, enters segs n t.words t.homes t.views r, tt)

  pub join-call : (seat other : ℕ) (m : Me (Option P) (View P)) (w : View P) (d : DriverView P) (e : DeviceView P)
      → m ≡ (steering d, []) → w ≡ gathering e → Joins (Keeps segs n) seat m.0 other w (both_parts m.0 w) nobody
  join-call seat other m w d e a b = joins-seats segs n seat m other w
      (ap (λ (z : Me (Option P) (View P)). z.0.drives) a) (ap (λ (z : View P). z.gathers) b)

  pub after-join : (m m' : Me (Option P) (View P)) (w : View P) (d : DriverView P) (e : DeviceView P)
      → m ≡ (steering d, []) → w ≡ gathering e → m' ≡ (both_parts m.0 w, m.1) → m' ≡ (together d e, [])
  after-join m m' w d e a b o = o ∙ ap (λ (z : Me (Option P) (View P)). (both_parts z.0 w, z.1)) a
      ∙ ap (λ (z : View P). (both_parts (steering d) z, [])) b

  pub has-both : (m : Me (Option P) (View P)) (d : DriverView P) (e : DeviceView P) → m ≡ (together d e, [])
      → IsBoth m.0
  has-both m d e a = (
    ap (λ (z : Me (Option P) (View P)). z.0.drives) a,
    ap
        (λ (z : Me (Option P) (View P)). z.0.gathers) a,
  )

  pub compare-call : (seat : ℕ) (m : Me (Option P) (View P)) → slots ≡ n → IsBoth m.0
      → Allows (Keeps segs n) slots seat m 0 (λ x. x) (compared segs (step slots 0 0 0 none) m)
  compare-call seat m same b =
      subst (λ (s : ℕ). Allows (Keeps segs n) s seat m 0 (λ x. x) (compared segs (step s 0 0 0 none) m)) (sym same)
      (compares segs n seat m b.0 b.1)

  pub learned : (m : Me (Option P) (View P)) (d : DriverView P) (e : DeviceView P) → m ≡ (together d e, [])
      → InOrder m.0.driver m.0.device × (m.0.device.ended ≡ true → m.0.driver.stage ≡ Closed) → InOrder d e
      × (e.ended ≡ true → d.stage ≡ Closed)
  learned m d e a told =
      subst (λ (z : Me (Option P) (View P)). InOrder z.0.driver z.0.device
      × (z.0.device.ended ≡ true → z.0.driver.stage ≡ Closed)) a told

empty : {P : Type 0} (xs : List P) → length xs ≡ 0 → xs ≡ []
empty [] h = refl
empty (x ∷ xs) h = absurd (omega (arith, h))

-- where all that was posted was reaped, all of it was completed
pub caught-up : {P : Type 0} (d : DriverView P) (e : DeviceView P) → InOrder d e → d.posted ≡ d.reaped → e.completed
    ≡ d.posted
caught-up d e order all =
    let long = ap length (sym all ∙ order.1.1 ∙ ap (λ t. t ++ order.1.0) order.0.1) in
    let rest : order.1.0 ≡ [] =
    empty _ (let a = length-append (d.reaped ++ order.0.0) order.1.0 in let b = length-append d.reaped order.0.0 in
    omega (arith, long, a, b)) in
    sym (order.1.1 ∙ ap (λ t. e.completed ++ t) rest ∙ append-nil e.completed)
