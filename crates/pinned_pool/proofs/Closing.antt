-- What the last seat of a pool learns.
use Rattle.std.proofs.Common.{◌≡◌, ℕ, zero, suc, ◌+◌, ◌<◌, ◌≤◌, List, [], ◌∷◌, cond, eqb, get_or, sym, refl, ap, ◌∙◌}
use Rattle.std.proofs.Common.{subst, eq-eqb, ne_eqb, arith}
use mathlib.Core.Option.{some, some-injective, some-ne-none}
use lib.ListN.{get_elem?}
use Rattle.atomic_table.specs.Table.{Final, Seen}
use Rattle.view_sums.specs.Total.{total}
use Rattle.pin_core.specs.Buffers.{buffers}
use Rattle.pin_core.specs.Holding.{Holding, at, loose_at}
use Rattle.pin_core.specs.HeldCount.{held_in}
use Rattle.pin_core.specs.declared.sizes.Sizes.{Sizes}
use Rattle.pinned_pool.specs.Views.{among, looked_at, IsLoose}
use Rattle.pinned_pool.specs.Plays.{KeepsRule}
use Rattle.pinned_pool.specs.Ends.{End, pool_end, nonzero_in, LooksClaimed, AllEnded}
use Rattle.pinned_pool.specs.declared.view.View.{View}
use Rattle.pinned_pool.proofs.Keeps.{all-alone, loose-of}

held_same : (ws : List ℕ) (hs : List Holding) (limit b n : ℕ) → ((c : ℕ) → c < limit → get_or ws c 0 ≡ total (at c) hs)
    → b + n ≤ limit → nonzero_in ws b n ≡ held_in (λ weight. total weight hs) b n
held_same ws hs limit b zero each h = refl
held_same ws hs limit b (suc n) each h =
    let t : nonzero_in ws b n ≡ held_in (λ weight. total weight hs) b n = held_same ws hs limit b n each
    (omega arith) in
    let e : get_or ws (b + n) 0 ≡ total (at (b + n)) hs = each (b + n) (omega arith) in
    λ i. t i + cond (eqb (e i) 0) 0 1

pub record Ended (z : Sizes) (ws : List ℕ) (v : View) : Type 0 where
  pub held : (b n : ℕ) → b + n ≤ buffers z → nonzero_in ws b n ≡ held_in (λ weight. total weight v.holds) b n
  pub loose : IsLoose v
  pub looks : LooksClaimed v
  pub lasts : AllEnded v

pub ends : {S : Type 0} (z : Sizes) (seat : ℕ) (v : View) (ws : List ℕ) (xs : List S) → v.credits ≡ z.credits
    → Final (Seen (KeepsRule z) seat v) ws xs → Ended z ws v
ends z seat v ws xs all f =
    let t = f.0 in
    let s = f.1.0 in
    let me = f.1.1 in
    let only = all-alone z t.words t.views s seat v me all in
    record {
      held = λ b n h. held_same ws v.holds (buffers z) b n (λ c low. ap (λ l. get_or l c 0) (sym f.2) ∙ s.counted c low
          ∙ only (λ u. total (at c) u.holds) refl) h;
      loose = λ b. subst (λ n. n ≤ 1) (only (λ u. total (loose_at b) u.holds) refl) (loose-of z t.words t.views s b);
      looks = λ b more. subst (λ n. 0 < n) (only (λ u. among b u.claims) refl)
          (s.looked b (subst (λ n. 0 < n) (sym (only (λ u. looked_at b u.looks) refl)) more));
      lasts = λ b. sym (only (λ u. among b u.claims) refl) ∙ s.ended b
          ∙ (λ i. only (λ u. among b u.lasts) refl i + cond (eqb (only (λ u. total (at b) u.holds) refl i) 0) 0 1);
    }

at_get : (l : List ℕ) (i r : ℕ) → get_elem? l i ≡ some r → get_or l i 0 ≡ r
at_get [] i r e = absurd (some-ne-none r (sym e))
at_get (x ∷ xs) zero r e = some-injective x r e
at_get (x ∷ xs) (suc i) r e = at_get xs i r e

more : (ws : List ℕ) (b k r held : ℕ) → get_elem? ws (b + k) ≡ some r → held ≡ nonzero_in ws b k + cond (eqb r 0) 0 1
    → held ≡ nonzero_in ws b (k + 1)
more ws b k r held e h = h ∙ ap (λ n. nonzero_in ws b k + cond (eqb n 0) 0 1) (sym (at_get ws (b + k) r e))
    ∙ ap (nonzero_in ws b) (let s : suc k ≡ k + 1 = omega arith in s)

pub more_zero : (ws : List ℕ) (b k r held : ℕ) → get_elem? ws (b + k) ≡ some r → r ≡ 0 → held ≡ nonzero_in ws b k
    → held ≡ nonzero_in ws b (k + 1)
more_zero ws b k r held e none h =
    more ws b k r held e (h
    ∙ (let c : cond (eqb r 0) 0 1 ≡ zero = ap (λ t. cond t zero 1) (eq-eqb r 0 none) in omega arith))

pub more_held : (ws : List ℕ) (b k r held : ℕ) → get_elem? ws (b + k) ≡ some r → (r ≡ 0 → ⊥) → held ≡ nonzero_in ws b k
    + 1 → held ≡ nonzero_in ws b (k + 1)
more_held ws b k r held e any h =
    more ws b k r held e (h
    ∙ (let c : cond (eqb r 0) 0 1 ≡ 1 = ap (λ t. cond t zero 1) (ne_eqb r 0 any) in omega arith))

pub end_same : (z key : Sizes) (ws : List ℕ) (v w : View) (small large s l : ℕ) → key ≡ z → Ended key ws v → w ≡ v
    → small ≡ z.small → large ≡ z.large → s ≡ nonzero_in ws 0 small → l ≡ nonzero_in ws small large
    → (let e : End = record { seat = w; small = s; large = l } in e ≡ pool_end z v)
end_same z key ws v w small large s l named ended seen few many a b =
    let sum = ap (λ (k : Sizes). buffers k) named in
    let small_held : s ≡ held_in (λ weight. total weight v.holds) 0 z.small = a ∙ ended.held 0 small (omega arith)
    ∙ (λ i. held_in (λ weight. total weight v.holds) 0 (few i)) in
    let large_held : l ≡ held_in (λ weight. total weight v.holds) z.small z.large = b
    ∙ ended.held small large (omega arith) ∙ (λ i. held_in (λ weight. total weight v.holds) (few i) (many i)) in
    λ i. record { seat = seen i; small = small_held i; large = large_held i }
