-- Each kind of step on the table is allowed.
use Rattle.std.proofs.Common.{◌≡◌, ℕ, ◌+◌, ◌-◌, ◌%◌, ◌^◌, ◌<◌, ◌≤◌, List, length, set, get_or, eqb, sym, refl, ap, ◌∙◌}
use Rattle.std.proofs.Common.{subst, eq-eqb, ne_eqb, arith}
use Rattle.std.proofs.Math.Nat.{mod-eq_of_lt, add-mod_right}
use mathlib.Core.Logic.{dite}
use mathlib.Core.Option.{Option, some}
use lib.ListN.{get_elem?}
use native.Mathlib.Decide.{ℕ_discrete}
use lib.Seq.{set-get_or}
use prog.Atomic.{either}
use Rattle.atomic_table.specs.Table.{Me, step, keeps, Allows, Splits, Joins}
use Rattle.atomic_table.proofs.Lists.{set_again, set_else}
use Rattle.view_sums.specs.Total.{total}
use Rattle.pin_core.specs.Buffers.{buffers, buffer_words}
use Rattle.pin_core.specs.Holding.{Key, at, sole_at}
use Rattle.pin_core.specs.declared.sizes.Sizes.{Sizes}
use Rattle.pinned_pool.specs.Views.{nobody}
use Rattle.pinned_pool.specs.Rule.{word_at, IsSoundTable}
use Rattle.pinned_pool.specs.Moves.{meant_count, front_of, won, lost, pin, put, unpin, split_old, split_new}
use Rattle.pinned_pool.specs.Moves.{joined_views}
use Rattle.pinned_pool.specs.Plays.{KeepsRule, claim_tells, look_tells, pin_tells, unpin_tells, rule_tells, put_tells}
use Rattle.pinned_pool.specs.Plays.{load_tells}
use Rattle.pinned_pool.specs.declared.view.View.{View}
use Rattle.pinned_pool.proofs.StepKinds.{put_keeps, split_keeps, join_keeps}
use Rattle.pinned_pool.proofs.Keeps.{knows-loose, knows-fronts, wins, free-of, misses, unpins, adds_pin, loads}
use Rattle.pinned_pool.proofs.Keeps.{few-holds}

module _ {S : Type 0} (z : Sizes) (slots seat : ℕ) (m : Me S View) where
  pub claims : (b : ℕ) (said : Option S) → b < buffers z → 0 < m.0.credits → Allows (KeepsRule z) slots seat m b
      (λ n. either (eqb n 0) 1 n) (claim_tells (step slots b 0 1 said) m)
  claims b said near rich t s _ me _ = let n : ℕ = get_or t.words b 0 in let v : View = m.0 in dite (ℕ_discrete n 0)
      (λ e. (
        won b v,
        keeps,
        tt,
        subst (λ k. IsSoundTable z (set t.words b (either k 1 n)) (set t.views seat (won b v))) (sym (eq-eqb n 0 e))
            (wins z t.words t.views s seat v me rich b near e),
        ((λ _. (refl, free-of z t.words t.views s seat v me b near e)), λ ne. absurd (ne e)),
      ))
      (λ ne. (
        lost b n v,
        keeps,
        tt,
        subst (λ k. IsSoundTable z (set t.words b (either k 1 n)) (set t.views seat (lost b n v))) (sym (ne_eqb n 0 ne))
            (misses z t.words t.views s seat v me rich b near ne),
        ((λ e. absurd (ne e)), λ _. refl),
      ))

  pub pins_hold : (b : ℕ) (said : Option S) → b < buffers z → 0 < total (at b) m.0.holds → 1 < m.0.credits
      → Allows (KeepsRule z) slots seat m b (λ n. (n + 1) % 2 ^ 64) (pin_tells (step slots b 1 0 said) m)
  pins_hold b said near has rich t s _ me _ = let v : View = m.0 in (
    pin b v,
    keeps,
    tt,
    subst (λ k. IsSoundTable z (set t.words b k) (set t.views seat (pin b v)))
        (sym (let low : get_or t.words b 0 + 1 < 2 ^ 64 = omega (arith, few-holds z t.words t.views s b near) in
        mod-eq_of_lt low))
        (adds_pin z t.words t.views s seat v me b has rich),
    refl,
  )

  less_one : (n : ℕ) → 0 < n → n < 2 ^ 64 → (n + (2 ^ 64 - 1)) % 2 ^ 64 ≡ n - 1
  less_one n more low = let e : n + (2 ^ 64 - 1) ≡ n - 1 + 2 ^ 64 = omega arith in let l : n - 1 < 2 ^ 64 =
      omega arith in ap (λ k. k % 2 ^ 64) e ∙ add-mod_right (n - 1) (2 ^ 64) ∙ mod-eq_of_lt l

  pub unpins_hold : (k : Key) (said : Option S) → 0 < m.0.credits → 0 < meant_count k m.0.holds
      → Allows (KeepsRule z) slots seat m k.buffer (λ n. (n + (2 ^ 64 - 1)) % 2 ^ 64)
      (unpin_tells k.pinned (step slots k.buffer 1 0 said) m)
  unpins_hold k said rich has t s _ me low = let v : View = m.0 in let n : ℕ = get_or t.words k.buffer 0 in let u =
      unpins z t.words t.views s seat v me rich k has in (
        unpin (eqb n 1) k v,
        keeps,
        tt,
        subst (λ j. IsSoundTable z (set t.words k.buffer j) (set t.views seat (unpin (eqb n 1) k v)))
            (sym (less_one n (omega (arith, u.fewer)) low)) u.sound,
        (refl, λ e. omega (arith, e, u.fewer)),
      )

  pub stores_word : (b i x : ℕ) (said : Option S) → 0 < m.0.credits → 0 < total (sole_at b) m.0.holds
      → i ≤ length (front_of b m.0.holds) → i < buffer_words z b
      → Allows (KeepsRule z) slots seat m (word_at z b i) (λ _. x)
      (λ _. put_tells b i (step slots (word_at z b i) x 0 said) m x)
  stores_word b i x said rich has within fits t s _ me _ =
      (put b i x m.0, keeps, tt, put_keeps z t.words t.views s seat m.0 me rich b i x has within fits, refl)

  -- a load leaves words and views as they are
  unchanged : (words : List ℕ) (views : List View) (k : ℕ) → IsSoundTable z words views → get_elem? views seat
      ≡ some m.0 → IsSoundTable z (set words k (get_or words k 0)) (set views seat m.0)
  unchanged words views k s me = subst (λ (p : List ℕ × List View). IsSoundTable z p.0 p.1)
      (λ j. (sym (set-get_or words k 0) j, sym (set_again views seat m.0 me) j)) s

  pub loads_word : (b i : ℕ) (said : Option S) → 0 < total (at b) m.0.holds → i < length (front_of b m.0.holds)
      → Allows (KeepsRule z) slots seat m (word_at z b i) (λ n. n)
      (load_tells b i (step slots (word_at z b i) 0 0 said) m)
  loads_word b i said has short t s _ me _ = (
    m.0,
    keeps,
    tt,
    unchanged t.words t.views (word_at z b i) s me,
    (refl, loads z t.words t.views s seat m.0 me b i has short),
  )

  pub looks_at : (b : ℕ) (said : Option S) → b < buffers z → 0 < m.0.credits → Allows (KeepsRule z) slots seat m b
      (λ n. n) (look_tells (step slots b 0 0 said) m)
  looks_at b said near rich t s _ me _ = let n : ℕ = get_or t.words b 0 in let v : View = m.0 in dite (ℕ_discrete n 0)
      (λ e. (v, keeps, tt, unchanged t.words t.views b s me, ((λ _. refl), λ ne. absurd (ne e))))
      (λ ne. (
        lost b n v,
        keeps,
        tt,
        misses z t.words t.views s seat v me rich b near ne,
        ((λ e. absurd (ne e)), λ _. refl),
      ))

  pub learns : (i : ℕ) (said : Option S) → Allows (KeepsRule z) slots seat m i (λ n. n)
      (rule_tells (step slots i 0 0 said) m)
  learns i said t s _ me _ = (
    m.0,
    keeps,
    tt,
    unchanged t.words t.views i s me,
    (refl, knows-loose z t.words t.views s seat m.0 me, knows-fronts z t.words t.views s seat m.0 me),
  )

  pub splits_seat : (ks : List Key) (credits : ℕ) → 0 < credits → credits < m.0.credits
      → Splits (KeepsRule {S = S} z) seat m.0 (split_old ks credits m.0) (split_new ks credits m.0)
  splits_seat ks credits more less t s me = split_keeps z t.words t.views s seat m.0 me ks credits more less

  pub joins_seat : (other : ℕ) (w : View) → 0 < m.0.credits → Joins (KeepsRule {S = S} z) seat m.0 other w
      (joined_views m.0 w) nobody
  joins_seat other w rich t s me apart there = join_keeps z t.words t.views s seat m.0 me rich other w apart
      (sym (set_else t.views seat other (joined_views m.0 w) apart) ∙ there)

  -- the same, at a word that is known by an equation
  pub unpins_at : (k : Key) (b : ℕ) (said : Option S) → k.buffer ≡ b → 0 < m.0.credits → 0 < meant_count k m.0.holds
      → Allows (KeepsRule z) slots seat m b (λ n. (n + (2 ^ 64 - 1)) % 2 ^ 64)
      (unpin_tells k.pinned (step slots b 1 0 said) m)
  unpins_at k b said e rich has =
      subst (λ c. Allows (KeepsRule z) slots seat m c (λ n. (n + (2 ^ 64 - 1)) % 2 ^ 64)
      (unpin_tells k.pinned (step slots c 1 0 said) m)) e (unpins_hold k said rich has)

  pub stores_at : (b i k x : ℕ) (said : Option S) → k ≡ word_at z b i → 0 < m.0.credits
      → 0 < total (sole_at b) m.0.holds → i ≤ length (front_of b m.0.holds) → i < buffer_words z b
      → Allows (KeepsRule z) slots seat m k (λ _. x) (λ _. put_tells b i (step slots k x 0 said) m x)
  stores_at b i k x said e rich has within fits =
      subst (λ w. Allows (KeepsRule z) slots seat m w (λ _. x) (λ _. put_tells b i (step slots w x 0 said) m x)) (sym e)
      (stores_word b i x said rich has within fits)

  pub loads_at : (b i k : ℕ) (said : Option S) → k ≡ word_at z b i → 0 < total (at b) m.0.holds
      → i < length (front_of b m.0.holds) → Allows (KeepsRule z) slots seat m k (λ n. n)
      (load_tells b i (step slots k 0 0 said) m)
  loads_at b i k said e has short =
      subst (λ w. Allows (KeepsRule z) slots seat m w (λ n. n) (load_tells b i (step slots w 0 0 said) m)) (sym e)
      (loads_word b i said has short)
