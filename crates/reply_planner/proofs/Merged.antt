-- Buffers that are put in their places among others.
use Rattle.std.proofs.Common.{◌≡◌, ℕ, zero, suc, ◌+◌, ◌<◌, ◌≤◌, ⊎_elim, List, [], ◌∷◌, ◌++◌, length, drop, cond, sym}
use Rattle.std.proofs.Common.{refl, ap, ◌∙◌, subst, arith}
use Rattle.std.proofs.lemmas.Bool.{lt-ltb, le-ltb, cases_lt}
use Rattle.view_sums.specs.Total.{total, same, Each}
use Rattle.view_sums.proofs.Items.{length-total}
use Rattle.pinned_pool.specs.Views.{among}
use Rattle.frag_value.proofs.Sames.{same-yes}
use Rattle.reply_planner.specs.Stages.{IsFrom, IsOrdered, IsAbove, IsRising, inserted, merged}

-- what is less is passed, and what isn't is not
pub inserted-on : (b c : ℕ) (cs : List ℕ) → c < b → inserted b (c ∷ cs) ≡ c ∷ inserted b cs
inserted-on b c cs less = ap (λ t. cond t (c ∷ inserted b cs) (b ∷ c ∷ cs)) (lt-ltb c b less)

pub inserted-here : (b c : ℕ) (cs : List ℕ) → b ≤ c → inserted b (c ∷ cs) ≡ b ∷ c ∷ cs
inserted-here b c cs more = ap (λ t. cond t (c ∷ inserted b cs) (b ∷ c ∷ cs)) (le-ltb c b more)

-- behind those that are less
pub inserted-behind : (b : ℕ) (front back : List ℕ) → Each (λ c. c < b) front → inserted b (front ++ back) ≡ front
    ++ inserted b back
inserted-behind b [] back all = refl
inserted-behind b (c ∷ front) back all = inserted-on b c (front ++ back) all.0
    ∙ ap (λ l. c ∷ l) (inserted-behind b front back all.1)

pub inserted-between : (b c : ℕ) (front back : List ℕ) → Each (λ d. d < b) front → b ≤ c
    → inserted b (front ++ c ∷ back) ≡ front ++ b ∷ c ∷ back
inserted-between b c front back all more = inserted-behind b front (c ∷ back) all
    ∙ ap (λ l. front ++ l) (inserted-here b c back more)

-- one after another
pub merged-append : (bs ds cs : List ℕ) → merged (bs ++ ds) cs ≡ merged bs (merged ds cs)
merged-append [] ds cs = refl
merged-append (b ∷ bs) ds cs = ap (inserted b) (merged-append bs ds cs)

-- no sum tells an insertion from an addition at the front
module _ (weight : ℕ → ℕ) where
  pub total-inserted : (b : ℕ) (cs : List ℕ) → total weight (inserted b cs) ≡ weight b + total weight cs
  total-inserted b [] = refl
  total-inserted b (c ∷ cs) =
      ⊎_elim
      (λ less. omega (arith, ap (total weight) (inserted-on b c cs less), total-inserted b cs))
      (λ more. ap (total weight) (inserted-here b c cs more))
      (cases_lt c b)

  pub total-merged : (bs cs : List ℕ) → total weight (merged bs cs) ≡ total weight bs + total weight cs
  total-merged [] cs = omega arith
  total-merged (b ∷ bs) cs = omega (arith, total-inserted b (merged bs cs), total-merged bs cs)

pub length-inserted : (b : ℕ) (cs : List ℕ) → length (inserted b cs) ≡ length cs + 1
length-inserted b cs = omega (arith, length-total (inserted b cs), length-total cs, total-inserted (λ _. 1) b cs)

pub length-merged : (bs cs : List ℕ) → length (merged bs cs) ≡ length bs + length cs
length-merged bs cs =
    omega (arith, length-total (merged bs cs), length-total bs, length-total cs, total-merged (λ _. 1) bs cs)

pub among-merged : (b : ℕ) (bs cs : List ℕ) → among b (merged bs cs) ≡ among b bs + among b cs
among-merged b bs cs = total-merged (λ c. same c b) bs cs

-- a fact of each
module _ (P : ℕ → Type 0) where
  pub each-inserted : (b : ℕ) (cs : List ℕ) → P b → Each P cs → Each P (inserted b cs)
  each-inserted b [] here all = (here, tt)
  each-inserted b (c ∷ cs) here all =
      ⊎_elim
      (λ less. subst (Each P) (sym (inserted-on b c cs less)) (all.0, each-inserted b cs here all.1))
      (λ more. subst (Each P) (sym (inserted-here b c cs more)) (here, (all.0, all.1)))
      (cases_lt c b)

  pub each-merged : (bs cs : List ℕ) → Each P bs → Each P cs → Each P (merged bs cs)
  each-merged [] cs all others = others
  each-merged (b ∷ bs) cs all others = each-inserted b (merged bs cs) all.0 (each-merged bs cs all.1 others)

from-inserted : (a b : ℕ) (cs : List ℕ) → a ≤ b → IsFrom a cs → IsFrom a (inserted b cs)
from-inserted a b [] least ordered = (least, tt)
from-inserted a b (c ∷ cs) least ordered =
    ⊎_elim
    (λ on. subst (IsFrom a) (sym (inserted-on b c cs on)) (ordered.0, from-inserted c b cs (omega arith) ordered.1))
    (λ here. subst (IsFrom a) (sym (inserted-here b c cs here)) (least, (here, ordered.1)))
    (cases_lt c b)

-- an insertion keeps the order
pub ordered-inserted : (b : ℕ) (cs : List ℕ) → IsOrdered cs → IsOrdered (inserted b cs)
ordered-inserted b [] ordered = tt
ordered-inserted b (c ∷ cs) ordered =
    ⊎_elim
    (λ on. subst IsOrdered (sym (inserted-on b c cs on)) (from-inserted c b cs (omega arith) ordered))
    (λ here. subst IsOrdered (sym (inserted-here b c cs here)) (here, ordered))
    (cases_lt c b)

ordered-rest : (a : ℕ) (cs : List ℕ) → IsFrom a cs → IsOrdered cs
ordered-rest a [] ordered = tt
ordered-rest a (c ∷ cs) ordered = ordered.1

pub ordered-drop : (n : ℕ) (cs : List ℕ) → IsOrdered cs → IsOrdered (drop n cs)
ordered-drop zero cs ordered = ordered
ordered-drop (suc n) [] ordered = tt
ordered-drop (suc n) (c ∷ cs) ordered = ordered-drop n cs (ordered-rest c cs ordered)

apart : (b c : ℕ) → same c b ≡ 0 → b ≤ c → b < c
apart b c differ most = ⊎_elim (λ less. less)
    (λ least. let e : c ≡ b = omega arith in absurd (omega (arith, same-yes c b e))) (cases_lt b c)

-- a buffer that isn't there yet leaves the order
above-inserted : (a b : ℕ) (cs : List ℕ) → a < b → IsAbove a cs → among b cs ≡ 0 → IsAbove a (inserted b cs)
above-inserted a b [] less rises none = (less, tt)
above-inserted a b (c ∷ cs) less rises none =
    ⊎_elim
    (λ on. subst (IsAbove a) (sym (inserted-on b c cs on)) (rises.0, above-inserted c b cs on rises.1 (omega arith)))
    (λ here. subst (IsAbove a) (sym (inserted-here b c cs here)) (less, (apart b c (omega arith) here, rises.1)))
    (cases_lt c b)

pub rising-inserted : (b : ℕ) (cs : List ℕ) → IsRising cs → among b cs ≡ 0 → IsRising (inserted b cs)
rising-inserted b [] rises none = tt
rising-inserted b (c ∷ cs) rises none =
    ⊎_elim
    (λ on. subst IsRising (sym (inserted-on b c cs on)) (above-inserted c b cs on rises (omega arith)))
    (λ here. subst IsRising (sym (inserted-here b c cs here)) (apart b c (omega arith) here, rises))
    (cases_lt c b)

-- different buffers, each in its place, rise
pub rising-merged : (bs : List ℕ) → ((b : ℕ) → among b bs ≤ 1) → IsRising (merged bs [])
rising-merged [] once = tt
rising-merged (b ∷ bs) once =
    rising-inserted b (merged bs []) (rising-merged bs (λ c. omega (arith, once c)))
    (omega (arith, among-merged b bs [], once b, same-yes b b refl))

above-ordered : (a : ℕ) (cs : List ℕ) → IsFrom a cs → ((b : ℕ) → among b (a ∷ cs) ≤ 1) → IsAbove a cs
above-ordered a [] ordered once = tt
above-ordered a (c ∷ cs) ordered once = (
  apart a c (omega (arith, once a, same-yes a a refl)) ordered.0,
  above-ordered c cs ordered.1
      (λ b. omega (arith, once b)),
)

-- in order, and each once: they rise
pub rising-ordered : (cs : List ℕ) → IsOrdered cs → ((b : ℕ) → among b cs ≤ 1) → IsRising cs
rising-ordered [] ordered once = tt
rising-ordered (c ∷ cs) ordered once = above-ordered c cs ordered once
