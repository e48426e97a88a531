-- Each step of a place keeps its rule.
use Rattle.std.proofs.Common.{◌≡◌, ℕ, List, [], ◌∷◌, length, get_or, set, sym, refl, ap, ◌∙◌, subst, eqb, arith, Option}
use Rattle.std.proofs.Common.{None, Some, length-set, get_or-set_same}
use Rattle.std.specs.Prelude.{⊤}
use mathlib.Core.Logic.{dite}
use mathlib.Core.Option as home
use native.Mathlib.Decide.{ℕ_discrete}
use prog.Atomic.{either}
use Rattle.atomic_table.specs.Table.{Me, State, Act, keeps, takes, gives, Valid, stepped, carried_after, rest, Allows}
use Rattle.atomic_table.proofs.Lists.{set_here, exchanged}
use Rattle.handover_slot.specs.Lying.{IsKept, HasOnly, Takes}

module _ {T : Type 0} (fits : T → Type 0) where
  -- nothing is said of the slot while the value is lent
  lent : (words : List ℕ) (homes : List (home.Option (Option T))) → length words ≡ 1 → IsKept fits (set words 0 1) homes
  lent words homes one =
      let is : get_or (set words 0 1) 0 0 ≡ 1 = get_or-set_same words 0 1 0 (omega (arith, one)) in
      record {
        one = length-set words 0 1 ∙ one;
        empty = λ e. absurd (omega (arith, is, e));
        full = λ e. absurd (omega (arith, is, e));
      }

-- a word that is written as it was
same-word : (words : List ℕ) → length words ≡ 1 → set words 0 (get_or words 0 0) ≡ words
same-word [] one = refl
same-word (word ∷ words) one = refl

module _ {T V : Type 0} (fits : T → Type 0) where
  abbrev Rule : State (Option T) V → Type 0
  Rule s = IsKept fits s.words s.homes

  -- the word becomes 1 where it is as expected
  takes-value : (n id : ℕ) (expected : ℕ) (me : Me (Option T) V) → me.1 ≡ []
      → Allows Rule n id me 0 (λ found. either (eqb found expected) 1 found) (Takes fits expected)
  takes-value n id expected me none s kept wide at low =
      let word = get_or s.words 0 0 in
      exchanged word expected 1 (λ to. (w : V) × (a : Act (Option T)) × Valid s.homes me.1 a
      × Rule (stepped s 0 to id me.1 w a) × Takes fits expected word (w, carried_after me.1 a))
      (λ is. dite (ℕ_discrete word 0)
      (λ new. (
        me.0,
        takes 0 None,
        kept.empty new,
        lent fits s.words _ kept.one,
        record { empty = λ _ _. ap (λ l. (0, None) ∷ l) none; full = λ e two. absurd (omega (arith, is, new, two)) },
      ))
      (λ old. dite (ℕ_discrete word 2)
      (λ here. let t = kept.full here in (
        me.0,
        takes 0 (Some t.0),
        t.1,
        lent fits s.words _ kept.one,
        record {
          empty = λ e zero. absurd (omega (arith, is, here, zero));
          full = λ _ _. (t.0, ap (λ l. (0, Some t.0) ∷ l) none, t.2);
        },
      ))
      (λ away. (
        me.0,
        keeps,
        tt,
        lent fits s.words _ kept.one,
        record { empty = λ e zero. absurd (old (is ∙ zero)); full = λ e two. absurd (away (is ∙ two)) },
      ))))
      (λ other. (
        me.0,
        keeps,
        tt,
        subst (λ ws. IsKept fits ws s.homes) (sym (same-word s.words kept.one)) kept,
        record { empty = λ e _. absurd (other e); full = λ e _. absurd (other e) },
      ))

  pub gives-value : (id : ℕ) (me : Me (Option T) V) (value : T) → HasOnly (Some value) me → fits value
      → Allows Rule 1 id me 0 (λ _. 2) (λ _ _. ⊤)
  gives-value id me value has ok =
      subst (λ (x : Me (Option T) V). Allows Rule 1 id x 0 (λ _. 2) (λ _ _. ⊤)) (λ i. (me.0, sym has i))
      (λ s kept wide _ _.
      let is : get_or (set s.words 0 2) 0 0 ≡ 2 = get_or-set_same s.words 0 2 0 (omega (arith, kept.one)) in
      let lies = set_here s.homes 0 (home.some (Some value)) (omega (arith, wide)) in (
        me.0,
        gives,
        tt,
        record {
          one = length-set s.words 0 2 ∙ kept.one;
          empty = λ e. absurd (omega (arith, is, e));
          full = λ _. (value, lies, ok);
        },
        tt,
      ))

-- by a seat that came just now
pub takes-fitting : {T V : Type 0} (fits : V → T → Type 0) (key : V) (n id : ℕ) (expected : ℕ) (me : Me (Option T) V)
    → me.1 ≡ [] → me ≡ (key, [])
    → Allows (λ s. IsKept (fits key) s.words s.homes) n id me 0 (λ found. either (eqb found expected) 1 found)
    (Takes (fits me.0) expected)
takes-fitting {T} {V} fits key n id expected me none came =
    let same : key ≡ me.0 = ap (λ (m : Me (Option T) V). m.0) (sym came) in
    subst (λ (k : V). Allows (λ (s : State (Option T) V). IsKept (fits k) s.words s.homes) n id me 0
    (λ found. either (eqb found expected) 1 found) (Takes (fits me.0) expected))
    (sym same) (takes-value (fits me.0) n id expected me none)

module _ {T V : Type 0} where
  -- what is in the slot that is out
  pub holds-one : (me : Me (Option T) V) (held : Option T) → HasOnly held me → (old : Option T)
      × (me.1 ≡ (0, old) ∷ rest me.1)
  holds-one me held only = (held, only ∙ ap (λ (xs : List (ℕ × Option T)). (0, held) ∷ rest xs) (sym only))

  -- and what is there once it was exchanged
  pub holds-then : (old new : Me (Option T) V) (held next : Option T) → HasOnly held old
      → new ≡ (old.0, (0, next) ∷ rest old.1) → HasOnly next new
  holds-then old new held next only is =
      ap (λ (me : Me (Option T) V). me.1) is ∙ ap (λ (xs : List (ℕ × Option T)). (0, next) ∷ rest xs) only
