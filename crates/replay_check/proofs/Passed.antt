-- The parts that are passed in search of an entry's: writes, and none is the entry's.
use Rattle.std.proofs.Common.{◌≡◌, ℕ, ◌+◌, ◌<◌, ◌≤◌, ◌⊎◌, ◌&&◌, ⊎_elim, zero, suc, Bool, true, false, cond, ◌==◌, List}
use Rattle.std.proofs.Common.{[], ◌∷◌, ◌++◌, Some, length, map, drop, slice_get, arith, refl, ap, sym, ◌∙◌, subst}
use Rattle.std.proofs.lemmas.Bool.{eq-eqb, eqb-true, cases_Bool}
use Rattle.std.proofs.lemmas.List.{length-map, drop_all}
use Rattle.std.proofs.Math.Bool.{and_assoc}
use Rattle.flake_base.specs.declared.journal.Entry.{Entry}
use Rattle.flake_model.specs.Store.{IsWrite, key_of}
use Rattle.flake_model.specs.Journal.{Step, is_entry, shard_of, in_shard}
use Rattle.flake_model.proofs.Entries.{is_itself}
use Rattle.replay_check.specs.Writes.{writes}
use Rattle.replay_check.specs.InOrder.{behind, IsNext}
use Rattle.replay_check.specs.Places.{step_place, IsFound}
use Rattle.replay_check.specs.declared.place.Place.{Place}
use Rattle.replay_check.proofs.Orders.{is_write, no_write, behind_here, behind_there, step_is, next_here, next_there}
use Rattle.replay_check.proofs.Orders.{next_of, none_next}

-- the parts of which these are left once some were passed
pub data Passes (entry : Entry) : List Step → List Step → Type 0 where
  none : (steps : List Step) → Passes entry steps steps
  one : (steps : List Step) (step : Step) (left : List Step) → IsWrite step.1 → is_entry step.0 entry ≡ false
      → Passes entry steps (step ∷ left) → Passes entry steps left

-- what is next of those that are left is next of all, with the same parts behind it, and the other way round
pub passed_next : (entry : Entry) (steps left : List Step) → Passes entry steps left → IsNext left entry
    → IsNext steps entry
passed_next entry steps _ (none _) is = is
passed_next entry steps left (one _ step _ write other passes) is = passed_next entry steps (step ∷ left) passes
    (next_there step left entry write is)

pub passed_behind : (entry : Entry) (steps left : List Step) → Passes entry steps left → behind entry steps
    ≡ behind entry left
passed_behind entry steps _ (none _) = refl
passed_behind entry steps left (one _ step _ write other passes) = passed_behind entry steps (step ∷ left) passes
    ∙ behind_there entry step left other

pub next_passed : (entry : Entry) (steps left : List Step) → Passes entry steps left → IsNext steps entry
    → IsNext left entry
next_passed entry steps _ (none _) is = is
next_passed entry steps left (one _ step _ write other passes) is =
    (next_of step left entry other (next_passed entry steps (step ∷ left) passes is)).1

-- the step at a place, and those behind it
pub step_at : (shards : ℕ) (places : List Place) (steps : List Step) (k : ℕ) (place : Place)
    → places ≡ map (step_place shards) steps → slice_get places k ≡ Some place
    → (step : Step) × (slice_get steps k ≡ Some step) × (place ≡ step_place shards step)
    × (drop k steps ≡ step ∷ drop (k + 1) steps)
step_at shards places [] k place are is = absurd (cc (are, is))
step_at shards places (step ∷ steps) zero place are is =
    let same : place ≡ step_place shards step = cc (is, ap (λ p. slice_get p 0) are) in
    (step, refl, same, refl)
step_at shards [] (step ∷ steps) (suc k) place are is = absurd (cc (are))
step_at shards (first ∷ places) (step ∷ steps) (suc k) place are is =
    let rest : places ≡ map (step_place shards) steps = cc (are) in
    let found = step_at shards places steps k place rest is in
    let next : suc (k + 1) ≡ suc k + 1 = omega arith in
    (found.0, found.1, found.2, found.3 ∙ ap (λ n. found.0 ∷ drop n (step ∷ steps)) next)

-- a shard's parts, by whether the first belongs there
pub in_shard_here : (shards shard : ℕ) (step : Step) (steps : List Step) → (shard_of shards (key_of step.1) == shard)
    ≡ true → in_shard shards shard (step ∷ steps) ≡ step ∷ in_shard shards shard steps
in_shard_here shards shard step steps is = rw is refl

pub in_shard_there : (shards shard : ℕ) (step : Step) (steps : List Step) → (shard_of shards (key_of step.1) == shard)
    ≡ false → in_shard shards shard (step ∷ steps) ≡ in_shard shards shard steps
in_shard_there shards shard step steps is = rw is refl

-- the parts of a shard from a place on
abbrev pub from_place : ℕ → ℕ → List Step → ℕ → List Step
from_place shards shard steps at = in_shard shards shard (drop at steps)

-- at the place of the entry's part
pub found_here : (shards shard at k : ℕ) (entry : Entry) (places : List Place) (steps : List Step) (place : Place)
    → places ≡ map (step_place shards) steps → slice_get places k ≡ Some place
    → place.shard ≡ shard → is_entry place.entry entry ≡ true → Passes entry (from_place shards shard steps at)
    (from_place shards shard steps k) → IsFound shards shard steps at k entry
found_here shards shard at k entry places steps place are is here same passes =
    let found = step_at shards places steps k place are is in
    let step = found.0 in
    let belongs : (shard_of shards (key_of step.1) == shard) ≡ true = eq-eqb (shard_of shards (key_of step.1)) shard
    (sym (ap (λ (p : Place). p.shard) found.2) ∙ here) in
    let own : is_entry step.0 entry ≡ true = ap (λ (p : Place). is_entry p.entry entry) (sym found.2) ∙ same in
    let left : from_place shards shard steps k ≡ step ∷ from_place shards shard steps (k + 1) =
    ap (in_shard shards shard) found.3 ∙ in_shard_here shards shard step (drop (k + 1) steps) belongs in
    record {
      next = passed_next entry _ _ passes
          (subst (λ s. IsNext s entry) (sym left) (next_here step (from_place shards shard steps (k + 1)) entry own));
      left = sym (passed_behind entry _ _ passes ∙ ap (behind entry) left
          ∙ behind_here entry step (from_place shards shard steps (k + 1)) own);
      operation = step.1;
      step_is = found.1 ∙ ap Some (step_is step entry own);
    }

-- at the place of another part of the shard
other_here : (shards shard at k : ℕ) (entry : Entry) (places : List Place) (steps : List Step) (place : Place)
    → places ≡ map (step_place shards) steps → slice_get places k ≡ Some place
    → place.shard ≡ shard → is_entry place.entry entry ≡ false → Passes entry (from_place shards shard steps at)
    (from_place shards shard steps k)
    → (step : Step) × (writes step.1 ≡ place.is_write) × (is_entry step.0 entry ≡ false)
    × Passes entry (from_place shards shard steps at) (step ∷ from_place shards shard steps (k + 1))
other_here shards shard at k entry places steps place are is here other passes =
    let found = step_at shards places steps k place are is in
    let step = found.0 in
    let belongs : (shard_of shards (key_of step.1) == shard) ≡ true = eq-eqb (shard_of shards (key_of step.1)) shard
    (sym (ap (λ (p : Place). p.shard) found.2) ∙ here) in
    let left : from_place shards shard steps k ≡ step ∷ from_place shards shard steps (k + 1) =
    ap (in_shard shards shard) found.3 ∙ in_shard_here shards shard step (drop (k + 1) steps) belongs in (
      step,
      sym (ap (λ (p : Place). p.is_write) found.2),
      ap (λ (p : Place). is_entry p.entry entry) (sym found.2) ∙ other,
      subst (Passes entry (from_place shards shard steps at)) left passes,
    )

pub refused_here : (shards shard at k : ℕ) (entry : Entry) (places : List Place) (steps : List Step) (place : Place)
    → places ≡ map (step_place shards) steps → slice_get places k ≡ Some place
    → place.shard ≡ shard → is_entry place.entry entry ≡ false → place.is_write ≡ false
    → Passes entry (from_place shards shard steps at) (from_place shards shard steps k)
    → IsNext (from_place shards shard steps at) entry → ⊥
refused_here shards shard at k entry places steps place are is here other read passes next =
    let there = other_here shards shard at k entry places steps place are is here other passes in
    let passed = next_of there.0 (from_place shards shard steps (k + 1)) entry there.2
    (next_passed entry _ _ there.3 next) in
    no_write there.0.1 (there.1 ∙ read) passed.0

pub passed_here : (shards shard at k : ℕ) (entry : Entry) (places : List Place) (steps : List Step) (place : Place)
    → places ≡ map (step_place shards) steps → slice_get places k ≡ Some place
    → place.shard ≡ shard → is_entry place.entry entry ≡ false → place.is_write ≡ true
    → Passes entry (from_place shards shard steps at) (from_place shards shard steps k)
    → Passes entry (from_place shards shard steps at) (from_place shards shard steps (k + 1))
passed_here shards shard at k entry places steps place are is here other write passes =
    let there = other_here shards shard at k entry places steps place are is here other passes in
    one _ there.0 _ (is_write there.0.1 (there.1 ∙ write)) there.2 there.3

-- a part of another shard
pub passed_other : (shards shard at k : ℕ) (entry : Entry) (places : List Place) (steps : List Step) (place : Place)
    → places ≡ map (step_place shards) steps → slice_get places k ≡ Some place
    → (place.shard ≡ shard → ⊥) → Passes entry (from_place shards shard steps at) (from_place shards shard steps k)
    → Passes entry (from_place shards shard steps at) (from_place shards shard steps (k + 1))
passed_other shards shard at k entry places steps place are is there passes =
    let found = step_at shards places steps k place are is in
    let step = found.0 in
    let belongs : (shard_of shards (key_of step.1) == shard) ≡ false =
    ⊎_elim (λ yes. absurd
    (there (ap (λ (p : Place). p.shard) found.2 ∙ eqb-true (shard_of shards (key_of step.1)) shard yes))) (λ no. no)
    (cases_Bool (shard_of shards (key_of step.1) == shard)) in
    subst (Passes entry (from_place shards shard steps at))
    (ap (in_shard shards shard) found.3 ∙ in_shard_there shards shard step (drop (k + 1) steps) belongs) passes

-- behind the last place
pub refused_end : (shards shard at k : ℕ) (entry : Entry) (places : List Place) (steps : List Step)
    → places ≡ map (step_place shards) steps → length places ≤ k
    → Passes entry (from_place shards shard steps at) (from_place shards shard steps k)
    → IsNext (from_place shards shard steps at) entry → ⊥
refused_end shards shard at k entry places steps are within passes next =
    let count : length steps ≤ k = omega (arith, ap length are, length-map steps (step_place shards), within) in
    none_next entry (subst (λ s. IsNext (in_shard shards shard s) entry) (drop_all k steps count)
    (next_passed entry _ _ passes next))

-- the test of an entry, as the code groups it
pub entry_test : (a b : Entry) (is : Bool)
    → is ≡ ((a.session == b.session) && ((a.call == b.call) && (a.part == b.part))) → is_entry a b ≡ is
entry_test a b is same = and_assoc (a.session == b.session) (a.call == b.call) (a.part == b.part) ∙ sym same
