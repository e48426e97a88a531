-- The parts that entries leave, in order or not.
use Rattle.std.proofs.Common.{◌≡◌, ℕ, ◌+◌, ◌<◌, ◌≤◌, ◌⊎◌, ⊎_elim, inl, inr, zero, suc, Bool, true, false, cond, List}
use Rattle.std.proofs.Common.{[], ◌∷◌, ◌++◌, Some, None, arith, refl, ap, sym, ◌∙◌, subst}
use Rattle.std.proofs.lemmas.Bool.{cases_Bool}
use Rattle.std.specs.List.{AllByRecursion}
use Rattle.flake_base.specs.declared.journal.Entry.{Entry}
use Rattle.flake_model.specs.Store.{Operation, set, append, IsWrite}
use Rattle.flake_model.specs.Journal.{Step, is_entry, IsServed, none, next, left_out}
use Rattle.flake_model.proofs.Entries.{entry_is, is_itself}
use Rattle.replay_check.specs.Writes.{writes}
use Rattle.replay_check.specs.InOrder.{behind, steps_behind, AreWrites, IsNext}
use Rattle.replay_check.proofs.Rising.{Later, AreRising, not_before}

pub is_write : (operation : Operation) → writes operation ≡ true → IsWrite operation
is_write (set when asks key bytes) is = tt
is_write (append key bytes) is = tt
is_write operation is = absurd (cc (is))

pub no_write : (operation : Operation) → writes operation ≡ false → IsWrite operation → ⊥
no_write (set when asks key bytes) is write = absurd (cc (is))
no_write (append key bytes) is write = absurd (cc (is))
no_write operation is write = write

-- the parts behind an entry's, by whether the first is the entry's
pub behind_here : (entry : Entry) (step : Step) (steps : List Step) → is_entry step.0 entry ≡ true
    → behind entry (step ∷ steps) ≡ steps
behind_here entry step steps is = rw is refl

pub behind_there : (entry : Entry) (step : Step) (steps : List Step) → is_entry step.0 entry ≡ false
    → behind entry (step ∷ steps) ≡ behind entry steps
behind_there entry step steps is = rw is refl

-- a step that is the entry's
pub step_is : (step : Step) (entry : Entry) → is_entry step.0 entry ≡ true → step ≡ (entry, step.1)
step_is step entry is = let same = entry_is step.0 entry is in λ i. (same i, step.1)

-- the entry's part comes first
pub next_here : (step : Step) (steps : List Step) (entry : Entry) → is_entry step.0 entry ≡ true
    → IsNext (step ∷ steps) entry
next_here step steps entry is = record {
  between = [];
  operation = step.1;
  more = steps;
  steps_are = ap (λ s. s ∷ steps) (step_is step entry is);
  writes = tt;
}

-- a write before it
pub next_there : (step : Step) (steps : List Step) (entry : Entry) → IsWrite step.1 → IsNext steps entry
    → IsNext (step ∷ steps) entry
next_there step steps entry write is = record {
  between = step ∷ is.between;
  operation = is.operation;
  more = is.more;
  steps_are = ap (λ s. step ∷ s) is.steps_are;
  writes = (write, is.writes);
}

-- another part can be passed only where it is a write
pub next_of : (step : Step) (steps : List Step) (entry : Entry) → is_entry step.0 entry ≡ false
    → IsNext (step ∷ steps) entry → IsWrite step.1 × IsNext steps entry
next_of step steps entry other is = by is.between is.steps_are is.writes where
  by : (between : List Step) → step ∷ steps ≡ between ++ (entry, is.operation) ∷ is.more → AreWrites between
      → IsWrite step.1 × IsNext steps entry
  by [] are writes =
      let same : step ≡ (entry, is.operation) = cc in
      absurd (cc (other, ap (λ (s : Step). is_entry s.0 entry) same, is_itself entry))
  by (first ∷ between) are writes =
      let same : first ≡ step = cc in
      let rest : steps ≡ between ++ (entry, is.operation) ∷ is.more = cc in (
        subst (λ (s : Step). IsWrite s.1) same writes.0,
        record {
          between = between;
          operation = is.operation;
          more = is.more;
          steps_are = rest;
          writes = writes.1;
        },
      )

pub none_next : (entry : Entry) → IsNext [] entry → ⊥
none_next entry is = by is.between is.steps_are where
  by : (between : List Step) → [] ≡ between ++ (entry, is.operation) ∷ is.more → ⊥
  by [] are = cc
  by (first ∷ between) are = cc

-- parts that are all writes need no entry, and only those
pub unserved : (steps : List Step) → AreWrites steps → IsServed steps []
unserved [] writes = none
unserved (step ∷ steps) writes = left_out step steps [] writes.0 (unserved steps writes.1)

pub only_writes : (steps : List Step) → IsServed steps [] → AreWrites steps
only_writes [] none = tt
only_writes (step ∷ steps) (left_out _ _ _ write served) = (write, only_writes steps served)

-- the first entry is next
pub first_is_next : (steps : List Step) (entry : Entry) (entries : List Entry) → IsServed steps (entry ∷ entries)
    → IsNext steps entry
first_is_next [] entry entries served = elim served [ ]
first_is_next (step ∷ steps) _ entries (next _ _ _ served) = next_here step steps step.0 (is_itself step.0)
first_is_next (step ∷ steps) entry entries (left_out _ _ _ write served) = next_there step steps entry write
    (first_is_next steps entry entries served)

-- an entry that is next, and the others behind it
pub served_by : (steps : List Step) (entry : Entry) (entries : List Entry) → IsNext steps entry
    → IsServed (behind entry steps) entries → IsServed steps (entry ∷ entries)
served_by [] entry entries is served = absurd (none_next entry is)
served_by (step ∷ steps) entry entries is served = ⊎_elim
    (λ here.
    let rest = subst (λ s. IsServed s entries) (behind_here entry step steps here) served in
    subst (λ e. IsServed (step ∷ steps) (e ∷ entries)) (entry_is step.0 entry here) (next step steps entries rest))
    (λ there.
    let passed = next_of step steps entry there is in
    let rest = subst (λ s. IsServed s entries) (behind_there entry step steps there) served in
    left_out step steps (entry ∷ entries) passed.0 (served_by steps entry entries passed.1 rest))
    (cases_Bool (is_entry step.0 entry))

-- an entry whose part comes later is none before it
later_entry : (first : Step) (steps : List Step) (entry : Entry) (entries : List Entry)
    → AllByRecursion (Later first) steps → IsServed steps (entry ∷ entries) → is_entry first.0 entry ≡ false
later_entry first [] entry entries all served = elim served [ ]
later_entry first (step ∷ steps) _ entries all (next _ _ _ served) = not_before first.0 step.0 all.0
later_entry first (step ∷ steps) entry entries all (left_out _ _ _ write served) =
    later_entry first steps entry entries all.1 served

-- behind the part of the first entry stand those of the others
pub served_behind : (steps : List Step) (entry : Entry) (entries : List Entry) → AreRising steps
    → IsServed steps (entry ∷ entries) → IsServed (behind entry steps) entries
served_behind [] entry entries rising served = elim served [ ]
served_behind (step ∷ steps) _ entries rising (next _ _ _ served) = subst (λ s. IsServed s entries)
    (sym (behind_here step.0 step steps (is_itself step.0))) served
served_behind (step ∷ steps) entry entries rising (left_out _ _ _ write served) =
    subst (λ s. IsServed s entries)
    (sym (behind_there entry step steps (later_entry step steps entry entries rising.0 served)))
    (served_behind steps entry entries rising.1 served)

pub rising_behind : (entry : Entry) (steps : List Step) → AreRising steps → AreRising (behind entry steps)
rising_behind entry [] rising = tt
rising_behind entry (step ∷ steps) rising = ⊎_elim
    (λ here. subst AreRising (sym (behind_here entry step steps here)) rising.1)
    (λ there. subst AreRising (sym (behind_there entry step steps there)) (rising_behind entry steps rising.1))
    (cases_Bool (is_entry step.0 entry))

-- entries behind others
pub served_left : (steps : List Step) (some more : List Entry) → AreRising steps → IsServed steps (some ++ more)
    → IsServed (steps_behind steps some) more
served_left steps [] more rising served = served
served_left steps (entry ∷ some) more rising served = served_left (behind entry steps) some more
    (rising_behind entry steps rising) (served_behind steps entry (some ++ more) rising served)

pub left_by-append : (steps : List Step) (some : List Entry) (entry : Entry) → steps_behind steps (some ++ entry ∷ [])
    ≡ behind entry (steps_behind steps some)
left_by-append steps [] entry = refl
left_by-append steps (first ∷ some) entry = left_by-append (behind first steps) some entry
