-- The wrong outcome claims and misses more large buffers than there is demand for.
use Rattle.std.proofs.Common.{◌≡◌, ℕ, List, [], ◌∷◌, refl, lit≤, arith}
use Rattle.pin_core.specs.declared.class.Class.TheVariants.{Small, Large}
use Rattle.pinned_pool.specs.Classes.{buffers_in}
use Rattle.pinned_pool.specs.Views.{looked_at}
use Rattle.flake_model.specs.Run.{all_commands, missing_writes}
use Rattle.serve_model.specs.Demand.{demand_of}
use Rattle.serve_model.specs.Mixed.{mixed_pool, mixed_session, mixed_journal, mixed_end, MixedIsNone}
use Rattle.serve_model.specs.Mixed.{long_session, small_end, SmallIsNone, empty_session, EmptyIsNone}
use Rattle.serve_model.specs.Shown.{missing_in_class, missing_in_need}

demand : (given : List ℕ) (taken : ℕ) → demand_of Large (all_commands (mixed_session given taken ∷ [])) ≡ 2
demand given taken = refl

claimed : buffers_in mixed_pool Large mixed_end.seat.claims ≡ 1
claimed = refl

looked : looked_at 0 mixed_end.seat.looks ≡ 0
looked = refl

needed : (given : List ℕ) (taken : ℕ) → missing_in_class Small (long_session given taken ∷ []) mixed_journal ≡ 0
needed given taken = refl

not_looked : looked_at 1 small_end.seat.looks ≡ 0
not_looked = refl

pub small_is_none : (given : List ℕ) (taken : ℕ) → SmallIsNone given taken
small_is_none given taken = record {
  missing = refl;
  not_so = λ threshold counted.
      let no : ⊥ = omega (
        arith,
        counted.missed_are,
        counted.needed Small,
        needed given taken,
        counted.looks_large 1 (lit≤ tt) (lit≤ tt),
        not_looked,
      ) in
      no;
}

in_need : (given : List ℕ) (taken : ℕ) → missing_in_need (empty_session given taken ∷ []) mixed_journal ≡ 1
in_need given taken = refl

pub empty_is_none : (given : List ℕ) (taken : ℕ) → EmptyIsNone given taken
empty_is_none given taken =
    let missing : missing_writes (empty_session given taken ∷ []) mixed_journal ≡ 2 = refl in
    record {
      missing = missing;
      not_so = λ threshold counted.
          let no : ⊥ = omega (arith, counted.all_need, in_need given taken, missing) in
          no;
    }

pub mixed_is_none : (given : List ℕ) (taken : ℕ) → MixedIsNone given taken
mixed_is_none given taken = record {
  missing = refl;
  not_so = λ threshold counted.
      let no : ⊥ = omega (
        arith,
        counted.claims Large,
        counted.missed_are,
        counted.looks_small 0 (lit≤ tt),
        demand given taken,
        claimed,
        looked,
      ) in
      no;
  not_far = λ threshold sessions journal counted.
      let no : ⊥ = omega (arith, counted.nearby.0) in
      no;
}
