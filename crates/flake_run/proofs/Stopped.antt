-- Statuses of runs that served nothing.
use Rattle.std.proofs.Common.{◌≡◌, ◌⊎◌, inl, inr, ℕ, zero, suc, List, [], ◌∷◌, Some, None, map, slice_get, arith, ap}
use Rattle.std.proofs.Common.{refl, subst}
use Rattle.std.specs.List.{AllByRecursion}
use Rattle.flake_base.specs.Told.{WireTold, HostTold}
use Rattle.flake_run.specs.Task.{Job, RunTask}
use Rattle.flake_run.specs.Outside.{outside}
use Rattle.flake_run.specs.Causes.{IsRefusable}
use Rattle.flake_run.proofs.Ran.{IsTask}

-- of the statuses that come with ends none is 2 or 6
pub not_served : {P : Type 0} (status : ℕ) → (status ≡ 2) ⊎ (status ≡ 6) → (status ≡ 0) ⊎ (status ≡ 3) ⊎ (status ≡ 4)
    ⊎ (status ≡ 5) → P
not_served status (inl two) (inl is) = absurd (omega (arith, is, two))
not_served status (inl two) (inr (inl is)) = absurd (omega (arith, is, two))
not_served status (inl two) (inr (inr (inl is))) = absurd (omega (arith, is, two))
not_served status (inl two) (inr (inr (inr is))) = absurd (omega (arith, is, two))
not_served status (inr six) (inl is) = absurd (omega (arith, is, six))
not_served status (inr six) (inr (inl is)) = absurd (omega (arith, is, six))
not_served status (inr six) (inr (inr (inl is))) = absurd (omega (arith, is, six))
not_served status (inr six) (inr (inr (inr is))) = absurd (omega (arith, is, six))

pub not_written : {P : Type 0} (status : ℕ) → (status ≡ 2) ⊎ (status ≡ 6) → (status ≡ 0) ⊎ (status ≡ 3) ⊎ (status ≡ 4)
    → P
not_written status (inl two) (inl is) = absurd (omega (arith, is, two))
not_written status (inl two) (inr (inl is)) = absurd (omega (arith, is, two))
not_written status (inl two) (inr (inr is)) = absurd (omega (arith, is, two))
not_written status (inr six) (inl is) = absurd (omega (arith, is, six))
not_written status (inr six) (inr (inl is)) = absurd (omega (arith, is, six))
not_written status (inr six) (inr (inr is)) = absurd (omega (arith, is, six))

-- accepted words are not refused
pub not_refusable : {W : Type 0} {P : Type 0} (tells : W → WireTold) (task : RunTask) (job : Job) (host : HostTold)
    (wires : List W) → IsTask task job wires → IsRefusable (Some job) (outside host wires tells) → P
not_refusable tells task job host wires t (inl none) = absurd (cc none)
not_refusable tells task job host wires t (inr few) = absurd (omega (arith, few, t.some_wires))

-- what holds of each item holds of the one at a place
pub at_place : {A : Type 0} (P : A → Type 0) (xs : List A) (k : ℕ) (x : A) → AllByRecursion P xs → slice_get xs k
    ≡ Some x → P x
at_place P [] k x all is = absurd (cc is)
at_place P (y ∷ ys) zero x all is = let same : y ≡ x = cc is in subst P same all.0
at_place P (y ∷ ys) (suc k) x all is = at_place P ys k x all.1 is

-- and so it is in a map of the list
pub at_map : {A B : Type 0} (f : A → B) (xs : List A) (k : ℕ) (x : A) → slice_get xs k ≡ Some x → slice_get (map f xs) k
    ≡ Some (f x)
at_map f [] k x is = absurd (cc is)
at_map f (y ∷ ys) zero x is = let same : y ≡ x = cc is in ap (λ z. Some (f z)) same
at_map f (y ∷ ys) (suc k) x is = at_map f ys k x is

pub none_at_map : {A B : Type 0} (f : A → B) (xs : List A) (k : ℕ) → slice_get xs k ≡ None → slice_get (map f xs) k
    ≡ None
none_at_map f [] k is = refl
none_at_map f (y ∷ ys) zero is = absurd (cc is)
none_at_map f (y ∷ ys) (suc k) is = none_at_map f ys k is
