-- The highest of the sessions' statuses, and whether a session failed.
use Rattle.std.proofs.Common.{◌≡◌, ◌≢◌, ◌≤◌, ◌<◌, ◌⊎◌, inl, inr, ◌||◌, ◌+◌, ℕ, zero, suc, Bool, true, false, List, []}
use Rattle.std.proofs.Common.{◌∷◌, ◌++◌, length, map, max, take, get_or, slice_index_or, arith, refl, sym, ap, ◌∙◌}
use Rattle.std.proofs.Common.{subst, ⊎_elim}
use Rattle.std.specs.List.{AllByRecursion, list_any}
use Rattle.std.proofs.lemmas.Bool.{cases_order}
use Rattle.std.proofs.lemmas.List.{map-append, take_more}
use Rattle.flake_base.specs.declared.session.End.{End}
use Rattle.flake_base.specs.declared.session.End.TheVariants.{Clean, Protocol, Truncated, TooLong, ReadFault, Memory}
use Rattle.flake_base.specs.declared.session.End.TheVariants.{Left}
use Rattle.flake_base.specs.declared.session.SessionEnd.{SessionEnd}
use Rattle.flake_model.specs.Wire.{FaultsAre}
use Rattle.flake_run.specs.Causes.{EitherRose, status_by, highest_by}
use Rattle.flake_run.specs.Outcome.{ways}

pub highest_more : (ways : List End) (way : End) → highest_by (ways ++ way ∷ []) ≡ max (highest_by ways) (status_by way)
highest_more [] way = omega arith
highest_more (first ∷ ways) way = let rest = highest_more ways way in omega (arith, rest)

within : (way : End) → status_by way ≤ 6
within Clean = omega arith
within (Protocol kind place) = omega arith
within (Truncated place) = omega arith
within TooLong = omega arith
within ReadFault = omega arith
within Memory = omega arith
within Left = omega arith

pub highest_within : (ways : List End) → highest_by ways ≤ 6
highest_within [] = omega arith
highest_within (way ∷ ways) = omega (arith, within way, highest_within ways)

-- no session is out of memory where the highest isn't
pub none_is_six : (ways : List End) → highest_by ways ≢ 6 → AllByRecursion (λ way. status_by way ≢ 6) ways
none_is_six [] not = tt
none_is_six (way ∷ ways) not = (
  (λ six. not (omega (arith, six, highest_within ways))),
  none_is_six ways
      (λ six. not (omega (arith, six, within way))),
)

-- whether a session failed, by the list of that
pub any_failed : (ends : List SessionEnd) → list_any (λ (end : SessionEnd). end.failed) ends
    ≡ list_any (λ (b : Bool). b) (map (λ (end : SessionEnd). end.failed) ends)
any_failed [] = refl
any_failed (end ∷ ends) = ap (λ (rest : Bool). end.failed || rest) (any_failed ends)

-- no count of faults rose where none failed
pub none_failed : (failed : List Bool) (olds news : List (ℕ × ℕ)) → list_any (λ (b : Bool). b) failed ≡ false
    → FaultsAre failed olds news → news ≡ olds
none_failed [] olds news none faults = faults
none_failed (one ∷ failed) [] news none faults = absurd faults
none_failed (one ∷ failed) (old ∷ olds) [] none faults = absurd faults
none_failed (true ∷ failed) (old ∷ olds) (new ∷ news) none faults = absurd (cc none)
none_failed (false ∷ failed) (old ∷ olds) (new ∷ news) none faults = let rest =
    none_failed failed olds news none faults.1 in let here : new ≡ old = faults.0 in cc

-- and else one rose
pub some_failed : (failed : List Bool) (olds news : List (ℕ × ℕ)) → list_any (λ (b : Bool). b) failed ≡ true
    → FaultsAre failed olds news
    → (session : ℕ) × (session < length failed)
    × EitherRose (slice_index_or olds session (0, 0)) (slice_index_or news session (0, 0))
some_failed [] olds news some faults = absurd (cc some)
some_failed (one ∷ failed) [] news some faults = absurd faults
some_failed (one ∷ failed) (old ∷ olds) [] some faults = absurd faults
some_failed (true ∷ failed) (old ∷ olds) (new ∷ news) some faults =
    (zero, omega arith, ⊎_elim (λ put. inl put.0) (λ flush. inr flush.1) faults.0)
some_failed (false ∷ failed) (old ∷ olds) (new ∷ news) some faults =
    let rest = some_failed failed olds news some faults.1 in
    (suc rest.0, omega (arith, rest.1), rest.2)

-- one session more
pub highest_step : (ends : List SessionEnd) (k : ℕ) (d : SessionEnd) (status one new : ℕ)
    → status ≡ highest_by (ways (take k ends)) → one ≡ status_by (get_or ends k d).end → new ≡ max status one
    → k < length ends
    → new ≡ highest_by (ways (take (k + 1) ends))
highest_step ends k d status one new before here is within =
    let more : ways (take (k + 1) ends) ≡ ways (take k ends) ++ (get_or ends k d).end ∷ [] =
    ap ways (take_more ends k d within) ∙ map-append (λ (end : SessionEnd). end.end) (take k ends)
    (get_or ends k d ∷ []) in
    let highest = highest_more (ways (take k ends)) (get_or ends k d).end in
    omega (arith, before, here, is, highest, ap highest_by more)

abbrev pub IsHighest : ℕ → Type 0
IsHighest status = (status ≡ 0) ⊎ (status ≡ 3) ⊎ (status ≡ 4) ⊎ (status ≡ 6)

status_is : (way : End) → IsHighest (status_by way)
status_is Clean = inl refl
status_is (Protocol kind place) = inr (inl refl)
status_is (Truncated place) = inr (inl refl)
status_is TooLong = inr (inl refl)
status_is ReadFault = inr (inr (inl refl))
status_is Memory = inr (inr (inr refl))
status_is Left = inl refl

higher : (a b : ℕ) → (max a b ≡ a) ⊎ (max a b ≡ b)
higher a b = by_order (cases_order a b) where
  by_order : (a ≡ b) ⊎ ((a < b) ⊎ (b < a)) → (max a b ≡ a) ⊎ (max a b ≡ b)
  by_order (inl same) = inl (omega (arith, same))
  by_order (inr (inl less)) = inr (omega (arith, less))
  by_order (inr (inr more)) = inl (omega (arith, more))

pick : (a b : ℕ) → (max a b ≡ a) ⊎ (max a b ≡ b) → IsHighest a → IsHighest b → IsHighest (max a b)
pick a b (inl is) left right = subst IsHighest (sym is) left
pick a b (inr is) left right = subst IsHighest (sym is) right

pub highest_is : (all : List End) → IsHighest (highest_by all)
highest_is [] = inl refl
highest_is (way ∷ rest) = pick (status_by way) (highest_by rest) (higher (status_by way) (highest_by rest))
    (status_is way) (highest_is rest)
