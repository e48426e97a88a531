-- A seat whose stage was opened and given back.
use Rattle.std.proofs.Common.{◌≡◌, ℕ, ◌+◌, List, [], ◌∷◌, refl, ap, ◌∙◌, arith}
use Rattle.view_sums.specs.Total.{total}
use Rattle.view_sums.proofs.Sums.{total-map}
use Rattle.pin_core.specs.Holding.{Holding, fresh}
use Rattle.pinned_pool.specs.Claimed.{with_claimed}
use Rattle.reply_planner.specs.Owned.{bare, bare_all, fresh_all, keys_for}
use Rattle.session_pass.specs.Ended.{EndsAsItBegan, EndsWithNone}

claimed_weight : (weight : Holding → ℕ) (stage : List ℕ) (hs : List Holding)
    → total weight (with_claimed (keys_for stage) hs) ≡ total weight (fresh_all stage) + total weight hs
claimed_weight weight [] hs = omega arith
claimed_weight weight (b ∷ stage) hs = omega (arith, claimed_weight weight stage (fresh b ∷ hs))

bare_weight : (weight : Holding → ℕ) (stage : List ℕ)
    → total (λ (h : Holding). weight (bare h)) (fresh_all stage) ≡ total weight (fresh_all stage)
bare_weight weight [] = refl
bare_weight weight (b ∷ stage) = ap (λ n. weight (fresh b) + n) (bare_weight weight stage)

pub ends_as_it_began : EndsAsItBegan
ends_as_it_began z stage before opened after had weight =
    let bared : Holding → ℕ = λ h. weight (bare h) in
    omega (
      arith,
      had.holds weight,
      total-map weight bare opened.holds,
      total-map weight bare before.holds,
      had.is_opened.holds bared,
      claimed_weight bared stage before.holds,
      bare_weight weight stage,
    )

none_left : (hs : List Holding) → total (λ _. 1) (bare_all hs) ≡ 0 → hs ≡ []
none_left [] none = refl
none_left (h ∷ hs) none = absurd (omega arith)

pub ends_with_none : EndsWithNone
ends_with_none z stage before opened after had none =
    none_left after.holds
    (ends_as_it_began z stage before opened after had (λ _. 1)
    ∙ ap (λ (hs : List Holding). total (λ _. 1) (bare_all hs)) none)
