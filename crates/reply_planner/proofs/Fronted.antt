-- Holds that stand before others.
use Rattle.std.proofs.Common.{◌≡◌, ℕ, List, [], ◌∷◌, ◌++◌, cond, map, sym, refl, ap, ◌∙◌, arith}
use Rattle.view_sums.specs.Total.{total, same}
use Rattle.view_sums.proofs.Sums.{total-map, total-append}
use Rattle.pin_core.specs.Holding.{Holding, Key, at}
use Rattle.pinned_pool.specs.Views.{among}
use Rattle.pinned_pool.specs.Moves.{means, same_key, hold_key, holds_for, without_keys, meant_count, HasHolds}
use Rattle.pinned_pool.specs.Moves.{loose_key}
use Rattle.pinned_pool.proofs.Keys.{taken_by-keys}
use Rattle.pinned_pool.proofs.AfterSteps.{without-own}
use Rattle.reply_planner.specs.Owned.{bare, bare_all, keys_for}

times-bare : (k : Key) (hs : List Holding) → meant_count k (bare_all hs) ≡ meant_count k hs
times-bare k hs = total-map (λ h. cond (means k h) 1 0) bare hs

-- they are those that their keys mean
pub left_by-front : (front hs : List Holding) → without_keys (map hold_key front) (bare_all front ++ hs) ≡ hs
left_by-front [] hs = refl
left_by-front (h ∷ front) hs = ap (without_keys (map hold_key front)) (without-own (bare h) (bare_all front ++ hs))
    ∙ left_by-front front hs

pub has_front : (front hs gs : List Holding) → bare_all hs ≡ bare_all front ++ gs → HasHolds (map hold_key front) hs
has_front front hs gs parts = λ k.
    omega (
      arith,
      total-map (λ j. cond (same_key k j) 1 0) hold_key front,
      times-bare k front,
      times-bare k hs,
      ap
          (meant_count k) parts,
      total-append (λ h. cond (means k h) 1 0) (bare_all front) gs,
    )

-- how many of the holds that are taken out are of a buffer
pub at-taken : (b : ℕ) (bs : List ℕ) (hs : List Holding) → HasHolds (keys_for bs) hs
    → total (at b) (holds_for (keys_for bs) hs) ≡ among b bs
at-taken b bs hs has =
    sym (total-map (λ (k : Key). same k.buffer b) hold_key (holds_for (keys_for bs) hs))
    ∙ ap (total (λ (k : Key). same k.buffer b)) (taken_by-keys (keys_for bs) hs has)
    ∙ total-map (λ (k : Key). same k.buffer b) loose_key bs
