-- Holds of one's own that go, by weights.
use Rattle.std.proofs.Common.{◌≡◌, ℕ, ◌+◌, ◌≤◌, List, sym, ap, ◌∙◌, arith}
use Rattle.view_sums.specs.Total.{total}
use Rattle.pin_core.specs.Holding.{Holding, loose_at}
use Rattle.pinned_pool.specs.Moves.{without_keys}
use Rattle.pinned_pool.proofs.Keys.{total-left_by}
use Rattle.reply_planner.specs.Owned.{AreOwn, bare_all, keys_for, fresh_all}
use Rattle.reply_planner.proofs.Owned.{taken_own, bare-taken_by}

-- staging buffers' holds that go are as fresh, but for fronts
pub own_gone : (weight : Holding → ℕ) (bs : List ℕ) (hs : List Holding)
    → ((b : ℕ) → total (loose_at b) hs ≤ 1) → AreOwn hs bs
    → total weight (without_keys (keys_for bs) (bare_all hs)) + total weight (fresh_all bs) ≡ total weight (bare_all hs)
own_gone weight bs hs once own =
    omega (
      arith,
      total-left_by weight (keys_for bs) (bare_all hs),
      ap (total weight) (sym (bare-taken_by (keys_for bs) hs) ∙ taken_own bs hs once own),
    )
