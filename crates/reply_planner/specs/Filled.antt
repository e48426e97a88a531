-- Staging buffers that were filled.
use Rattle.std.specs.Prelude.{◌≡◌, ℕ, ◌+◌, ◌/◌, ◌%◌, ◌*◌, ◌<◌, ◌≤◌, List, length, take, drop, slice_index}
use Rattle.pinned_pool.specs.Moves.{front_of}
use Rattle.pinned_pool.specs.declared.view.View.{View}
use Rattle.reply_layout.specs.Layout.{staging_limit}
use Rattle.reply_planner.specs.Owned.{bare_all}
use Rattle.reply_planner.specs.Places.{buffer_bytes}

-- the text lies in these buffers, and nothing changed but fronts
pub record IsFilledWith (text staged : List ℕ) (old new : View) : Type 0 where
  pub text_is : (k n : ℕ) → k % staging_limit + n ≤ staging_limit → k + n ≤ length text
      → buffer_bytes new.holds (slice_index staged (k / staging_limit)) (k % staging_limit) n ≡ take n (drop k text)
  pub long : (k n : ℕ) → k % staging_limit + n ≤ staging_limit → k + n ≤ length text → 0 < n
      → k % staging_limit + n ≤ 8 * length (front_of (slice_index staged (k / staging_limit)) new.holds)
  pub holds : bare_all new.holds ≡ bare_all old.holds
  pub credits : new.credits ≡ old.credits
  pub claims : new.claims ≡ old.claims
  pub looks : new.looks ≡ old.looks
  pub returns : new.returns ≡ old.returns
  pub lasts : new.lasts ≡ old.lasts
