-- What a plan becomes.
use Rattle.std.specs.Prelude.{◌≡◌, ℕ, ◌+◌, ◌≤◌, List, ◌++◌, length, take}
use Rattle.pin_core.specs.declared.sizes.Sizes.{Sizes}
use Rattle.pinned_pool.specs.Moves.{without_keys}
use Rattle.pinned_pool.specs.declared.view.View.{View}
use Rattle.reply_layout.specs.Layout.{placings_of, layout_of, pinned_of, staging_buffers_for}
use Rattle.reply_layout.specs.Gathered.{text_of_pieces}
use Rattle.reply_planner.specs.Owned.{bare_all, keys_for}
use Rattle.reply_planner.specs.Parcels.{Sent}
use Rattle.reply_planner.specs.Places.{buffer_addresses}
use Rattle.reply_planner.specs.Laid.{pieces_in}
use Rattle.reply_planner.specs.Planned.{Planned, copied_in, paid_in}

-- how many staging buffers the copied bytes need
abbrev pub used_of : Planned → ℕ
used_of p = staging_buffers_for (copied_in p)

-- the parcel is the plan's pieces, laid out over its staging buffers
pub record IsSealed (z : Sizes) (p : Planned) (call : ℕ) (parcel : Sent) : Type 0 where
  pub segments : parcel.segments
      ≡ layout_of (buffer_addresses z p.base.stage) (placings_of p.base.threshold (pieces_in p.taken))
  pub text : parcel.text ≡ text_of_pieces (pieces_in p.taken)
  pub call_is : parcel.call ≡ call
  pub staged : parcel.staged ≡ take (used_of p) p.base.stage
  pub pinned : parcel.pinned ≡ pinned_of (placings_of p.base.threshold (pieces_in p.taken))
  pub paid : parcel.paid ≡ paid_in p
  -- its need was enough
  pub in_stage : used_of p ≤ length p.base.stage
  pub in_ring : length parcel.segments ≤ p.base.descriptors

-- what the seat is left with, once the parcel has its holds and a credit
pub record Keeps (p : Planned) (staged : List ℕ) (old new : View) : Type 0 where
  pub holds : bare_all new.holds ≡ without_keys (keys_for staged) (bare_all old.holds)
  pub credits : new.credits + 1 + paid_in p ≡ old.credits + p.base.descriptors + 3
  pub claims : new.claims ≡ old.claims
  pub looks : new.looks ≡ old.looks
  pub returns : new.returns ≡ old.returns
  pub lasts : new.lasts ≡ old.lasts

-- the seat has again what it had before the plan was started
pub record Cancels (p : Planned) (old new : View) : Type 0 where
  pub holds : new.holds ≡ old.holds
  pub credits : new.credits ≡ old.credits + p.base.descriptors + 3
  pub claims : new.claims ≡ old.claims
  pub looks : new.looks ≡ old.looks
  pub returns : new.returns ≡ old.returns + paid_in p
  pub lasts : (ended : List ℕ) × (new.lasts ≡ old.lasts ++ ended)
