-- Seats of a new pool.
use Rattle.std.proofs.Common.{◌≡◌, ℕ, ◌+◌, List, [], ◌∷◌, ap, ◌∙◌, subst, arith}
use Rattle.view_sums.specs.Total.{total}
use Rattle.view_sums.proofs.Sums.{total-map}
use Rattle.pin_core.specs.Holding.{Holding, fresh}
use Rattle.pinned_pool.specs.Claimed.{with_claimed}
use Rattle.reply_planner.specs.Owned.{bare, bare_all, fresh_all, keys_for}
use Rattle.reply_planner.proofs.Owned.{bare-fresh}
use Rattle.pin_core.specs.declared.sizes.Sizes.{Sizes}
use Rattle.pinned_pool.specs.Moves.{split_new}
use Rattle.pinned_pool.specs.Sought.{Sought}
use Rattle.pinned_pool.specs.Views.{opener}
use Rattle.pinned_pool.specs.declared.pool.NoBuffer.{NoBuffer}
use Rattle.pinned_pool.specs.declared.view.View.{View}
use Rattle.order_book.specs.Pages.{SessionList}
use Rattle.reply_planner.specs.Stages.{IsStageOpened, WhyUnopened}
use Rattle.reply_planner.specs.declared.error.OpenError.{OpenError}
use Rattle.command_exec.specs.Passes.{PassView, pass_of}
use Rattle.shard_core.specs.Stock.{IsIdle}
use Rattle.serve_model.specs.Demand.{stage_row}
use Rattle.serve_model.proofs.Seats.{idle_starts}
use Rattle.run_resources.specs.Opened.{session_credits, IsNewPass}
use Rattle.run_resources.specs.Passing.{SeatRefused}

idle_as : (v : View) (credits : ℕ) → v ≡ opener credits → IsIdle v
idle_as v credits is =
    record { claims = ap (λ (w : View). w.claims) is; looks = ap (λ (w : View). w.looks) is }

-- a new pass, with the seat that was split off for it
pub new_pass : (z : Sizes) (main seat : View) (mine : SessionList) (threshold : ℕ) (pass : PassView)
    → seat ≡ split_new [] session_credits main → mine.told ≡ []
    → pass ≡ pass_of mine pass.seat pass.stage pass.stage threshold → IsStageOpened z pass.stage seat pass.seat
    → Sought z stage_row 0 seat pass.seat → IsNewPass z pass × (pass.threshold ≡ threshold)
new_pass z main seat mine threshold pass seat_is untold pass_is opened sought = (
  record {
    untold = ap (λ (p : PassView). p.list.told) pass_is ∙ untold;
    all_free = ap (λ (p : PassView). p.free) pass_is;
    opened = subst (λ (v : View). IsStageOpened z pass.stage v pass.seat) seat_is opened;
    sought = idle_starts z stage_row 0 seat pass.seat (idle_as seat session_credits seat_is) sought;
  },
  ap (λ (p : PassView). p.threshold) pass_is,
)

pub refused_pass : (z : Sizes) (main seat refused : View) (none : NoBuffer)
    → seat ≡ split_new [] session_credits main → WhyUnopened z (OpenError.NoBuffer none) seat refused
    → Sought z stage_row 1 seat refused → SeatRefused z refused
refused_pass z main seat refused none seat_is why sought = record {
  sought = idle_starts z stage_row 1 seat refused (idle_as seat session_credits seat_is) sought;
  credits = why.keeps.credits ∙ ap (λ (v : View). v.credits) seat_is;
}

claimed_weight : (weight : Holding → ℕ) (bs : List ℕ) (hs : List Holding)
    → total weight (with_claimed (keys_for bs) hs) ≡ total weight (fresh_all bs) + total weight hs
claimed_weight weight [] hs = omega arith
claimed_weight weight (b ∷ bs) hs = omega (arith, claimed_weight weight bs (fresh b ∷ hs))

-- a seat that claimed a stage alone holds that stage
pub stage_alone : (z : Sizes) (stage : List ℕ) (credits : ℕ) (seat : View) → IsStageOpened z stage (opener credits) seat
    → (weight : Holding → ℕ) → total weight (bare_all seat.holds) ≡ total weight (fresh_all stage)
stage_alone z stage credits seat is weight =
    let plain : Holding → ℕ = λ h. weight (bare h) in
    let a = total-map weight bare seat.holds in
    let b = is.holds plain in
    let d = claimed_weight plain stage [] in
    let e = total-map weight bare (fresh_all stage) in
    let f = ap (total weight) (bare-fresh stage) in
    omega (arith, a, b, d, e, f)
