-- The end of a session.
use Rattle.std.proofs.Common.{◌≡◌, ℕ, List, [], ◌∷◌, ◌++◌, length, Bool, true, sym, refl, ap, ◌∙◌, append-nil}
use Rattle.std.proofs.Common.{length-append, arith}
use Rattle.atomic_table.specs.Seated.{TableId}
use Rattle.view_sums.specs.Total.{total}
use Rattle.pin_core.specs.declared.sizes.Sizes.{Sizes}
use Rattle.pinned_pool.specs.Named.{IsSeat}
use Rattle.pinned_pool.specs.declared.view.View.{View}
use Rattle.order_book.specs.Pages.{SessionList}
use Rattle.reply_planner.specs.Owned.{bare_all, fresh_all, keys_for}
use Rattle.reply_planner.specs.Parcels.{Sent}
use Rattle.reply_planner.specs.Stages.{IsClosed}
use Rattle.reply_planner.proofs.Owned.{bare-left_by}
use Rattle.tx_ring.specs.Moves.{closing}
use Rattle.tx_ring.specs.Shown.{closed_ring, closed_view}
use Rattle.tx_ring.specs.declared.closed.ClosedDriver.{ClosedDriver}
use Rattle.tx_ring.specs.declared.view.DriverView.{DriverView}
use Rattle.command_exec.specs.Passes.{PassView, IsPass}
use Rattle.session_pass.specs.Views.{SessionView, whole_view}
use Rattle.session_pass.specs.Waiting.{waiting}
use Rattle.session_pass.specs.Kept.{IsSessionSound, holds_paid}
use Rattle.session_pass.specs.Finished.{IsSessionDone}
use Rattle.session_pass.specs.Refused.{HasReaped}
use Rattle.session_pass.specs.Ends.{Finishes}
use Rattle.session_pass.specs.declared.finish.Finish.{Finish}
use Rattle.session_pass.specs.declared.finish.Finish.TheVariants.{Done, NotYet}
use Rattle.session_pass.proofs.Rooms.{reaps_then}
use Rattle.session_pass.proofs.Filters.{filter_all, each_all}
use Rattle.session_pass.proofs.Weights.{own_gone}
use Rattle.session_pass.proofs.With.{With, with_front}

no_more : (xs ys zs : List Sent) → zs ≡ xs ++ ys → length zs ≡ length xs → zs ≡ xs ++ []
no_more xs [] zs front same = front
no_more xs (y ∷ ys) zs front same = absurd (omega (arith, ap length front, length-append xs (y ∷ ys)))

module _ (z : Sizes) (pass : PassView) (opened : View) (ring : TableId) (d : DriverView Sent) (stopped : Bool)
    (seat : View) (mine : SessionList) (closed : ClosedDriver Sent) where
  pub all_done : IsPass z pass → IsSeat z pass.seat → IsSessionSound (whole_view pass opened ring d stopped)
      → length d.posted ≡ length d.reaped → (closed_ring closed ≡ ring) × (closed_view closed ≡ closing d)
      → IsClosed pass.free pass.seat seat → mine ≡ pass.list
      → IsSessionDone (whole_view pass opened ring d stopped) seat mine closed
  all_done valid live is all shut given list =
      let s = whole_view pass opened ring d stopped in
      let front : d.posted ≡ d.reaped ++ [] = no_more d.reaped (waiting s 0) d.posted is.front all in
      let reaped : d.reaped ≡ d.posted = sym (front ∙ append-nil d.reaped) in
      let now : With s [] = with_front s [] front is in
      let free : pass.free ≡ pass.stage = now.free_is ∙ filter_all (λ b. true) pass.stage
      (each_all (λ b. true ≡ true) (λ b. refl) pass.stage) in
      record {
        list = list;
        ring = shut.0;
        posted = ap (λ (v : DriverView Sent). v.posted) shut.1;
        reaped = ap (λ (v : DriverView Sent). v.reaped) shut.1 ∙ reaped;
        misses = ap (λ (v : DriverView Sent). v.misses) shut.1;
        told = ap (λ (v : DriverView Sent). v.told) shut.1;
        claims = given.claims;
        looks = given.looks;
        credits = omega (arith, given.credits, now.credits);
        returns = omega (arith, given.returns, now.returns, ap holds_paid reaped);
        holds = λ weight.
            omega (
              arith,
              own_gone weight pass.free pass.seat.holds live.loose valid.own,
              ap (total weight) (ap bare_all given.holds ∙ bare-left_by (keys_for pass.free) pass.seat.holds),
              ap (λ (l : List ℕ). total weight (fresh_all l)) free,
              now.holds weight,
            );
      }

-- so a session ended that was reaped before
pub done_behind : {n : ℕ} {old now : SessionView} (seat : View) (mine : SessionList) (closed : ClosedDriver Sent)
    → HasReaped n old now → IsSessionDone now seat mine closed → IsSessionDone old seat mine closed
done_behind {n} {old} {now} seat mine closed reaps done =
    let opened = reaps.keeps.rest.opened in
    let posted = reaps.keeps.posted in
    record {
      list = done.list ∙ reaps.keeps.list;
      ring = done.ring ∙ reaps.keeps.rest.ring;
      posted = done.posted ∙ posted;
      reaped = done.reaped ∙ posted;
      misses = done.misses ∙ reaps.misses;
      told = done.told ∙ reaps.keeps.rest.told;
      claims = done.claims ∙ reaps.keeps.claims;
      looks = done.looks ∙ reaps.keeps.looks;
      credits = done.credits ∙ ap (λ (v : View). v.credits) opened;
      returns = omega (arith, done.returns, ap (λ (v : View). v.returns) opened, ap holds_paid posted);
      holds = λ weight.
          omega (
            arith,
            done.holds weight,
            ap (λ (l : List ℕ). total weight (fresh_all l)) reaps.keeps.rest.stage,
            ap (λ (v : View). total weight (bare_all v.holds)) opened,
          );
    }

pub finishes_behind : {N P : Type 0} {n : ℕ} {old now : SessionView} (end : Finish N P) → HasReaped n old now
    → Finishes now end → Finishes old end
finishes_behind (Done seat mine closed) reaps ends = done_behind seat mine closed reaps ends
finishes_behind {old = old} (NotYet session) reaps ends = reaps_then reaps ends
