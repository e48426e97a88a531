-- Seats that go into one.
use Rattle.std.proofs.Common.{◌≡◌, ℕ, ◌+◌, ◌*◌, ◌≤◌, List, [], ◌∷◌, ◌++◌, length, refl, ap, sym, subst, append-nil}
use Rattle.std.proofs.Common.{length-append, arith}
use Rattle.view_sums.specs.Total.{SameItems}
use Rattle.view_sums.proofs.Eachs.{each-append}
use Rattle.view_sums.proofs.Sums.{total-append}
use Rattle.pin_core.specs.declared.sizes.Sizes.{Sizes}
use Rattle.pinned_pool.specs.Classes.{buffers_in}
use Rattle.pinned_pool.specs.Ends.{LooksClaimed}
use Rattle.pinned_pool.specs.Moves.{joined_views}
use Rattle.pinned_pool.specs.Sought.{Sought}
use Rattle.pinned_pool.specs.Views.{nobody, opener, looked_at}
use Rattle.pinned_pool.specs.declared.view.View.{View}
use Rattle.reply_planner.specs.Stages.{IsClosed}
use Rattle.command_exec.specs.Passes.{PassView}
use Rattle.serve_model.specs.Demand.{stage_row}
use Rattle.serve_model.specs.Seats.{HasAll, IsSpare}
use Rattle.serve_model.specs.Stages.{NoStageRefused}
use Rattle.serve_model.proofs.Seats.{joins_add, one_seat, any_order}
use Rattle.run_resources.specs.Joined.{HasJoined}
use Rattle.run_resources.specs.Opened.{IsNewPass}
use Rattle.run_resources.specs.Passing.{AreRefused, HasStages}

pub joins_none : (v : View) → HasJoined [] v v
joins_none v = record {
  all = λ others has. subst (λ (seats : List View). HasAll seats v) (sym (append-nil others)) has;
}

goes_last : (others seats : List View) (seat : View)
    → SameItems (seat ∷ (others ++ seats)) (others ++ (seats ++ seat ∷ []))
goes_last others seats seat weight =
    let a = total-append weight others seats in
    let b = total-append weight others (seats ++ seat ∷ []) in
    let c = total-append weight seats (seat ∷ []) in
    omega (arith, a, b, c)

pub joins_more : (seats : List View) (old mid seat new : View) → HasJoined seats old mid → new ≡ joined_views mid seat
    → HasJoined (seats ++ seat ∷ []) old new
joins_more seats old mid seat new is new_is = record {
  all = λ others has. subst (HasAll (others ++ (seats ++ seat ∷ []))) (sym new_is)
      (any_order (seat ∷ (others ++ seats)) (others ++ (seats ++ seat ∷ [])) (joined_views mid seat)
      (joins_add (others ++ seats) mid seat (is.all others has)) (goes_last others seats seat));
}

-- what these seats have together, behind one
pub joins_all : (seats : List View) (old new : View) → HasJoined seats old new → HasAll (old ∷ seats) new
joins_all seats old new is = is.all (old ∷ []) (one_seat old)

pub stages_none : (z : Sizes) (v : View) → HasStages z 0 v v
stages_none z v = record { seats = []; as_many = refl; sought = tt; joined = joins_none v; credits = omega arith }

-- a seat that gave its stage back has claimed what it had
closed_sought : (z : Sizes) (stage : List ℕ) (seat last : View) → IsClosed stage seat last
    → Sought z stage_row 0 nobody seat → Sought z stage_row 0 nobody last
closed_sought z stage seat last is sought = record {
  missed = sought.missed;
  missed_are = sought.missed_are;
  claims = λ class. omega (arith, sought.claims class, ap (buffers_in z class) is.claims);
  looks = λ b near. omega (arith, sought.looks b near, ap (looked_at b) is.looks);
}

pub stages_more : (z : Sizes) (n : ℕ) (pass : PassView) (old mid seat new : View) → HasStages z n old mid
    → IsNewPass z pass → IsClosed pass.free pass.seat seat → new ≡ joined_views mid seat → HasStages z (n + 1) old new
stages_more z n pass old mid seat new is pass_is closed new_is = record {
  seats = is.seats ++ seat ∷ [];
  as_many = omega (arith, length-append is.seats (seat ∷ []), is.as_many);
  sought = each-append (Sought z stage_row 0 nobody) is.seats (seat ∷ []) is.sought
      (closed_sought z pass.free pass.seat seat closed pass_is.sought, tt);
  joined = joins_more is.seats old mid seat new is.joined new_is;
  credits = omega (
    arith,
    is.credits,
    closed.credits,
    pass_is.opened.keeps.credits,
    ap (λ (v : View). v.credits) new_is,
  );
}

-- all credits are in the seat that took in those of the refused session and of the passes
pub refused_credits : (z : Sizes) (all : ℕ) (passes : List PassView) (first main refused mid last : View)
    → first ≡ opener z.credits → AreRefused z all first main refused passes → mid ≡ joined_views main refused
    → HasStages z (length passes) mid last → last.credits ≡ z.credits
refused_credits z all passes first main refused mid last first_is is mid_is stages =
    omega (
      arith,
      ap (λ (v : View). v.credits) first_is,
      is.credits,
      is.refused_is.credits,
      ap (λ (v : View). v.credits) mid_is,
      stages.credits,
    )

-- the stage of none of them is refused
pub never_refused : (z : Sizes) (all : ℕ) (passes : List PassView) (first main refused mid last : View)
    → NoStageRefused → IsSpare main → AreRefused z all first main refused passes → mid ≡ joined_views main refused
    → HasStages z (length passes) mid last → LooksClaimed last → 128 * all ≤ z.small → ⊥
never_refused z all passes first main refused mid last law spare is mid_is stages looked room =
    law z all stages.seats (main ∷ []) refused last (record {
      room = room;
      fewer = omega (arith, stages.as_many, is.fewer);
      opened_sought = stages.sought;
      idle_claims = (spare.idle, tt);
      refused_sought = is.refused_is.sought;
      all = stages.joined.all (refused ∷ main ∷ []) (subst (HasAll (refused ∷ main ∷ [])) (sym mid_is)
          (joins_add (main ∷ []) main refused (one_seat main)));
      looked = looked;
    })
