-- A session on its way, and at its end.
use Rattle.std.specs.Prelude.{◌≡◌, ℕ, ◌≤◌, List, [], length, map}
use Rattle.pin_core.specs.declared.class.Class.{Class}
use Rattle.pin_core.specs.declared.sizes.Sizes.{Sizes}
use Rattle.pinned_pool.specs.declared.view.View.{View}
use Rattle.flake_model.specs.Command.{Command}
use Rattle.flake_model.specs.Reply.{reply_text}
use Rattle.shard_core.specs.Needed.{SoughtFor}
use Rattle.shard_core.specs.Outcomes.{Outcomes, SessionDeeds}
use Rattle.serve_model.specs.Demand.{commands_row}
use Rattle.serve_model.specs.Misses.{calls_needing, SoughtByRun}
use Rattle.serve_model.specs.Runs.{Run, IsRun, AreCalls, calls_told, replies_told, missed_by, calls_pins}
use Rattle.serve_model.specs.Runs.{run_told, run_texts}

-- A session was opened with this seat and made the calls of these commands: the texts of their frames, and how many
-- pinned holds they have.
pub record IsGoing (z : Sizes) (threshold shards session : ℕ) (given : List Command) (calls : List Outcomes)
    (texts : List (List ℕ)) (pins : ℕ) (told : SessionDeeds) (opened seat : View) : Type 0 where
  pub as_many : length calls ≡ length given
  pub are : AreCalls given calls
  pub told_is : told ≡ calls_told shards session 0 given calls
  pub texts_are : texts ≡ map reply_text (replies_told given calls)
  pub sought : SoughtFor z (λ (class : Class). commands_row class given)
      (λ (class : Class). calls_needing class given calls) (missed_by calls) opened seat
  pub pinned : calls_pins threshold given calls ≤ pins

-- A session makes no more calls: its run, the texts of all its frames, and their pinned holds.
pub record CallsNoMore (z : Sizes) (threshold shards session : ℕ) (run : Run) (texts : List (List ℕ)) (pins : ℕ)
    (told : SessionDeeds) (opened seat : View) : Type 0 where
  pub is_run : IsRun run
  pub told_is : told ≡ run_told shards session run
  pub texts_are : texts ≡ run_texts run
  pub sought : SoughtByRun z (λ (class : Class). commands_row class run.commands) run opened seat
  pub pinned : calls_pins threshold run.commands run.calls ≤ pins

-- What is left of a session's seat when all its frames came back: no hold, and so many pinned holds given back.
pub record IsFinished (pins : ℕ) (seat last : View) : Type 0 where
  pub holds : last.holds ≡ []
  pub claims : last.claims ≡ seat.claims
  pub looks : last.looks ≡ seat.looks
  pub returns : pins ≤ last.returns
