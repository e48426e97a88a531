-- The calls of a session that is driven: which commands were called, and what came of them.
use Rattle.std.specs.Prelude.{◌≡◌, ℕ, ◌<◌, ◌⊎◌, List, [], ◌∷◌, ◌++◌, Option, Some, length}
use Rattle.flake_base.specs.declared.session.End.{End}
use Rattle.flake_base.specs.declared.session.End.TheVariants.{Memory}
use Rattle.flake_base.specs.declared.session.SessionEnd.{SessionEnd}
use Rattle.flake_model.specs.Command.{Command, parts}
use Rattle.flake_model.specs.Deed.{Deed}
use Rattle.pin_core.specs.declared.sizes.Sizes.{Sizes}
use Rattle.pinned_pool.specs.declared.view.View.{View}
use Rattle.shard_core.specs.Outcomes.{Outcomes}
use Rattle.serve_model.specs.Going as model
use Rattle.session_pass.specs.Kept.{holds_paid}
use Rattle.session_pass.specs.Views.{SessionView}
use Rattle.session_serve.specs.Working.{IsSame}
use Rattle.reply_planner.specs.Parcels.{texts_in}

-- Between two calls: the first ones of the given commands were called, and the reply of each was posted.
pub record IsBetween (z : Sizes) (shards : ℕ) (first : SessionView) (given : List Command) (session : SessionView)
    : Type 0 where
  pub called : List Command
  pub rest : List Command
  pub given_is : given ≡ called ++ rest
  pub calls : List Outcomes
  pub count : length session.posted ≡ length called
  pub going : model.IsGoing z first.pass.threshold shards first.pass.list.number called calls
      (texts_in session.posted) (holds_paid session.posted) session.pass.list.told first.pass.seat session.pass.seat
  pub same : IsSame first session

-- Memory was wanting in the call of the last command that was given; those before have their replies.
pub record IsBroken (z : Sizes) (shards : ℕ) (first : SessionView) (given : List Command) (session : SessionView)
    : Type 0 where
  pub called : List Command
  pub command : Command
  pub given_is : given ≡ called ++ command ∷ []
  pub calls : List Outcomes
  pub behind : Outcomes
  pub count : length session.posted ≡ length called
  pub short : (length behind ≡ 0) ⊎ (length behind < length (parts command))
  -- the seat behind that call, and whatever more its input asks for
  pub after : View
  pub claims : session.pass.seat.claims ≡ after.claims
  pub seen : session.pass.seat.looks ≡ after.looks
  pub ended : (more : List Command) (looks : List (ℕ × List Deed)) (end : SessionEnd) → end.replies ≡ length called
      → end.end ≡ Memory → model.CallsNoMore z first.pass.threshold shards first.pass.list.number
      (record { commands = called ++ command ∷ more; calls = calls; behind = behind; looks = looks; end = end })
      (texts_in session.posted) (holds_paid session.posted) session.pass.list.told first.pass.seat after
  pub same : IsSame first session

-- Of these commands, from its first line on. A session in whose call memory was wanting has said its end.
abbrev pub IsRunning : Sizes → ℕ → SessionView → List Command → Option End → SessionView → Type 0
IsRunning z shards first given end session =
    IsBetween z shards first given session ⊎ ((end ≡ Some Memory) × IsBroken z shards first given session)

-- It runs on with these commands, wherever it began.
abbrev pub RunsOn : Sizes → ℕ → List Command → Option End → SessionView → List Command → Option End → SessionView
    → Type 0
RunsOn z shards given end old now end' new = (first : SessionView) → IsRunning z shards first given end old
    → IsRunning z shards first now end' new
