-- Why a call posts nothing, and what making room for it does.
use Rattle.std.specs.Prelude.{◌≡◌, ℕ, ◌<◌, nat_lt, if◌then◌else◌, List, ◌++◌, length, ⊤}
use Rattle.pin_core.specs.declared.sizes.Sizes.{Sizes}
use Rattle.flake_base.specs.declared.segment.Seg.{Seg}
use Rattle.flake_model.specs.Command.{Command}
use Rattle.reply_layout.specs.Need.{need_of}
use Rattle.reply_layout.specs.declared.need.Need.{Need}
use Rattle.reply_planner.specs.Parcels.{Sent}
use Rattle.session_pass.specs.Views.{SessionView}
use Rattle.session_pass.specs.Waiting.{waiting, FitsBeside}
use Rattle.session_pass.specs.Calls.{KeepsAll, FindsRingFull, FindsStageFull, CallRefused}
use Rattle.session_pass.specs.declared.error.CallError.{CallError}

abbrev pub WhyCallRefused : Sizes → ℕ → Command → SessionView → SessionView → CallError → Type 0
WhyCallRefused z shards command old new (CallError.RingFull need room) = FindsRingFull command old new need room
WhyCallRefused z shards command old new (CallError.StageFull need free) = FindsStageFull command old new need free
WhyCallRefused z shards command old new CallError.Memory = CallRefused z shards command old new

-- a call that found no room leaves a list that it tells in
abbrev pub TellsNothing : CallError → List Seg → List Seg → Type 0
TellsNothing (CallError.RingFull need room) old new = new ≡ old
TellsNothing (CallError.StageFull need free) old new = new ≡ old
TellsNothing CallError.Memory old new = ⊤

-- which of ring and stage has less than is needed
abbrev pub full_error : Need → Need → CallError
full_error need left =
    if nat_lt left.descriptors need.descriptors then CallError.RingFull need.descriptors left.descriptors
    else CallError.StageFull need.stage left.stage

-- so many of the oldest replies were reaped
pub record HasReaped (freed : ℕ) (old new : SessionView) : Type 0 where
  pub gone : List Sent
  pub freed_is : length gone ≡ freed
  pub reaped : new.reaped ≡ old.reaped ++ gone
  pub keeps : KeepsAll old new
  pub misses : new.misses ≡ old.misses

-- so many of them make room, and fewer don't
pub record MakesRoom (command : Command) (freed : ℕ) (old new : SessionView) : Type 0 where
  pub reaps : HasReaped freed old new
  pub fits : FitsBeside new.ring new.pass.stage (waiting new 0) (need_of command)
  pub least : (fewer : ℕ) → fewer < freed → FitsBeside old.ring old.pass.stage (waiting old fewer) (need_of command) → ⊥
