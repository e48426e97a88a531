use Rattle.std.proofs.Common.{◌≡◌, ℕ}
use Rattle.pin_core.specs.declared.sizes.Sizes.{Sizes}
use Rattle.flake_model.specs.Command.{Command}
use Rattle.session_pass.specs.Views.{SessionView}
use Rattle.session_pass.specs.Refused.{WhyCallRefused}
use Rattle.session_pass.specs.declared.error.CallError.{CallError}
use Rattle.session_pass.specs.declared.error.CallError.TheVariants.{RingFull, StageFull, Memory}
use Rattle.test_replies.proofs.acting.call_once.Goals as goal

-- whatever refuses a call leaves what was opened
stays_opened : (z : Sizes) (shards : ℕ) (command : Command) (old new : SessionView) (error : CallError)
    → WhyCallRefused z shards command old new error → new.opened ≡ old.opened
stays_opened z shards command old new (RingFull need room) why = why.reaps.keeps.rest.opened
stays_opened z shards command old new (StageFull need free) why = why.reaps.keeps.rest.opened
stays_opened z shards command old new Memory why = why.rest.opened

pub returns-in-Ok : goal.returns-in-Ok
returns-in-Ok g c = c.in-Ok.ensures.posted.rest.opened

pub returns-in-Err : goal.returns-in-Err
returns-in-Err g c = stays_opened _ _ _ _ _ c.in-Err.error c.in-Err.ensures.refused
