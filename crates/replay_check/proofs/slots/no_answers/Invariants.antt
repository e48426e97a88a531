use Rattle.std.proofs.Common.{◌≡◌, None, replicate}
use Rattle.replay_check.specs.Noted.{slots_meant}
use Rattle.replay_check.proofs.slots.no_answers.Given as goal

abbrev pub invariant-loop-part : goal.invariant-loop-part
invariant-loop-part l = slots_meant l.slots.items ≡ replicate l._part None
