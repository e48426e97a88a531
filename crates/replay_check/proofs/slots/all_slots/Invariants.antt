use Rattle.std.proofs.Common.{[], take}
use Rattle.replay_check.specs.Places.{told}
use Rattle.replay_check.specs.Noted.{AreNoted}
use Rattle.replay_check.proofs.slots.all_slots.Given as goal

abbrev pub invariant-loop-session : goal.invariant-loop-session
invariant-loop-session l = AreNoted (told (take l.session-index l.sessions)) [] l.slots.items
