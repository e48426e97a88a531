use Rattle.std.proofs.Common.{◌+◌, ◌≤◌}
use Rattle.reply_planner.specs.Owned.{AreOwn}
use Rattle.test_replies.proofs.threads.make_many.Given as goal

abbrev pub invariant-loop-turn : goal.invariant-loop-turn
invariant-loop-turn g l = record {
  own : AreOwn l.seat.holds l.stage;
  rich : 200 ≤ l.seat.credits + l.turn;
}
