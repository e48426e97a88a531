use Rattle.std.proofs.Common.{◌≡◌, ◌+◌, ◌<◌, ◌≤◌, length, None}
use Rattle.frag_value.specs.Values.{HasValue}
use Rattle.reply_layout.specs.Gathered.{text_of_pieces}
use Rattle.reply_planner.specs.Laid.{pieces_in}
use Rattle.reply_planner.specs.Planned.{room_of}
use Rattle.test_replies.proofs.plans.hand_often.Given as goal

abbrev pub invariant-loop : goal.invariant-loop
invariant-loop g l = record {
  none : l.plan.begun ≡ None;
  base : l.plan.base ≡ l.fn.plan.base;
  room : room_of l.fn.plan ≤ room_of l.plan + l.counter;
  value : HasValue l.owner.holds l.value;
  some : 0 < l.counter → 0 < length (text_of_pieces (pieces_in l.plan.taken));
}
