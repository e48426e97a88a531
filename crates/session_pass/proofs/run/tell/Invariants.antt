use Rattle.std.proofs.Common.{◌≡◌, ◌≤◌, length, take, vec_len, vec_capacity}
use Rattle.session_pass.proofs.run.tell.Given as goal

abbrev pub invariant-loop-i : goal.invariant-loop-i
invariant-loop-i g l = record {
  told : l.sent.items ≡ take l.i l.parcel.segments;
  count : vec_len l.sent ≡ l.i;
  room : length l.parcel.segments ≤ vec_capacity l.sent;
}
