use Rattle.std.proofs.Common.{◌≡◌, ◌≤◌, length, take, vec_len, vec_capacity}
use Rattle.session_pass.proofs.ready.copy.Given as goal

abbrev pub invariant-loop-i : goal.invariant-loop-i
invariant-loop-i l = record {
  told : l.stored.items ≡ take l.i l.list.items;
  count : vec_len l.stored ≡ l.i;
  room : length l.list.items ≤ vec_capacity l.stored;
}
