use Rattle.std.proofs.Common.{◌≡◌, ◌≤◌, length, take, drop, vec_len, vec_capacity}
use Rattle.frag_value.specs.Values.{unmarked_view}
use Rattle.frag_value.specs.Pins.{all_frags, pin_holds, pinning}
use Rattle.shard_core.specs.Rooms.{FitRooms, key_frags}
use Rattle.shard_core.proofs.pinning.pin_each.Given as goal

abbrev pub invariant-loop-i : goal.invariant-loop-i
invariant-loop-i g l = record {
  fit : FitRooms l.rooms.items (drop l.i l.values.entries);
  pairs : l.pairs.items ≡ key_frags (take l.i l.values.entries);
  count : vec_len l.pairs ≡ l.i;
  room : length l.values.entries ≤ vec_capacity l.pairs;
  owner : unmarked_view l.own ≡ unmarked_view l.fn.own;
  taker : l.taker
      ≡ pinning (pin_holds l.fn.own.holds (all_frags (key_frags (take l.i l.values.entries)))) l.fn.taker;
}
