use Rattle.std.proofs.Common.{◌≡◌, ◌≤◌, length, map, take, vec_len, vec_capacity}
use Rattle.view_sums.specs.Total.{Each}
use Rattle.frag_value.specs.Values.{unmarked_view}
use Rattle.frag_value.specs.Pins.{pin_key, pin_holds, pinning}
use Rattle.frag_value.proofs.pinning.pin_value.Given as goal

abbrev pub invariant-loop-i : goal.invariant-loop-i
invariant-loop-i g l = record {
  frags : map (λ f. (f.hold.buffer, f.len)) l.frags.items ≡ take l.i l.value;
  pinned : Each (λ f. f.hold ≡ pin_key f.hold.buffer) l.frags.items;
  count : vec_len l.frags ≡ l.i;
  room : length l.value ≤ vec_capacity l.frags;
  owner : unmarked_view l.owner ≡ unmarked_view l.fn.owner;
  taker : l.taker ≡ pinning (pin_holds l.fn.owner.holds (take l.i l.value)) l.fn.taker;
}
