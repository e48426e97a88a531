use Rattle.std.proofs.Common.{◌≡◌, ◌+◌, ◌≤◌, All, length, map, vec_len, vec_capacity}
use Rattle.std.specs.List.{range_with_len}
use Rattle.std.specs.Vec.Iter.{into_iter_items}
use Rattle.tx_ring.specs.Shown.{ring_size}
use Rattle.run_resources.specs.Opened.{IsNewPass, IsSessionSlot}
use Rattle.run_resources.proofs.slot.open_session_slots.Given as goal

abbrev pub invariant-loop-pass : goal.invariant-loop-pass
invariant-loop-pass g l = record {
  slots : All (λ d. IsSessionSlot g.P.PoolName.sizes d.session d.device.end d.device.failed)
      l.slots.items;
  ring : All (λ d. ring_size d.session.ring ≡ l.descriptors) l.slots.items;
  passes : map (λ d. d.session.pass) l.slots.items ≡ l.yielded;
  rest : All (IsNewPass g.P.PoolName.sizes) (into_iter_items l.pass-iterator);
  numbers : map (λ p. p.list.number) (into_iter_items l.pass-iterator)
      ≡ range_with_len l.number (length (into_iter_items l.pass-iterator));
  few : l.number + length (into_iter_items l.pass-iterator) ≤ 16;
  room : vec_len l.slots + length (into_iter_items l.pass-iterator) ≤ vec_capacity l.slots;
}
