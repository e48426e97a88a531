use Rattle.std.proofs.Common.{◌≡◌, ap, length, arith}
use Rattle.tx_ring.specs.Shown.{ring_size}
use Rattle.run_resources.specs.Opened.{IsNewPass, IsSessionSlot}
use Rattle.run_resources.proofs.Lists.{all_more, all_rest, map_more}
use Rattle.run_resources.proofs.Numbers.{numbers_on}
use Rattle.run_resources.proofs.slot.open_session_slots.Goals as goal

pub loop-pass-preserved : goal.loop-pass-preserved
loop-pass-preserved g c =
    let before = c.loop-pass.invariant in
    let steps = c.in-Some.ensures.steps.0 in
    let items = c.push_reserved.ensures.items in
    record {
      slots = all_more c.loop-pass.slots.items _ _
          (λ d. IsSessionSlot g.P.PoolName.sizes d.session d.device.end d.device.failed) items before.slots
          c.in_ok-slot.ensures.slot;
      passes = map_more c.loop-pass.slots.items _ _ (λ d. d.session.pass) _ _ items before.passes
          c.in_ok-slot.ensures.pass;
      ring = all_more c.loop-pass.slots.items _ _ (λ d. ring_size d.session.ring ≡ c.args.descriptors) items
          before.ring c.in_ok-slot.ensures.ring;
      rest = all_rest _ _ c.in-Some.pass (IsNewPass g.P.PoolName.sizes) steps before.rest;
      numbers = numbers_on _ _ c.in-Some.pass _ steps before.numbers;
      few = omega (arith, before.few, ap length steps);
      room = omega (arith, before.room, ap length steps, c.push_reserved.ensures.len, c.push_reserved.ensures.capacity);
    }
