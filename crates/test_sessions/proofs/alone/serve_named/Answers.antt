use Rattle.std.proofs.Common.{◌≡◌, ◌+◌, Some, arith}
use Rattle.std.proofs.lemmas.List.Elements.{All-pop}
use Rattle.run_resources.specs.Opened.{IsSessionSlot, dump_credits}
use Rattle.run_resources.proofs.SessionSlots.{fresh, slot_credits}
use Rattle.test_sessions.proofs.alone.serve_named.Goals as goal

pub serve_beside-wire-requires-clause-fresh : goal.serve_beside-wire-requires-clause-fresh
serve_beside-wire-requires-clause-fresh g c = λ _ _.
    let is = (All-pop (λ d. IsSessionSlot g.P.PoolName.sizes d.session d.device.end d.device.failed) _ _
    (Some c.in-Some.slot) c.in-Some.ensures.items c.in_ok-pool.ensures.slots).1 in
    fresh _ _ _ _ _ _ _ is c.new.ensures.pump c.new.ensures.source.0 c.new.ensures.source.2

pub serve_beside-wire-requires-clause-ring : goal.serve_beside-wire-requires-clause-ring
serve_beside-wire-requires-clause-ring g c = λ _ _.
    let is = (All-pop (λ d. IsSessionSlot g.P.PoolName.sizes d.session d.device.end d.device.failed) _ _
    (Some c.in-Some.slot) c.in-Some.ensures.items c.in_ok-pool.ensures.slots).1 in
    is.ring

pub serve_beside-wire-requires-clause-unfailed : goal.serve_beside-wire-requires-clause-unfailed
serve_beside-wire-requires-clause-unfailed g c = λ _ _.
    let is = (All-pop (λ d. IsSessionSlot g.P.PoolName.sizes d.session d.device.end d.device.failed) _ _
    (Some c.in-Some.slot) c.in-Some.ensures.items c.in_ok-pool.ensures.slots).1 in
    is.unfailed

pub close_one-requires-clause-credits : goal.close_one-requires-clause-credits
close_one-requires-clause-credits g c =
    let is = (All-pop (λ d. IsSessionSlot g.P.PoolName.sizes d.session d.device.end d.device.failed) _ _
    (Some c.in-Some.slot) c.in-Some.ensures.items c.in_ok-pool.ensures.slots).1 in
    let all : g.P.PoolName.sizes.credits ≡ 8192 + c.args.sizes.now.shards + 1 + dump_credits c.args.sizes.now =
    λ i. (c.requires.pool.2 i).credits in
    omega (
      arith,
      c.in_ok-pool.ensures.main.1,
      c.serve_beside-wire.ensures.credits,
      slot_credits _ _ _ _ is,
      c.requires.book.2.0,
      all,
    )
