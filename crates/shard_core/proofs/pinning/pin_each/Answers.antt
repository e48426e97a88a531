use Rattle.std.proofs.Common.{◌≡◌, ℕ, ◌+◌, List, [], ◌∷◌, ◌++◌, length, take, drop, sym, refl, ap, ◌∙◌, subst}
use Rattle.std.proofs.Common.{arith}
use Rattle.pinned_pool.specs.declared.view.View.{View}
use Rattle.frag_value.proofs.Unmarked.{has_unmarked}
use Rattle.frag_value.specs.Pins.{KeyFrags, pin_holds, pinning}
use Rattle.frag_value.proofs.PinSteps.{length-pins, pins-append, pinning_both, pinning_none, same_pins}
use Rattle.shard_core.specs.Kept.{Entries}
use Rattle.shard_core.specs.Rooms.{FitRooms, key_frags}
use Rattle.shard_core.proofs.PinnedAll.{Entry, drop_here, no_room_left, frags_in, pairs_more, frags_more}
use Rattle.shard_core.proofs.PinnedAll.{few_all, within_all, has_entry}
use Rattle.shard_core.proofs.pinning.pin_each.Goals as goal

pub loop-i-init : goal.loop-i-init
loop-i-init g c = record {
  fit = c.requires.rooms;
  pairs = c.requires.room.0;
  count = omega (arith, c.args.room.ok.0, ap length c.requires.room.0);
  room = c.requires.room.1;
  owner = refl;
  taker = pinning_none c.args.taker.now;
}

pub unreachable-requires : goal.unreachable-requires
unreachable-requires g c =
    let es = c.args.values.now.entries in
    let k = c.loop-i.i in
    let e : Entry = (c.entry_at.result.0.now, c.entry_at.result.1.now) in
    let left = subst (λ (l : Entries). FitRooms c.loop-i.rooms.items l) (drop_here es k e c.entry_at.ensures)
    c.loop-i.invariant.fit in
    let some = no_room_left c.loop-i.rooms.items e (drop (k + 1) es) left in
    omega (arith, some, c.in_default.ensures.cases.0, c.loop-i.rooms.ok)

pub pin-requires-clause-value : goal.pin-requires-clause-value
pin-requires-clause-value g c =
    let own = c.args.own.now in
    let e : Entry = (c.entry_at.result.0.now, c.entry_at.result.1.now) in
    has_unmarked e.1 own c.loop-i.own c.loop-i.invariant.owner
    (has_entry g.P.PoolName.sizes c.args.values.now.entries own.holds c.loop-i.i e c.requires.kept.held
    c.entry_at.ensures)

pub pin-requires-clause-credits : goal.pin-requires-clause-credits
pin-requires-clause-credits g c =
    let es = c.args.values.now.entries in
    let own = c.args.own.now in
    let e : Entry = (c.entry_at.result.0.now, c.entry_at.result.1.now) in
    omega (
      arith,
      ap (λ (v : View). v.credits) c.loop-i.invariant.taker,
      length-pins own.holds (frags_in (take c.loop-i.i es)),
      within_all es c.loop-i.i e c.entry_at.ensures,
      few_all g.P.PoolName.sizes es own c.is_seat.ensures c.requires.kept.held,
      c.requires.credits,
    )

pub pin-requires-clause-room : goal.pin-requires-clause-room
pin-requires-clause-room g c =
    let es = c.args.values.now.entries in
    let k = c.loop-i.i in
    let e : Entry = (c.entry_at.result.0.now, c.entry_at.result.1.now) in
    let left = subst (λ (l : Entries). FitRooms c.loop-i.rooms.items l) (drop_here es k e c.entry_at.ensures)
    c.loop-i.invariant.fit in
    let fit = subst (λ (l : List (List ℕ × ℕ)). FitRooms l (e ∷ drop (k + 1) es)) c.in-Some.ensures.items left in
    fit.1

pub loop-i-preserved : goal.loop-i-preserved
loop-i-preserved g c =
    let i = c.loop-i.invariant in
    let es = c.args.values.now.entries in
    let k = c.loop-i.i in
    let own = c.args.own.now in
    let hs = own.holds in
    let taker = c.args.taker.now in
    let e : Entry = (c.entry_at.result.0.now, c.entry_at.result.1.now) in
    let at = c.entry_at.ensures in
    let left = subst (λ (l : Entries). FitRooms c.loop-i.rooms.items l) (drop_here es k e at) i.fit in
    let fit = subst (λ (l : List (List ℕ × ℕ)). FitRooms l (e ∷ drop (k + 1) es)) c.in-Some.ensures.items left in
    let pair : c.pin.result ≡ (e.0.items, e.1) = c.pin.ensures.pair ∙ (λ j. (fit.0 j, e.1)) in
    let so_far = frags_in (take k es) in
    record {
      fit = fit.2;
      pairs = c.push_reserved.ensures.items ∙ ap (λ (l : List KeyFrags). l ++ c.pin.result ∷ []) i.pairs
          ∙ ap (λ (p : KeyFrags). key_frags (take k es) ++ p ∷ []) pair ∙ sym (pairs_more es k e at);
      count = omega (arith, c.push_reserved.ensures.len, i.count);
      room = omega (arith, c.push_reserved.ensures.capacity, i.room);
      owner = c.pin.ensures.owner ∙ i.owner;
      taker = c.pin.ensures.taker ∙ ap (λ pins. pinning pins c.loop-i.taker) (same_pins own c.loop-i.own e.1 i.owner)
          ∙ ap (pinning (pin_holds hs e.1)) i.taker ∙ pinning_both (pin_holds hs so_far) (pin_holds hs e.1) taker
          ∙ ap (λ pins. pinning pins taker)
          (sym (ap (pin_holds hs) (frags_more es k e at) ∙ pins-append hs so_far e.1));
    }

pub returns-clause-few : goal.returns-clause-few
returns-clause-few g c = few_all g.P.PoolName.sizes c.args.values.now.entries c.args.own.now c.is_seat.ensures
    c.requires.kept.held
