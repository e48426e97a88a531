use Rattle.std.proofs.Common.{rules, ◌≡◌, ℕ, ◌+◌, ◌≤◌, List, ◌++◌, length, sym, ap, ◌∙◌, subst, arith}
use Rattle.pin_core.specs.Buffers.{buffers}
use Rattle.frag_value.specs.Pins.{KeyFrags, all_frags}
use Rattle.pin_dump.specs.Dumps.{GivesHolds, HoldsFor}
use Rattle.pin_dump.proofs.TakenShards.{TakenSoFar, taken_none, taken_more, enough_left, back_held, back_took}
use Rattle.pin_dump.proofs.TakenShards.{back_keeps}
use Rattle.pin_dump.proofs.taking.take_all.Goals as goal

pub loop-shard-init : goal.loop-shard-init
loop-shard-init g c =
    let none = c.requires.none.1 in
    record {
      taken = taken_none g.P.PoolName.sizes c.args.mine.now c.args.seat.now c.args.pairs.now.items
          c.reserve.new.self.items c.requires.holds c.requires.none.0 (c.reserve.ensures.items ∙ none);
      count = omega (arith, c.reserve.ensures.len, ap length none, c.args.points.now.ok.0);
      room = omega (arith, c.in_ok-reserve.ensures.ok, c.reserve.ensures.len, c.reserve.ensures.capacity);
    }

pub returns-then-is_err-clause-held : goal.returns-then-is_err-clause-held
returns-then-is_err-clause-held g c =
    let z = g.P.PoolName.sizes in
    let i = c.loop-shard.invariant.taken in
    let seat = c.loop-shard.seat in
    let image = c.in_ok-image.image in
    let kept : c.append.new.self.items ≡ c.loop-shard.pairs.items = search rules in
    let other : c.append.new.other.items ≡ image.pairs.items = search rules in
    let gives = subst (λ (l : List KeyFrags). GivesHolds (all_frags l) c.pin_shard.new.seat c.give_back.new.seat) other
    c.give_back.ensures in
    let enough : buffers z ≤ seat.credits =
    enough_left c.loop-shard.shard g.N.BookName.sizes.shards (buffers z) (length seat.holds) seat.credits
    c.args.seat.now.credits (omega (arith, c.loop-shard-test.true, c.shards-shards.ensures.number))
    (omega (arith, i.few, i.count)) i.credits c.requires.credits in
    subst (λ (l : List KeyFrags). HoldsFor c.give_back.new.seat.holds (all_frags l)) (sym kept)
    (back_held z c.loop-shard.shard image.place c.args.mine.now c.loop-shard.mine c.pin_shard.new.mine c.args.seat.now
    seat c.pin_shard.new.seat c.give_back.new.seat c.loop-shard.pairs.items image.pairs.items c.loop-shard.points.items
    i c.in_ok-image.ensures.image enough gives)

pub returns-then-is_err-clause-seat : goal.returns-then-is_err-clause-seat
returns-then-is_err-clause-seat g c =
    let z = g.P.PoolName.sizes in
    let i = c.loop-shard.invariant.taken in
    let seat = c.loop-shard.seat in
    let image = c.in_ok-image.image in
    let other : c.append.new.other.items ≡ image.pairs.items = search rules in
    let gives = subst (λ (l : List KeyFrags). GivesHolds (all_frags l) c.pin_shard.new.seat c.give_back.new.seat) other
    c.give_back.ensures in
    let enough : buffers z ≤ seat.credits =
    enough_left c.loop-shard.shard g.N.BookName.sizes.shards (buffers z) (length seat.holds) seat.credits
    c.args.seat.now.credits (omega (arith, c.loop-shard-test.true, c.shards-shards.ensures.number))
    (omega (arith, i.few, i.count)) i.credits c.requires.credits in
    back_took z c.loop-shard.shard image.place c.args.mine.now c.loop-shard.mine c.pin_shard.new.mine c.args.seat.now
    seat c.pin_shard.new.seat c.give_back.new.seat c.loop-shard.pairs.items image.pairs.items c.loop-shard.points.items
    i c.in_ok-image.ensures.image enough gives

pub returns-then-is_err-clause-deeds : goal.returns-then-is_err-clause-deeds
returns-then-is_err-clause-deeds g c =
    let z = g.P.PoolName.sizes in
    let i = c.loop-shard.invariant.taken in
    let seat = c.loop-shard.seat in
    let image = c.in_ok-image.image in
    let other : c.append.new.other.items ≡ image.pairs.items = search rules in
    let gives = subst (λ (l : List KeyFrags). GivesHolds (all_frags l) c.pin_shard.new.seat c.give_back.new.seat) other
    c.give_back.ensures in
    let enough : buffers z ≤ seat.credits =
    enough_left c.loop-shard.shard g.N.BookName.sizes.shards (buffers z) (length seat.holds) seat.credits
    c.args.seat.now.credits (omega (arith, c.loop-shard-test.true, c.shards-shards.ensures.number))
    (omega (arith, i.few, i.count)) i.credits c.requires.credits in
    back_keeps z c.loop-shard.shard image.place c.args.mine.now c.loop-shard.mine c.pin_shard.new.mine c.args.seat.now
    seat c.pin_shard.new.seat c.give_back.new.seat c.loop-shard.pairs.items image.pairs.items c.loop-shard.points.items
    i c.in_ok-image.ensures.image enough gives

pub loop-shard-preserved : goal.loop-shard-preserved
loop-shard-preserved g c =
    let z = g.P.PoolName.sizes in
    let i = c.loop-shard.invariant.taken in
    let n = c.loop-shard.shard in
    let old = c.args.mine.now in
    let now = c.pin_shard.new.mine in
    let start = c.args.seat.now in
    let seat = c.loop-shard.seat in
    let next = c.pin_shard.new.seat in
    let image = c.in_ok-image.image in
    let pairs = c.loop-shard.pairs.items in
    let points = c.loop-shard.points.items in
    let joined : c.append.new.self.items ≡ pairs ++ image.pairs.items = search rules in
    let enough : buffers z ≤ seat.credits =
    enough_left n g.N.BookName.sizes.shards (buffers z) (length seat.holds) seat.credits start.credits
    (omega (arith, c.loop-shard-test.true, c.shards-shards.ensures.number)) (omega (arith, i.few, i.count)) i.credits
    c.requires.credits in
    let made = taken_more z n image.place old c.loop-shard.mine now start seat next pairs image.pairs.items points i
    c.in_ok-image.ensures.image enough in
    let pointed : TakenSoFar z (n + 1) old now start next (pairs ++ image.pairs.items) c.push_reserved.new.self.items =
    subst (λ (xs : List ℕ). TakenSoFar z (n + 1) old now start next (pairs ++ image.pairs.items) xs)
    (sym c.push_reserved.ensures.items) made in
    record {
      taken = subst (λ (l : List KeyFrags). TakenSoFar z (n + 1) old now start next l c.push_reserved.new.self.items)
          (sym joined) pointed;
      count = omega (arith, c.push_reserved.ensures.len, c.loop-shard.invariant.count);
      room = omega (arith, c.push_reserved.ensures.capacity, c.loop-shard.invariant.room);
    }
