use Rattle.std.proofs.Common.{rules, ◌<◌, length, arith}
use Rattle.reply_planner.proofs.UsedFirst.{count, last_room, used_less}
use Rattle.reply_planner.proofs.packing.keep_used.Goals as goal

pub put-requires-clause-room : goal.put-requires-clause-room
put-requires-clause-room g c =
    let all = c.args.lists.now.staged.items in
    let items = c.loop-lists.lists.staged.items in
    let was = c.loop-lists.invariant.0 in
    let last = c.in-Some.ensures.items in
    omega (
      arith,
      last_room all c.args.used c.args.stage.now items c.pop.new.self.items c.loop-lists.stage
          c.in-Some.hold was last,
      count all c.args.used c.args.stage.now items c.pop.new.self.items c.loop-lists.stage
          c.in-Some.hold was last,
      c.requires.room,
    )

pub loop-lists-preserved-in-Some : goal.loop-lists-preserved-in-Some
loop-lists-preserved-in-Some g c =
    let items = c.loop-lists.lists.staged.items in
    let more : c.args.used < length items = search rules in
    let i = c.loop-lists.invariant in (
      used_less c.args.lists.now.staged.items c.args.used c.args.stage.now items c.pop.new.self.items c.loop-lists.stage
          c.in-Some.hold i.0 c.in-Some.ensures.items c.put.new.self more c.put.ensures,
      i.1,
      i.2,
      i.3,
    )
