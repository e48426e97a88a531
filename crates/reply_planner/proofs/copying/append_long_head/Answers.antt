use Rattle.std.proofs.Common.{◌≤◌, length, arith, lit<}
use Rattle.std.specs.Fmt.{decimal}
use Rattle.std.proofs.lemmas.Fmt.{length-decimal-le}
use Rattle.std.proofs.lemmas.List.{length-take}
use Rattle.reply_planner.proofs.copying.append_long_head.Goals as goal

pub append-requires : goal.append-requires
append-requires c =
    let digits : length (decimal c.args.len) ≤ 5 = length-decimal-le 5 c.args.len (lit< tt)
    (omega (arith, c.requires.few)) (omega (arith, c.requires.few)) in
    omega (arith, digits, c.line-end.ensures.count, length-take c.line-end.result c.line-end.new.room, c.requires.room)
