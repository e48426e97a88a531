use Rattle.command_parts.proofs.Keys.{one_more, one_too_long}
use Rattle.std.proofs.Common.{arith}
use Rattle.command_parts.proofs.tested.keys_fit.Goals as goal

pub returns-then-word-gt-KEY_LIMIT : goal.returns-then-word-gt-KEY_LIMIT
returns-then-word-gt-KEY_LIMIT c =
    one_too_long c.args.request.now c.args.keys c.loop-j.j c.word.result.now c.loop-j-test.true c.requires
    c.word.ensures c.if-word-gt-KEY_LIMIT.true

pub loop-j-preserved : goal.loop-j-preserved
loop-j-preserved c =
    one_more c.args.request.now c.loop-j.j c.word.result.now (omega arith) c.word.ensures c.if-word-gt-KEY_LIMIT.false
    c.loop-j.invariant
