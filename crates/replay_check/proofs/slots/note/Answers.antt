use Rattle.std.proofs.Common.{arith}
use Rattle.replay_check.proofs.Noting.{noted_set, noted_kept}
use Rattle.replay_check.proofs.slots.note.Goals as goal

pub returns-then-is_none : goal.returns-then-is_none
returns-then-is_none c = noted_set c.args.slots.now.items c.args.place c.args.answer c.index.result.now
    (omega (arith, c.requires, c.args.slots.now.ok.0)) c.index.ensures c.if-is_none.ensures

pub returns-else-is_none : goal.returns-else-is_none
returns-else-is_none c = noted_kept c.args.slots.now.items c.args.place c.args.answer c.index.result.now
    (omega (arith, c.requires, c.args.slots.now.ok.0)) c.index.ensures c.if-is_none.ensures
