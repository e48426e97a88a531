use Rattle.std.proofs.Common.{arith}
use Rattle.mtu_frames.proofs.Lookups.{forward_by, one_of_call, none_of_call}
use Rattle.mtu_frames.proofs.held.count_at.Goals as goal

pub range-requires : goal.range-requires
range-requires c = forward_by _ _ c.args.call 4294967295 c.new.ensures.start c.new.ensures.end

pub returns-in-Some : goal.returns-in-Some
returns-in-Some c =
    one_of_call c.args.held.now.entries c.range.result _ _ c.in-Some._place.now c.args.call 4294967295
    c.in-Some.cut.now _ c.new.ensures.start c.new.ensures.end
    (c.range.ensures.in_range c.new.ensures.exhausted).1 c.in-Some.ensures.steps

pub returns-in-None : goal.returns-in-None
returns-in-None c = λ index lt.
    none_of_call c.args.held.now.entries c.range.result _ _ c.args.call 4294967295 c.new.ensures.start c.new.ensures.end
    (c.range.ensures.in_range c.new.ensures.exhausted).5 c.in-None.ensures.steps.0 index (omega arith)
