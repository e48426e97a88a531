use Rattle.std.proofs.Common.{List, length, ap, arith}
use Rattle.flake_base.specs.declared.segment.Seg.{Seg}
use Rattle.command_exec.specs.Kinds.{part_at}
use Rattle.command_exec.proofs.Asked.{count_part}
use Rattle.command_exec.proofs.Counting.{counting_untaken, counting_plain, no_yes, counts_key, count_stays}
use Rattle.command_exec.proofs.answering.count_key.Goals as goal

pub run_part-requires-clause-room : goal.run_part-requires-clause-room
run_part-requires-clause-room g c = λ taking.
    let plain = counting_untaken (part_at c.args.command.now c.args.at.part)
    (count_part c.args.command.now c.requires.kind c.args.at.part c.requires.part) in
    absurd (let no : ⊥ = cc in no)

pub run_part-requires-clause-range_room : goal.run_part-requires-clause-range_room
run_part-requires-clause-range_room g c = λ ranged.
    let plain = counting_plain (part_at c.args.command.now c.args.at.part)
    (count_part c.args.command.now c.requires.kind c.args.at.part c.requires.part) in
    absurd (let no : ⊥ = cc in no)

pub returns-in_default-clause-counted : goal.returns-in_default-clause-counted
returns-in_default-clause-counted g c =
    let operation = part_at c.args.command.now c.args.at.part in
    let said = c.in_ok-happened.field-0 in
    counts_key g.P.PoolName.sizes g.N.BookName.sizes.shards c.args.at operation said c.args.pass.now c.run_part.new.pass
    c.args.stored.now.items c.run_part.new.stored.items c.args.plan.now c.run_part.new.plan
    (count_part c.args.command.now c.requires.kind c.args.at.part c.requires.part) c.in_ok-happened.ensures.ran 0
    c.requires.none (no_yes said c.in_default.not-Did)

pub returns-in_default-clause-spare : goal.returns-in_default-clause-spare
returns-in_default-clause-spare g c =
    let operation = part_at c.args.command.now c.args.at.part in
    let stay = count_stays g.P.PoolName.sizes g.N.BookName.sizes.shards c.args.at operation c.in_ok-happened.field-0
    c.args.pass.now c.run_part.new.pass c.args.stored.now.items c.run_part.new.stored.items c.args.plan.now
    c.run_part.new.plan
    (count_part c.args.command.now c.requires.kind c.args.at.part c.requires.part) c.in_ok-happened.ensures.ran in
    omega (arith, ap (λ (l : List Seg). length l) stay, c.in_ok-happened.ensures.spare)

pub returns-in_default-clause-segs : goal.returns-in_default-clause-segs
returns-in_default-clause-segs g c =
    count_stays g.P.PoolName.sizes g.N.BookName.sizes.shards c.args.at (part_at c.args.command.now c.args.at.part)
    c.in_ok-happened.field-0 c.args.pass.now c.run_part.new.pass c.args.stored.now.items c.run_part.new.stored.items
    c.args.plan.now c.run_part.new.plan
    (count_part c.args.command.now c.requires.kind c.args.at.part c.requires.part) c.in_ok-happened.ensures.ran

pub returns-in-Did-clause-segs : goal.returns-in-Did-clause-segs
returns-in-Did-clause-segs g c =
    count_stays g.P.PoolName.sizes g.N.BookName.sizes.shards c.args.at (part_at c.args.command.now c.args.at.part)
    c.in_ok-happened.field-0 c.args.pass.now c.run_part.new.pass c.args.stored.now.items c.run_part.new.stored.items
    c.args.plan.now c.run_part.new.plan
    (count_part c.args.command.now c.requires.kind c.args.at.part c.requires.part) c.in_ok-happened.ensures.ran
