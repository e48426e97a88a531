use Rattle.std.proofs.Common.{◌≡◌, ◌++◌, [], List, None, false, length, sym, ap, ◌∙◌, arith}
use Rattle.flake_base.specs.declared.segment.Seg.{Seg}
use Rattle.shard_core.specs.Done.{is_ranged}
use Rattle.frag_value.specs.Taken as taken
use Rattle.reply_planner.specs.Planned.{Planned, planned}
use Rattle.std.proofs.Common.{get_or}
use Rattle.command_exec.specs.Kinds.{part_at}
use Rattle.command_exec.proofs.Asked.{keys_of, value_part}
use Rattle.command_exec.proofs.OneValue.{adds_value, bulk_plan, segs_stay, null_item, null_fits}
use Rattle.command_exec.proofs.answering.answer_value.Goals as goal

pub run_part-requires-clause-range_room : goal.run_part-requires-clause-range_room
run_part-requires-clause-range_room g c = λ ranged.
    let plain : is_ranged (part_at c.args.command.now c.args.at.part) ≡ false =
    ap is_ranged (value_part c.args.command.now c.requires.kind c.args.at.part) in
    absurd (let no : ⊥ = cc in no)

pub returns-in-Bulk-clause-value : goal.returns-in-Bulk-clause-value
returns-in-Bulk-clause-value g c =
    let operation = part_at c.args.command.now c.args.at.part in
    let plain : is_ranged operation ≡ false =
    ap is_ranged (value_part c.args.command.now c.requires.kind c.args.at.part) in
    let said = c.in_ok-run_part.field-0 in
    let mid = c.run_part.new.plan in
    let ran = c.in_ok-run_part.ensures.ran in
    adds_value g.P.PoolName.sizes g.N.BookName.sizes.shards c.args.at operation said c.args.pass.now c.run_part.new.pass
    c.args.stored.now.items c.run_part.new.stored.items c.args.plan.now mid ran
    mid c.requires.none plain
    (bulk_plan g.P.PoolName.sizes g.N.BookName.sizes.shards c.args.at operation said c.args.pass.now c.run_part.new.pass
    c.args.stored.now.items c.run_part.new.stored.items c.args.plan.now mid ran c.in-Bulk.is)
    (omega arith)

pub returns-in-Bulk-clause-spare : goal.returns-in-Bulk-clause-spare
returns-in-Bulk-clause-spare g c =
    let operation = part_at c.args.command.now c.args.at.part in
    let stay = segs_stay g.P.PoolName.sizes g.N.BookName.sizes.shards c.args.at operation c.in_ok-run_part.field-0
    c.args.pass.now c.run_part.new.pass c.args.stored.now.items c.run_part.new.stored.items c.args.plan.now
    c.run_part.new.plan
    c.in_ok-run_part.ensures.ran (get_or (keys_of c.args.command.now) c.args.at.part [])
    (value_part c.args.command.now c.requires.kind c.args.at.part) in
    omega (arith, ap (λ (l : List Seg). length l) stay, c.in_ok-run_part.ensures.spare)

pub copy-requires : goal.copy-requires
copy-requires g c =
    let operation = part_at c.args.command.now c.args.at.part in
    let plain : is_ranged operation ≡ false =
    ap is_ranged (value_part c.args.command.now c.requires.kind c.args.at.part) in
    let ran = c.in_ok-run_part.ensures.ran in
    let fits = null_fits g.P.PoolName.sizes g.N.BookName.sizes.shards c.args.at operation c.in_ok-run_part.field-0
    c.args.pass.now c.run_part.new.pass c.args.stored.now.items c.run_part.new.stored.items c.args.plan.now
    c.run_part.new.plan ran
    c.in_default.not-Bulk c.requires.room plain in
    record { none = ap (λ (q : Planned). q.begun) ran.plan; fits = omega (arith, fits) }

pub returns-in_default-clause-value : goal.returns-in_default-clause-value
returns-in_default-clause-value g c =
    let operation = part_at c.args.command.now c.args.at.part in
    let plain : is_ranged operation ≡ false =
    ap is_ranged (value_part c.args.command.now c.requires.kind c.args.at.part) in
    let said = c.in_ok-run_part.field-0 in
    let mid = c.run_part.new.plan in
    let item = null_item said c.in_default.not-Bulk in
    adds_value g.P.PoolName.sizes g.N.BookName.sizes.shards c.args.at operation said c.args.pass.now c.run_part.new.pass
    c.args.stored.now.items c.run_part.new.stored.items c.args.plan.now mid c.in_ok-run_part.ensures.ran
    c.copy.new.self c.requires.none plain
    (c.copy.ensures.plan ∙ ap (λ (l : List taken.TakenPiece). planned mid.base (mid.taken ++ l) None) (sym item))
    (omega (arith, c.copy.ensures.room (omega arith), ap (λ (l : List taken.TakenPiece). length l) item))

pub returns-in_default-clause-spare : goal.returns-in_default-clause-spare
returns-in_default-clause-spare g c =
    let operation = part_at c.args.command.now c.args.at.part in
    let stay = segs_stay g.P.PoolName.sizes g.N.BookName.sizes.shards c.args.at operation c.in_ok-run_part.field-0
    c.args.pass.now c.run_part.new.pass c.args.stored.now.items c.run_part.new.stored.items c.args.plan.now
    c.run_part.new.plan
    c.in_ok-run_part.ensures.ran (get_or (keys_of c.args.command.now) c.args.at.part [])
    (value_part c.args.command.now c.requires.kind c.args.at.part) in
    omega (arith, ap (λ (l : List Seg). length l) stay, c.in_ok-run_part.ensures.spare)

pub returns-in-Bulk-clause-segs : goal.returns-in-Bulk-clause-segs
returns-in-Bulk-clause-segs g c =
    segs_stay g.P.PoolName.sizes g.N.BookName.sizes.shards c.args.at (part_at c.args.command.now c.args.at.part)
    c.in_ok-run_part.field-0 c.args.pass.now c.run_part.new.pass c.args.stored.now.items c.run_part.new.stored.items
    c.args.plan.now c.run_part.new.plan
    c.in_ok-run_part.ensures.ran (get_or (keys_of c.args.command.now) c.args.at.part [])
    (value_part c.args.command.now c.requires.kind c.args.at.part)

pub returns-in_default-clause-segs : goal.returns-in_default-clause-segs
returns-in_default-clause-segs g c =
    segs_stay g.P.PoolName.sizes g.N.BookName.sizes.shards c.args.at (part_at c.args.command.now c.args.at.part)
    c.in_ok-run_part.field-0 c.args.pass.now c.run_part.new.pass c.args.stored.now.items c.run_part.new.stored.items
    c.args.plan.now c.run_part.new.plan
    c.in_ok-run_part.ensures.ran (get_or (keys_of c.args.command.now) c.args.at.part [])
    (value_part c.args.command.now c.requires.kind c.args.at.part)
