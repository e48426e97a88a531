use Rattle.std.proofs.Common.{[], ◌∷◌, ◌++◌, None, ◌+◌, length, refl, ap, subst, ◌∙◌, arith}
use Rattle.flake_base.specs.declared.journal.Entry.{Entry}
use Rattle.frag_value.specs.Taken.{copied}
use Rattle.reply_planner.specs.Planned.{planned, left_of}
use Rattle.shard_core.specs.Outcomes.{entry_at}
use Rattle.command_exec.specs.Kinds.{part_at}
use Rattle.command_exec.specs.Lines.{number_line}
use Rattle.command_exec.specs.Parted.{AddsValue}
use Rattle.command_exec.proofs.Asked.{on_err}
use Rattle.command_exec.proofs.Growing.{next_missed}
use Rattle.command_exec.proofs.SoFar.{no_values, value_more, all_values, head_room}
use Rattle.command_exec.proofs.answering.answer_values.Goals as goal

pub loop-j-init : goal.loop-j-init
loop-j-init g c =
    let command = c.args.command.now in
    let p = c.args.plan.now in
    let q = c.copy_line.new.plan in
    let n = c.count-count.ensures.parts in
    record {
      so_far = no_values g.P.PoolName.sizes g.N.BookName.sizes.shards c.args.at.call command c.args.pass.now
          c.args.stored.now.items p q c.requires.started.taken
          (c.copy_line.ensures.plan ∙ ap (λ m. planned p.base (p.taken ++ copied (number_line 42 m) ∷ []) None) n)
          (head_room command p q c.requires.kind c.requires.started
          (c.copy_line.ensures.left ∙ ap (λ m. left_of q + length (number_line 42 m)) n) c.copy_line.ensures.slots);
      segs = refl;
      spare = c.requires.spare;
      kept = omega arith;
    }

pub returns-in_err-answer_value-clause-stopped : goal.returns-in_err-answer_value-clause-stopped
returns-in_err-answer_value-clause-stopped g c =
    let so = c.loop-j.invariant.so_far in
    on_err c.from_residual.result
    (next_missed g.P.PoolName.sizes g.N.BookName.sizes.shards c.args.command.now c.loop-j.j so.outcomes c.args.at
    c.entry_of-next.result c.args.pass.now c.loop-j.pass c.answer_value.new.pass c.args.stored.now.items
    c.loop-j.stored.items so.count
    (omega (arith, c.loop-j-test.true, c.count-count.ensures.parts)) c.entry_of-next.ensures so.ran
    c.in_err-answer_value.ensures.missed)

pub returns-in_err-answer_value-clause-untold : goal.returns-in_err-answer_value-clause-untold
returns-in_err-answer_value-clause-untold g c = on_err c.from_residual.result
    (c.in_err-answer_value.ensures.segs ∙ c.loop-j.invariant.segs)

pub loop-j-preserved : goal.loop-j-preserved
loop-j-preserved g c =
    let z = g.P.PoolName.sizes in
    let shards = g.N.BookName.sizes.shards in
    let command = c.args.command.now in
    let j = c.loop-j.j in
    let q = c.loop-j.plan in
    let r = c.answer_value.new.plan in
    let at : Entry = entry_at c.args.at.session c.args.at.call j in
    let adds : AddsValue z shards at (part_at command j) c.loop-j.pass c.answer_value.new.pass c.loop-j.stored.items
    c.answer_value.new.stored.items q r =
    subst (λ (e : Entry). AddsValue z shards e (part_at command e.part) c.loop-j.pass c.answer_value.new.pass
    c.loop-j.stored.items c.answer_value.new.stored.items q r) c.entry_of-next.ensures
    c.in_ok-answer_value.ensures.value in
    record {
      so_far = value_more z shards command j at c.args.pass.now c.loop-j.pass c.answer_value.new.pass
          c.args.stored.now.items c.loop-j.stored.items c.answer_value.new.stored.items c.args.plan.now q r
          (omega (arith, c.loop-j-test.true, c.count-count.ensures.parts)) refl c.requires.session
          c.in_ok-answer_value.ensures.base c.loop-j.invariant.so_far adds;
      segs = c.in_ok-answer_value.ensures.segs ∙ c.loop-j.invariant.segs;
      spare = omega (arith, c.loop-j.invariant.spare, c.in_ok-answer_value.ensures.spare);
      kept = omega (arith, c.loop-j.invariant.kept, c.in_ok-answer_value.ensures.spare);
    }

pub returns-clause-reply : goal.returns-clause-reply
returns-clause-reply g c =
    all_values g.P.PoolName.sizes g.N.BookName.sizes.shards c.args.at.call c.args.command.now c.loop-j.j c.args.pass.now
    c.loop-j.pass c.args.stored.now.items c.loop-j.stored.items c.args.plan.now c.loop-j.plan c.requires.kind
    (omega (arith, c.loop-j-test.false, c.loop-j.auto.j-end, c.count-count.ensures.parts)) c.loop-j.invariant.so_far

pub returns-clause-spare : goal.returns-clause-spare
returns-clause-spare g c = omega (arith, c.loop-j.invariant.kept, ap length c.loop-j.invariant.segs)
