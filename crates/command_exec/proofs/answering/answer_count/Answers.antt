use Rattle.std.proofs.Common.{length, refl, ap, subst, ◌∙◌, arith}
use Rattle.flake_base.specs.declared.journal.Entry.{Entry}
use Rattle.shard_core.specs.Outcomes.{entry_at}
use Rattle.command_exec.specs.Kinds.{part_at}
use Rattle.command_exec.specs.Parted.{CountsKey}
use Rattle.command_exec.proofs.Asked.{on_err}
use Rattle.command_exec.proofs.Growing.{next_missed}
use Rattle.command_exec.proofs.Counting.{no_keys, key_more, all_counted}
use Rattle.command_exec.proofs.answering.answer_count.Goals as goal

pub loop-j-init : goal.loop-j-init
loop-j-init g c = record {
  so_far = no_keys g.P.PoolName.sizes g.N.BookName.sizes.shards c.args.at.call c.args.command.now c.args.pass.now
      c.args.stored.now.items c.args.plan.now;
  segs = refl;
  spare = c.requires.spare;
  kept = omega arith;
}

pub returns-in_err-there-clause-stopped : goal.returns-in_err-there-clause-stopped
returns-in_err-there-clause-stopped g c =
    let so = c.loop-j.invariant.so_far in
    on_err c.from_residual.result
    (next_missed g.P.PoolName.sizes g.N.BookName.sizes.shards c.args.command.now c.loop-j.j so.outcomes c.args.at
    c.entry_of-next.result c.args.pass.now c.loop-j.pass c.count_key.new.pass c.args.stored.now.items
    c.loop-j.stored.items so.count
    (omega (arith, c.loop-j-test.true, c.count-j-end.ensures.parts)) c.entry_of-next.ensures so.ran
    c.in_err-there.ensures.missed)

pub returns-in_err-there-clause-untold : goal.returns-in_err-there-clause-untold
returns-in_err-there-clause-untold g c = on_err c.from_residual.result
    (c.in_err-there.ensures.segs ∙ c.loop-j.invariant.segs)

pub loop-j-preserved : goal.loop-j-preserved
loop-j-preserved g c =
    let z = g.P.PoolName.sizes in
    let shards = g.N.BookName.sizes.shards in
    let command = c.args.command.now in
    let j = c.loop-j.j in
    let q = c.loop-j.plan in
    let r = c.count_key.new.plan in
    let n = c.in_ok-there.field-0 in
    let at : Entry = entry_at c.args.at.session c.args.at.call j in
    let counts : CountsKey z shards at (part_at command j) n c.loop-j.pass c.count_key.new.pass c.loop-j.stored.items
    c.count_key.new.stored.items q r =
    subst (λ (e : Entry). CountsKey z shards e (part_at command e.part) n c.loop-j.pass c.count_key.new.pass
    c.loop-j.stored.items c.count_key.new.stored.items q r) c.entry_of-next.ensures c.in_ok-there.ensures.counted in
    record {
      so_far = key_more z shards command j c.loop-j.there n at c.args.pass.now c.loop-j.pass c.count_key.new.pass
          c.args.stored.now.items c.loop-j.stored.items c.count_key.new.stored.items c.args.plan.now q r
          (omega (arith, c.loop-j-test.true, c.count-j-end.ensures.parts)) refl c.requires.session
          c.loop-j.invariant.so_far counts;
      segs = c.in_ok-there.ensures.segs ∙ c.loop-j.invariant.segs;
      spare = omega (arith, c.loop-j.invariant.spare, c.in_ok-there.ensures.spare);
      kept = omega (arith, c.loop-j.invariant.kept, c.in_ok-there.ensures.spare);
    }

pub returns-clause-reply : goal.returns-clause-reply
returns-clause-reply g c =
    all_counted g.P.PoolName.sizes g.N.BookName.sizes.shards c.args.at.call c.args.command.now c.loop-j.j c.loop-j.there
    c.args.pass.now c.loop-j.pass c.args.stored.now.items c.loop-j.stored.items c.args.plan.now c.loop-j.plan
    c.copy_line.new.plan c.requires.kind
    (omega (arith, c.loop-j-test.false, c.loop-j.auto.j-end, c.count-j-end.ensures.parts)) c.requires.started.taken
    c.loop-j.invariant.so_far c.copy_line.ensures.plan

pub returns-clause-spare : goal.returns-clause-spare
returns-clause-spare g c = omega (arith, c.loop-j.invariant.kept, ap length c.loop-j.invariant.segs)
