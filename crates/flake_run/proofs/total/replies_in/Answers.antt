use Rattle.std.proofs.Common.{◌≤◌, ◌+◌, rules, arith, ap}
use Rattle.flake_run.proofs.Sums.{replies_step, replies_all}
use Rattle.flake_run.proofs.total.replies_in.Goals as goal

pub overflow_add-replies : goal.overflow_add-replies
overflow_add-replies c =
    let small : c.from-replies.result ≤ 4294967295 = search rules in
    omega (arith, c.loop-end.invariant.few, c.loop-end-test.true, c.requires, small)

pub loop-end-preserved : goal.loop-end-preserved
loop-end-preserved c =
    let small : c.from-replies.result ≤ 4294967295 = search rules in
    record {
      sum = replies_step c.args.ends.now c.loop-end.end-index _ _ _ c.loop-end.invariant.sum
          (ap (λ n. c.loop-end.replies + n) c.from-replies.ensures) c.loop-end-test.true;
      few = omega (arith, c.loop-end.invariant.few, small);
    }

pub returns : goal.returns
returns c = replies_all c.args.ends.now c.loop-end.end-index _ c.loop-end.invariant.sum (omega arith)
