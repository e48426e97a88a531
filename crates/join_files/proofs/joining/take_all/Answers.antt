use Rattle.std.proofs.Common.{◌≡◌, ◌<◌, ◌+◌, length, arith, sym, ap, ◌∙◌, subst, length-drop}
use Rattle.std.proofs.lemmas.Bool.{eqb-false, eqb-true}
use Rattle.join_files.specs.Cutting.{next_length}
use Rattle.join_files.specs.Joined.{IsRefusedAt, IsTakenAs}
use Rattle.join_files.proofs.Taking.{all_taken, one_more, one_refused, why_refused}
use Rattle.join_files.proofs.joining.take_all.Goals as goal

pub returns-in-Err-clause-err : goal.returns-in-Err-clause-err
returns-in-Err-clause-err c =
    let before = c.loop-rest.invariant in
    let some : 0 < length c.loop-rest.rest.now =
    let filled = eqb-false (length c.loop-rest.rest.now) 0 (sym c.is_empty.ensures ∙ c.loop-rest-test.true) in
    omega (arith, filled) in
    let first = one_refused c.args.joiner.now.mtu c.args.joiner.now.calls c.args.bytes.now c.loop-rest.rest.now
    c.loop-rest.number c.loop-rest.joiner.frames c.split_frame.result.0.now c.split_frame.result.1.now some
    before.taken before.behind c.split_frame.ensures.frame c.split_frame.ensures.behind
    (c.loop-rest.number + 1) (omega arith) in
    why_refused c.in-Err.error c.args.joiner.now.mtu c.args.joiner.now.calls (c.loop-rest.number + 1) _
    c.loop-rest.joiner.frames c.split_frame.result.0.now first
    (subst (λ n. IsRefusedAt c.in-Err.error (c.loop-rest.number + 1) c.args.joiner.now.mtu n c.loop-rest.joiner.frames
    c.split_frame.result.0.now) before.same.1
    (subst (λ m. IsRefusedAt c.in-Err.error (c.loop-rest.number + 1) m c.loop-rest.joiner.calls
    c.loop-rest.joiner.frames c.split_frame.result.0.now) before.same.0 c.in-Err.ensures.err))

pub loop-rest-preserved : goal.loop-rest-preserved
loop-rest-preserved c =
    let before = c.loop-rest.invariant in
    let some : 0 < length c.loop-rest.rest.now =
    let filled = eqb-false (length c.loop-rest.rest.now) 0 (sym c.is_empty.ensures ∙ c.loop-rest-test.true) in
    omega (arith, filled) in
    let took = one_more c.args.joiner.now.mtu c.args.joiner.now.calls c.args.bytes.now c.loop-rest.rest.now
    c.loop-rest.number c.loop-rest.joiner.frames c.split_frame.result.0.now c.split_frame.result.1.now some
    before.taken before.behind c.split_frame.ensures.frame c.split_frame.ensures.behind c.take_one.new.joiner.frames
    (subst (λ n. IsTakenAs c.args.joiner.now.mtu n c.split_frame.result.0.now c.loop-rest.joiner.frames
    c.take_one.new.joiner.frames) before.same.1
    (subst (λ m. IsTakenAs m c.loop-rest.joiner.calls c.split_frame.result.0.now c.loop-rest.joiner.frames
    c.take_one.new.joiner.frames) before.same.0 c.in-Ok.ensures.ok)) in
    let short = ap length c.split_frame.ensures.behind in
    record {
      taken = took.taken;
      behind = took.behind_is;
      counted = omega (
        arith,
        before.counted,
        some,
        short,
        length-drop (next_length c.loop-rest.rest.now)
            c.loop-rest.rest.now,
      );
      same = (c.in-Ok.ensures.same.0 ∙ before.same.0, c.in-Ok.ensures.same.1 ∙ before.same.1);
    }

pub returns-clause-ok : goal.returns-clause-ok
returns-clause-ok c =
    all_taken c.args.joiner.now.mtu c.args.joiner.now.calls c.args.bytes.now c.loop-rest.rest.now c.loop-rest.number
    c.loop-rest.joiner.frames
    (eqb-true (length c.loop-rest.rest.now) 0 (sym c.is_empty.ensures ∙ c.loop-rest-test.false))
    c.loop-rest.invariant.taken c.loop-rest.invariant.behind
