use Rattle.resp_reader.proofs.Heads.{fault_at}
use Rattle.resp_reader.proofs.head.all.Goals as goal

pub returns-in_default-clause-err : goal.returns-in_default-clause-err
returns-in_default-clause-err c = fault_at c.args.head c.args.digits c.loop-i.line c.args.bytes.now c.loop-i.i
    c.loop-i.invariant.allowed c.loop-i-test.true c.loop-i.invariant.came c.in_default.ensures.none
