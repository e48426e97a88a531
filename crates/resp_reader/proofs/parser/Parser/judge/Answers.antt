use Rattle.std.proofs.Common.{subst, arith}
use Rattle.resp_reader.specs.Begun.{begun_front}
use Rattle.resp_reader.specs.Parser.{StopsAt, HasFault}
use Rattle.resp_reader.proofs.Parsers.{fault_within}
use Rattle.resp_reader.proofs.parser.Parser.judge.Goals as goal

pub overflow_add-fed : goal.overflow_add-fed
overflow_add-fed c =
    let fault : HasFault c.args.self.now c.take.new.self c.args.piece.now c.in-Err-Fault.kind c.in-Err-Fault.place =
    subst (StopsAt c.args.self.now c.take.new.self c.args.piece.now) c.in-Err-Fault.field-0-is
    c.in-Err-Fault.ensures.err in
    omega (
      arith,
      fault_within (begun_front c.args.self.now.begun) c.args.piece.now fault.requests c.in-Err-Fault.kind
          c.in-Err-Fault.place fault.faulty,
      c.requires.judged,
    )
