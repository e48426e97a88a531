use Rattle.std.proofs.Common.{subst}
use Rattle.resp_reader.specs.Head.{IsDigits}
use Rattle.resp_reader.proofs.Heads.{behind_minus, behind_minus_one}
use Rattle.resp_reader.proofs.head.Digits.next.Goals as goal

pub returns-else-byte-eq49-clause-none : goal.returns-else-byte-eq49-clause-none
returns-else-byte-eq49-clause-none c =
    rw c.in-Minus.is (behind_minus c.args.head c.args.byte
    (subst (IsDigits c.args.head) c.in-Minus.is c.requires.allowed) c.if-byte-eq49.false)

pub returns-in-MinusOne-clause-none : goal.returns-in-MinusOne-clause-none
returns-in-MinusOne-clause-none c =
    rw c.in-MinusOne.is (behind_minus_one c.args.head c.args.byte
    (subst (IsDigits c.args.head) c.in-MinusOne.is c.requires.allowed) c.requires.inside)
