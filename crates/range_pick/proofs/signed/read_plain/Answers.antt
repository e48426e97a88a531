use Rattle.std.proofs.Common.{arith}
use Rattle.range_pick.proofs.Plain.{no_more}
use Rattle.range_pick.proofs.signed.read_plain.Goals as goal

pub returns-in_err-checked_mul-clause-none : goal.returns-in_err-checked_mul-clause-none
returns-in_err-checked_mul-clause-none c = λ none.
    no_more c.args.word.now c.loop-byte.byte-index c.loop-byte.number (omega arith) c.loop-byte.invariant
    (omega (arith, c.in_err-checked_mul.ensures))

pub returns-in_err-number-clause-none : goal.returns-in_err-number-clause-none
returns-in_err-number-clause-none c = λ none.
    no_more c.args.word.now c.loop-byte.byte-index c.loop-byte.number (omega arith) c.loop-byte.invariant
    (omega (arith, c.in_err-number.ensures, c.in_ok-checked_mul.ensures))
