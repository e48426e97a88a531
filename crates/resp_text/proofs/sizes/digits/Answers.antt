use Rattle.std.proofs.Common.{◌∙◌, ap, length, sym, arith}
use Rattle.std.specs.Fmt.{decimal}
use Rattle.std.proofs.lemmas.Fmt.{decimal_digit}
use Rattle.resp_text.proofs.Digits.{length-decimal}
use Rattle.resp_text.proofs.sizes.digits.Goals as goal

pub returns-in-Some-clause-count : goal.returns-in-Some-clause-count
returns-in-Some-clause-count c =
    sym (length-decimal c.args.n c.in-Some.power (omega arith) c.in-Some.ensures.power_le
    c.in-Some.ensures.next_power_gt)

pub returns-in-None-clause-count : goal.returns-in-None-clause-count
returns-in-None-clause-count c = sym (ap length (ap decimal c.in-None.ensures.none ∙ decimal_digit 0 (omega arith)))
