use Rattle.std.proofs.Common.{◌++◌, ◌∷◌, [], ◌∙◌, ap, sym, arith}
use Rattle.std.specs.Fmt.{decimal}
use Rattle.flake_model.proofs.Decimals.{one_digit_more}
use Rattle.resp_reader.proofs.head.one_more.Goals as goal

pub returns-clause-text : goal.returns-clause-text
returns-clause-text c = one_digit_more c.args.n c.digit.result (omega arith) (omega arith) c.digit.ensures.small
    ∙ ap (λ b. decimal c.args.n ++ b ∷ []) (sym c.digit.ensures.byte)
