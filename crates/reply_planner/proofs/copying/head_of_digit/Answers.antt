use Rattle.std.proofs.Common.{◌∷◌, ◌++◌, sym, ap}
use Rattle.std.proofs.lemmas.Fmt.{decimal_digit}
use Rattle.flake_model.specs.Resp.{crlf}
use Rattle.reply_planner.proofs.copying.head_of_digit.Goals as goal

pub returns : goal.returns
returns c = ap (λ ds. 36 ∷ ds ++ crlf) (sym (decimal_digit c.args.len c.requires))
