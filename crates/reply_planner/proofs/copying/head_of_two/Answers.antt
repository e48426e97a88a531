use Rattle.std.proofs.Common.{◌≡◌, ◌+◌, ◌/◌, ◌%◌, [], ◌∷◌, ◌++◌, sym, ap, ◌∙◌, arith}
use Rattle.std.specs.Fmt.{decimal}
use Rattle.std.proofs.lemmas.Fmt.{decimal_digit, decimal_step}
use Rattle.flake_model.specs.Resp.{crlf}
use Rattle.reply_planner.proofs.copying.head_of_two.Goals as goal

pub returns : goal.returns
returns c =
    let n = c.args.len in
    let first : decimal (n / 10) ≡ (48 + n / 10) ∷ [] = decimal_digit (n / 10) (omega (arith, c.requires.1)) in
    let all : decimal n ≡ decimal (n / 10) ++ (48 + n % 10) ∷ [] = decimal_step n c.requires.0
    (omega (arith, c.requires.1)) in
    ap (λ ds. 36 ∷ ds ++ crlf) (sym (all ∙ ap (λ ds. ds ++ (48 + n % 10) ∷ []) first))
