use Rattle.std.proofs.Common.{◌≡◌, ◌+◌, ◌/◌, ◌%◌, [], ◌∷◌, ◌++◌, sym, ap, ◌∙◌, arith}
use Rattle.std.specs.Fmt.{decimal}
use Rattle.std.proofs.lemmas.Fmt.{decimal_digit, decimal_step}
use Rattle.flake_model.specs.Resp.{crlf}
use Rattle.reply_planner.proofs.copying.head_of_three.Goals as goal

pub returns : goal.returns
returns c =
    let n = c.args.len in
    let m = n / 10 in
    let first : decimal (m / 10) ≡ (48 + m / 10) ∷ [] = decimal_digit (m / 10) (omega (arith, c.requires.1)) in
    let front : decimal m ≡ decimal (m / 10) ++ (48 + m % 10) ∷ [] = decimal_step m (omega (arith, c.requires.0))
    (omega (arith, c.requires.1)) in
    let all : decimal n ≡ decimal m ++ (48 + n % 10) ∷ [] = decimal_step n (omega (arith, c.requires.0))
    (omega (arith, c.requires.1)) in
    ap (λ ds. 36 ∷ ds ++ crlf)
    (sym (all ∙ ap (λ ds. ds ++ (48 + n % 10) ∷ []) (front ∙ ap (λ ds. ds ++ (48 + m % 10) ∷ []) first)))
