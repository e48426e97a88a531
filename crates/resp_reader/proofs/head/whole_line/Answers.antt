use Rattle.std.proofs.Common.{rules, ◌≡◌, ◌++◌, ◌∷◌, [], ◌∙◌, ap, sym, subst, List, ℕ}
use Rattle.std.specs.Prelude.{IfSome}
use Rattle.std.specs.Fmt.{decimal}
use Rattle.std.proofs.lemmas.Fmt.{decimal_digit}
use Rattle.resp_reader.proofs.head.whole_line.Goals as goal

-- the first byte is the first digit
pub returns-clause-text : goal.returns-clause-text
returns-clause-text c =
    let digit = c.digit.result in
    let rest = c.in-Some.rest.now in
    let all : c.in-Some.first.now ∷ rest ≡ c.args.bytes.now = search rules in
    let first : decimal digit ++ rest ≡ c.args.bytes.now =
    ap (λ (t : List ℕ). t ++ rest)
    (decimal_digit digit c.digit.ensures.small ∙ ap (λ b. b ∷ []) (sym c.digit.ensures.byte)) ∙ all in
    subst (λ (b : List ℕ). IfSome c.short_line.result (λ found. b ≡ decimal found.0 ++ 13 ∷ 10 ∷ found.1.now)) first
    c.short_line.ensures.text
