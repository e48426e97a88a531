use Rattle.std.proofs.Common.{ℕ, ◌+◌, ◌*◌, ◌<◌, [], ◌∷◌, ◌++◌, sym, ◌∙◌, ap, subst, arith}
use Rattle.std.specs.Fmt.{decimal}
use Rattle.resp_reader.specs.Head.{NoLine, number_limit}
use Rattle.flake_model.proofs.Decimals.{one_digit_more}
use Rattle.resp_reader.proofs.Heads.{no_more, behind_first_zero, past_limit}
use Rattle.resp_reader.proofs.head.more.Goals as goal

pub returns-in_default-clause-none : goal.returns-in_default-clause-none
returns-in_default-clause-none c = no_more c.args.head c.args.n c.args.byte c.requires.allowed c.requires.inside
    c.in_default.ensures.none

pub returns-then-n-eq0-clause-none : goal.returns-then-n-eq0-clause-none
returns-then-n-eq0-clause-none c = rw c.if-n-eq0.true (behind_first_zero c.args.head c.args.byte c.requires.inside)

pub returns-then-next-limit-clause-none : goal.returns-then-next-limit-clause-none
returns-then-next-limit-clause-none c =
    let large : number_limit c.args.head < c.args.n * 10 + c.in-Some.digit =
    subst (λ (limit : ℕ). limit < c.args.n * 10 + c.in-Some.digit) c.limit.ensures c.if-next-limit.true in
    subst (λ byte. NoLine c.args.head (decimal c.args.n) byte) (sym c.in-Some.ensures.some.1)
    (past_limit c.args.head c.args.n c.in-Some.digit c.requires.allowed c.in-Some.ensures.some.0 large)

pub returns-clause-some : goal.returns-clause-some
returns-clause-some c = one_digit_more c.args.n c.in-Some.digit (omega arith) (omega arith) c.in-Some.ensures.some.0
    ∙ ap (λ b. decimal c.args.n ++ b ∷ []) (sym c.in-Some.ensures.some.1)
