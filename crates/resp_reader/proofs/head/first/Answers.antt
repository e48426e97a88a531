use Rattle.std.proofs.Common.{[], ◌∷◌, sym, ◌∙◌, ap}
use Rattle.std.proofs.lemmas.Fmt.{decimal_digit}
use Rattle.resp_reader.proofs.Heads.{minus_in_length, no_first}
use Rattle.resp_reader.proofs.head.first.Goals as goal

pub returns-in-Length-clause-none : goal.returns-in-Length-clause-none
returns-in-Length-clause-none c = rw (c.in-Length.is, c.if-byte-eq45.true) minus_in_length

pub returns-in_default-clause-none : goal.returns-in_default-clause-none
returns-in_default-clause-none c = no_first c.args.head c.args.byte c.requires c.if-byte-eq45.false
    c.in_default.ensures.none

pub returns-clause-some : goal.returns-clause-some
returns-clause-some c = decimal_digit c.in-Some.digit c.in-Some.ensures.some.0
    ∙ ap (λ b. b ∷ []) (sym c.in-Some.ensures.some.1)
