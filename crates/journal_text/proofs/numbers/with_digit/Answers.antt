use Rattle.std.proofs.Common.{◌≡◌, ◌+◌, [], ◌∷◌, ◌++◌, ◌∙◌, refl, sym, ap, arith}
use Rattle.std.specs.Fmt.{decimal}
use Rattle.flake_model.proofs.Decimals.{one_digit_more}
use Rattle.journal_text.proofs.Decimals.{no_other_byte, behind_first_zero, larger_front}
use Rattle.journal_text.proofs.numbers.with_digit.Goals as goal
use Rattle.journal_text.proofs.numbers.with_digit.Goals.{then-n-eq0-via-then-n-eq0}
use Rattle.journal_text.proofs.numbers.with_digit.Goals.{then-n-eq0-via-else-n-eq0+then-limit-next}

pub returns-in_err-digit-clause-none : goal.returns-in_err-digit-clause-none
returns-in_err-digit-clause-none c = λ none m more below is. no_other_byte m (decimal c.args.n) c.args.byte more
    (c.in_err-digit.ensures.none refl) is

pub returns-then-n-eq0-clause-none : goal.returns-then-n-eq0-clause-none
returns-then-n-eq0-clause-none c = λ none m more below is.
    let digit = c.in_ok-digit.digit in
    let byte_is : c.args.byte ≡ 48 + digit = c.in_ok-digit.ensures.some.1 in
    elim c.then-n-eq0.branch [
      | then-n-eq0-via-then-n-eq0 w ↦
          (let zero_is : c.args.n ≡ 0 = w.if-n-eq0.true in
          behind_first_zero m c.args.byte more (omega arith) (λ end. omega arith)
          (is ∙ ap (λ n. decimal n ++ c.args.byte ∷ more) zero_is))
      | then-n-eq0-via-else-n-eq0+then-limit-next w ↦
          larger_front m c.args.n digit more (omega arith) c.in_ok-digit.ensures.some.0 (omega arith)
          (omega (arith, w.if-limit-next.true)) (is ∙ ap (λ b. decimal c.args.n ++ b ∷ more) byte_is)
    ]

pub returns-clause-some : goal.returns-clause-some
returns-clause-some c =
    one_digit_more c.args.n c.in_ok-digit.digit (omega (arith, c.if-n-eq0.false))
    (omega arith) c.in_ok-digit.ensures.some.0 ∙ ap (λ b. decimal c.args.n ++ b ∷ [])
    (sym c.in_ok-digit.ensures.some.1)
