use Rattle.std.proofs.Common.{rules, ◌≡◌, ◌∷◌, [], ◌∙◌, refl, sym, ap, arith, length, take}
use Rattle.std.specs.Fmt.{decimal}
use Rattle.std.proofs.lemmas.Fmt.{decimal_nonempty, decimal_digit}
use Rattle.flake_model.proofs.Decimals.{same_decimal}
use Rattle.journal_text.proofs.Decimals.{no_other_byte, no_more_at, whole_word}
use Rattle.journal_text.proofs.numbers.number.Goals as goal

pub returns-in_err-first-clause-none : goal.returns-in_err-first-clause-none
returns-in_err-first-clause-none c = λ none n below is.
    let empty : length c.args.word.now ≡ 0 = search rules in
    omega (arith, decimal_nonempty n (omega arith), ap length is)

pub returns-in_err-n-clause-none : goal.returns-in_err-n-clause-none
returns-in_err-n-clause-none c = λ none n below is.
    let all : c.in_ok-first.first.now ∷ c.in_ok-first.rest.now ≡ c.args.word.now = search rules in
    no_other_byte n [] c.in_ok-first.first.now c.in_ok-first.rest.now (c.in_err-n.ensures.none refl) (sym is ∙ sym all)

pub loop-byte-init : goal.loop-byte-init
loop-byte-init c =
    let all : c.in_ok-first.first.now ∷ c.in_ok-first.rest.now ≡ c.args.word.now = search rules in
    let digit = c.in_ok-n.ensures.some in
    record {
      small = omega (arith, digit.0);
      came = decimal_digit c.in_ok-n.n digit.0 ∙ ap (λ byte. byte ∷ []) (sym digit.1) ∙ ap (take 1) all;
    }

pub returns-in_err-n-2-clause-none : goal.returns-in_err-n-2-clause-none
returns-in_err-n-2-clause-none c = λ none n below is.
    let all : c.in_ok-first.first.now ∷ c.in_ok-first.rest.now ≡ c.args.word.now = search rules in
    no_more_at c.args.limit c.args.word.now c.in_ok-first.rest.now c.in_ok-first.first.now c.loop-byte.n
    c.loop-byte.byte-index all (omega arith) c.loop-byte.invariant.came (c.in_err-n-2.ensures.none refl) n below is

pub returns-else-n-limit-clause-none : goal.returns-else-n-limit-clause-none
returns-else-n-limit-clause-none c = λ none n below is.
    let all : c.in_ok-first.first.now ∷ c.in_ok-first.rest.now ≡ c.args.word.now = search rules in
    let whole : decimal c.loop-byte.n ≡ c.args.word.now =
    whole_word c.args.word.now c.in_ok-first.rest.now c.in_ok-first.first.now c.loop-byte.n c.loop-byte.byte-index all
    (omega (arith, c.loop-byte-test.false)) c.loop-byte.invariant.came in
    let same : c.loop-byte.n ≡ n = same_decimal c.loop-byte.n n (omega arith) (whole ∙ is) in
    omega arith
