use Rattle.std.proofs.Common.{◌∙◌, sym, ap}
use Rattle.std.specs.Option.{option_and_then}
use Rattle.flake_model.specs.Range.{negative_of, plain_of}
use Rattle.range_pick.proofs.Plain.{with_minus, without_minus}
use Rattle.range_pick.proofs.signed.read_signed.Goals as goal
use Rattle.range_pick.proofs.signed.read_signed.Goals.{in-Some, in-None}

pub returns : goal.returns
returns c =
    sym c.ok_or.ensures.ok_part ∙
    elim c.match-strip_prefix.branch [
      | in-Some w ↦ w.number-is ∙ w.read_negative-number.ensures
          ∙ ap (λ digits. option_and_then negative_of (plain_of digits)) w.in-Some.ensures.cases.1
          ∙ sym (with_minus c.args.word.now w.in-Some.ensures.cases.0)
      | in-None w ↦ w.number-is ∙ w.read_positive-number.ensures
          ∙ sym (without_minus c.args.word.now w.in-None.ensures.cases)
    ]
