use Rattle.std.proofs.Common.{rules, ◌≡◌, ◌∙◌, sym, ap, drop, arith}
use Rattle.flake_model.proofs.Decimals.{same_decimal}
use Rattle.journal_text.specs.Text.{head_line}
use Rattle.journal_text.proofs.fields.shards_of.Goals as goal

pub returns-then-shards-eq0-clause-none : goal.returns-then-shards-eq0-clause-none
returns-then-shards-eq0-clause-none c = λ none shards some few is.
    let told : c.args.line.now ≡ head_line c.in_ok-shards.shards = search rules in
    let same : shards ≡ c.in_ok-shards.shards = same_decimal shards c.in_ok-shards.shards (omega arith)
    (ap (drop 7) (sym is ∙ told)) in
    omega (arith, c.if-shards-eq0.true)
