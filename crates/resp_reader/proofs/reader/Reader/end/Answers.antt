use Rattle.std.proofs.Common.{◌≡◌, ◌∙◌, sym, ap, length, arith}
use Rattle.resp_reader.specs.Begun.{begun_front}
use Rattle.resp_reader.specs.Reader.{Progress}
use Rattle.resp_reader.proofs.Fed.{clean_end, truncated_end}
use Rattle.resp_reader.proofs.reader.Reader.end.Goals as goal

pub returns-then-self : goal.returns-then-self
returns-then-self c bytes given read =
    let kept = c.self.invariant (ap (λ (p : Progress). p.closed) c.self.view_is ∙ c.requires) in
    let front : begun_front c.self.inside.parser.begun ≡ c.args.self.front =
    ap (λ (p : Progress). p.front) c.self.view_is in
    clean_end bytes given c.args.self c.requires (omega (arith, kept.taken_is, ap length front, c.if-self.true)) read

pub returns : goal.returns
returns c bytes given read =
    let kept = c.self.invariant (ap (λ (p : Progress). p.closed) c.self.view_is ∙ c.requires) in
    let front : begun_front c.self.inside.parser.begun ≡ c.args.self.front =
    ap (λ (p : Progress). p.front) c.self.view_is in
    truncated_end bytes given c.args.self c.self.inside.parser.place c.requires
    (omega (arith, kept.taken_is, ap length front, c.if-self.false))
    (sym (ap (λ (p : Progress). p.place) c.self.view_is)) read
