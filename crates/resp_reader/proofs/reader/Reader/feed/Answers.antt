use Rattle.std.proofs.Common.{◌∙◌, sym, ap}
use Rattle.resp_reader.specs.Reader.{Progress}
use Rattle.resp_reader.proofs.Fed.{closed_on}
use Rattle.resp_reader.proofs.reader.Reader.feed.Goals as goal

pub returns-in-Some-clause-fed : goal.returns-in-Some-clause-fed
returns-in-Some-clause-fed c other bytes given read =
    closed_on bytes given c.args.self.now c.args.piece.now c.in-Some.error
    (sym (ap (λ (p : Progress). p.closed) c.self.view_is) ∙ c.in-Some.is) read
