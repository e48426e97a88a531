use Rattle.std.proofs.Common.{◌∙◌, ap}
use Rattle.resp_reader.proofs.Parsers.{went_back}
use Rattle.resp_reader.proofs.parser.Parser.back.Goals as goal

pub returns : goal.returns
returns c before held marked place taken back =
    went_back before c.args.self.now c.reclaim.new.self c.reopen.new.self c.args.held c.args.mark held marked back
    c.reclaim.ensures.same c.reclaim.ensures.words c.reopen.ensures.words
    c.reopen.ensures.state (ap (λ q. q.items) c.reopen.ensures.ready) (c.reopen.ensures.places.1 ∙ place)
    (c.reopen.ensures.places.0 ∙ c.reclaim.ensures.places.0 ∙ taken)
