use Rattle.std.proofs.Common.{◌∙◌, sym, ap}
use Rattle.std.specs.Option.{option_to_list}
use Rattle.resp_reader.specs.Reader.{Progress}
use Rattle.resp_reader.proofs.Fed.{given_on}
use Rattle.resp_reader.proofs.reader.Reader.next.Goals as goal

pub returns-clause-fed : goal.returns-clause-fed
returns-clause-fed c bytes given read =
    let view = c.self.view_is in
    given_on bytes given c.args.self.now _ (option_to_list c.pop_front.result)
    (sym (ap (λ (p : Progress). p.requests) view) ∙ c.pop_front.ensures.items)
    (ap (λ (p : Progress). p.front) view) (ap (λ (p : Progress). p.place) view) (ap (λ (p : Progress). p.closed) view)
    read
