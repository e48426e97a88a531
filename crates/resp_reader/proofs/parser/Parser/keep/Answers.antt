use Rattle.std.proofs.Common.{◌∙◌, ap}
use Rattle.resp_reader.proofs.Parsers.{null_taken, array_taken, given_back}
use Rattle.resp_reader.proofs.parser.Parser.keep.Goals as goal

pub returns-in-Null-clause-ok : goal.returns-in-Null-clause-ok
returns-in-Null-clause-ok c =
    let now = c.start_at.ensures in
    null_taken c.args.self.now c.start_at.new.self c.in-Null.is now.state (ap (λ q. q.items) now.ready)
    (now.place ∙ c.requires.end)

pub returns-in_ok-give-in-Whole-clause-ok : goal.returns-in_ok-give-in-Whole-clause-ok
returns-in_ok-give-in-Whole-clause-ok c =
    let now = c.start_at-in-Whole.ensures in
    array_taken c.args.self.now c.start_at-in-Whole.new.self c.in-Whole.count c.in-Whole.is c.requires.sound now.state
    (ap (λ q. q.items) now.ready ∙ c.in_ok-give-in-Whole.ensures.ok) (now.place ∙ c.requires.end)

pub returns-in_ok-give-in-Whole-clause-back : goal.returns-in_ok-give-in-Whole-clause-back
returns-in_ok-give-in-Whole-clause-back c =
    let now = c.start_at-in-Whole.ensures in
    let given = c.in_ok-give-in-Whole.ensures in
    given_back c.args.self.now c.start_at-in-Whole.new.self c.in-Whole.count c.in-Whole.is c.requires.sound
    (ap (λ r. r.words) now.room ∙ given.given.0)
    (ap (λ r. r.word) now.room ∙ given.given.1) (ap (λ q. q.items) now.ready ∙ given.ok)
