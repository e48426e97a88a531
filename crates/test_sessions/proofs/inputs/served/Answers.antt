use Rattle.test_sessions.proofs.Unread.{two_unread}
use Rattle.test_sessions.proofs.inputs.served.Goals as goal

pub serve_inputs-requires-clause-unread : goal.serve_inputs-requires-clause-unread
serve_inputs-requires-clause-unread g c = λ _ _.
    two_unread c.new-sources.result.items c.push.new.self.items c.push-2.new.self.items c.args.first c.args.second
    c.new-sources.ensures.items c.in_ok-push.ensures.items c.in_ok-push-2.ensures.items c.requires.unread
