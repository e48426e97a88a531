use Rattle.std.proofs.Common.{ap}
use Rattle.session_pass.specs.Views.{SessionView}
use Rattle.test_replies.proofs.acting.reap_once.Goals as goal

pub returns-in-Some : goal.returns-in-Some
returns-in-Some g c = c.in-Some.ensures.one.keeps.rest.opened

pub returns-in-None : goal.returns-in-None
returns-in-None g c = ap (λ (s : SessionView). s.opened) c.in-None.ensures.none.new_is
