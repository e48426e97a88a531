use Rattle.session_serve.proofs.gather.gather_next.Goals as goal

pub returns-in-None-clause-put : goal.returns-in-None-clause-put
returns-in-None-clause-put g c = rw c.in-None.is (search)

pub returns-in-Some-clause-put : goal.returns-in-Some-clause-put
returns-in-Some-clause-put g c = rw c.in-Some.is (search)
