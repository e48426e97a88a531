use Rattle.join_files.proofs.Flushing.{flushed, not_put}
use Rattle.join_files.proofs.putting.put_joined.Goals as goal

pub returns-then-not-put_all-clause-sent : goal.returns-then-not-put_all-clause-sent
returns-then-not-put_all-clause-sent g c = not_put _ _ _ c.if-not-put_all.ensures

pub returns-clause-sent : goal.returns-clause-sent
returns-clause-sent g c = flushed _ _ _ _ _ c.if-not-put_all.ensures c.flush.ensures
