use Rattle.session_serve.proofs.Between.{more-gathered}
use Rattle.session_serve.proofs.device_side.gathered.Goals as goal

pub returns-clause-more : goal.returns-clause-more
returns-clause-more g c =
    let e = c.gather_next-wire.ensures in
    more-gathered _ _ _ _ _ _ _ _ _ _ _ _ _ e.found e.put e.flushed e.forwards c.whole_bytes.ensures c.counted.ensures
