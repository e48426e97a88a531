-- What a job ends as, once the `&mut` to its frame has ended.
use Rattle.std.specs.Borrow.{Lends, Fml, RattleType, MutBor}
use Rattle.tx_ring.specs.declared.job.Job.{Job}
use Rattle.tx_ring.specs.contracts.job.Job.{the_row}

module _ (P : RattleType) (j : MutBor (Job P.Denot)) where
  -- its frame is the last value written through r, and its descriptors are as they were
  abbrev pub lends_frame : MutBor P.Denot → Fml
  lends_frame r = Lends (the_row P) P j r (λ w. record j.now { frame = w })
