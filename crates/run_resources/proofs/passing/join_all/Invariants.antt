use Rattle.std.proofs.Common.{All, length}
use Rattle.std.specs.Vec.Iter.{into_iter_items}
use Rattle.run_resources.specs.Opened.{IsNewPass}
use Rattle.run_resources.specs.Passing.{HasStages}
use Rattle.run_resources.proofs.passing.join_all.Given as goal

abbrev pub invariant-loop-pass : goal.invariant-loop-pass
invariant-loop-pass g l = record {
  stages : HasStages g.P.PoolName.sizes (length l.yielded) l.fn.into l.into;
  rest : All (IsNewPass g.P.PoolName.sizes) (into_iter_items l.pass-iterator);
}
