use Rattle.std.proofs.Common.{◌≡◌, ◌≤◌, drop, Some}
use Rattle.frag_value.specs.Values.{unmarked_view}
use Rattle.frag_value.specs.Taken.{Begun, RangeSoFar}
use Rattle.frag_value.proofs.handing.hand_runs.Given as goal

abbrev pub invariant-loop-i : goal.invariant-loop-i
invariant-loop-i g l = record {
  far : RangeSoFar g.N.PoolName.sizes l.fn.owner.holds l.value (drop l.i l.value) l.fn.from l.fn.len l.skip l.left
      (g.T.Taker.begun l.taker) (λ (b : Begun). Some b);
  taken : g.T.Taker.taken l.taker ≡ g.T.Taker.taken l.fn.taker;
  base : g.T.Taker.base l.taker ≡ g.T.Taker.base l.fn.taker;
  room : g.T.Taker.range_room l.fn.taker ≤ g.T.Taker.range_room l.taker;
  owner : unmarked_view l.owner ≡ unmarked_view l.fn.owner;
}
