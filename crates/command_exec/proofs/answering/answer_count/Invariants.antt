use Rattle.std.proofs.Common.{◌≡◌, ◌≤◌}
use Rattle.frag_value.specs.Fragments.{frags_limit}
use Rattle.command_exec.proofs.Counting.{CountSoFar}
use Rattle.command_exec.proofs.answering.answer_count.Given as goal

abbrev pub invariant-loop-j : goal.invariant-loop-j
invariant-loop-j g l = record {
  so_far : CountSoFar g.P.PoolName.sizes g.N.BookName.sizes.shards l.at.call l.command l.j l.there l.fn.pass l.pass
      l.fn.stored.items l.stored.items l.fn.plan l.plan;
  segs : l.stored.items ≡ l.fn.stored.items;
  spare : frags_limit ≤ l.stored.spare;
  kept : l.fn.stored.spare ≤ l.stored.spare;
}
