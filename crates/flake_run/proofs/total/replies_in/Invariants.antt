use Rattle.std.proofs.Common.{◌≡◌, ◌≤◌, ◌*◌, take}
use Rattle.flake_run.specs.Generated.{replies_in}
use Rattle.flake_run.proofs.total.replies_in.Given as goal

abbrev pub invariant-loop-end : goal.invariant-loop-end
invariant-loop-end l = record {
  sum : l.replies ≡ replies_in (take l.end-index l.ends);
  few : l.replies ≤ 4294967295 * l.end-index;
}
