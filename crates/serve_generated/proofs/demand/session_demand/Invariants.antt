use Rattle.std.proofs.Common.{◌≡◌, ℕ, ◌+◌, ◌-◌, ◌*◌, ◌≤◌}
use Rattle.pin_core.specs.declared.class.Class.TheVariants.{Small, Large}
use Rattle.request_gen.specs.Draws.{first_state}
use Rattle.serve_generated.proofs.Summed.{row_from}
use Rattle.serve_generated.proofs.demand.session_demand.Given as goal

-- the stage and the requests so far, with the requests to come, are all; and they are few
pub record IsCounted (number session count r state small large : ℕ) : Type 0 where
  pub small_is : small + row_from Small (count - r) r state ≡ 128 + row_from Small count 0 (first_state number session)
  pub large_is : large + row_from Large (count - r) r state ≡ row_from Large count 0 (first_state number session)
  pub stage : 128 ≤ small
  pub few_small : small ≤ 128 + r
  pub few_large : large ≤ 3 * r

abbrev pub invariant-loop-r : goal.invariant-loop-r
invariant-loop-r l = IsCounted l.number l.session l.count l.r l.draws l.demand.small l.demand.large
