use Rattle.std.proofs.Common.{◌≡◌, ℕ, ◌+◌, ◌-◌, ◌*◌, ◌≤◌}
use Rattle.pin_core.specs.declared.class.Class.TheVariants.{Small, Large}
use Rattle.serve_model.specs.Demand.{demand_of}
use Rattle.serve_generated.specs.Sessions.{sessions_of}
use Rattle.serve_generated.proofs.Summed.{sessions_from}
use Rattle.serve_generated.proofs.demand.generated_demand.Given as goal

-- the sessions so far, with the sessions to come, are all; and they are few
pub record IsCounted (number sessions count session small large : ℕ) : Type 0 where
  pub small_is : small + sessions_from Small number count session (sessions - session)
      ≡ demand_of Small (sessions_of number sessions count)
  pub large_is : large + sessions_from Large number count session (sessions - session)
      ≡ demand_of Large (sessions_of number sessions count)
  pub stages : 128 * session ≤ small
  pub few_small : small ≤ 4128 * session
  pub few_large : large ≤ 12_000 * session

abbrev pub invariant-loop-session : goal.invariant-loop-session
invariant-loop-session l = IsCounted l.number l.sessions l.count l.session l.demand.small l.demand.large
