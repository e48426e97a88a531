-- The headline of a run that served its files.
use Rattle.std.proofs.Common.{◌≡◌, ℕ, zero, suc, ◌<◌, ◌≤◌, List, length, arith, refl, sym, ◌∙◌, subst}
use Rattle.flake_base.specs.Told.{HostTold, WireTold}
use Rattle.pin_core.specs.declared.class.Class.{Class}
use Rattle.pin_core.specs.declared.class.Class.TheVariants.{Small, Large}
use Rattle.pin_core.specs.declared.sizes.Sizes.{Sizes}
use Rattle.pinned_pool.specs.Claims.{count_of}
use Rattle.pinned_pool.specs.Ends.{End as PoolEnd}
use Rattle.flake_base.specs.declared.journal.Entry.{Entry}
use Rattle.flake_model.specs.Run.{all_commands, missing_writes}
use Rattle.flake_model.specs.Session.{Session}
use Rattle.run_resources.specs.Opened.{pool_sizes}
use Rattle.serve_model.specs.Demand.{demand_of}
use Rattle.serve_model.specs.Shown.{IsCounted}
use Rattle.flake_run.specs.Task.{Job, RunTask}
use Rattle.flake_run.specs.Outside.{outside}
use Rattle.flake_run.specs.Outcome.{RunOutcome}
use Rattle.flake_run.specs.Served.{Served}
use Rattle.flake_run.proofs.Ran.{Ran, IsTask, sessions_are}

-- no buffer is missed where there are as many as the commands may claim
none_missed : (missed have need : ℕ) → (0 < missed → have < need) → need ≤ have → missed ≡ 0
none_missed zero have need exceeded fits = refl
none_missed (suc missed) have need exceeded fits =
    absurd (let more = exceeded (omega arith) in omega (arith, more, fits))

pub enough : (z : Sizes) (threshold : ℕ) (sessions : List Session) (journal : List (List Entry)) (pool : PoolEnd)
    → IsCounted z threshold sessions journal pool
    → ((class : Class) → demand_of class (all_commands sessions) ≤ count_of z class) → missing_writes sessions journal
    ≡ 0
enough z threshold sessions journal pool counted fits =
    let small = none_missed (counted.missed Small) _ _ (counted.exceeded Small) (fits Small) in
    let large = none_missed (counted.missed Large) _ _ (counted.exceeded Large) (fits Large) in
    omega (arith, counted.missed_are, small, large)

pub ran_served : {W : Type 0} (tells : W → WireTold) (task : RunTask) (job : Job) (host now : HostTold)
    (wires after : List W) (done : RunOutcome)
    → IsTask task job wires → Ran tells job host now wires after done → Served task (outside host wires tells)
    (outside now after tells) done
ran_served tells task job host now wires after done t r =
    subst (λ t. Served t (outside host wires tells) (outside now after tells) done) (sym t.task_is) (record {
      of_files = r.of_files;
      run = r.run.run;
      dumped = r.run.dumped;
      wires = r.run.wires;
      pool = r.pool;
      pool_is = r.pool_is;
      shows = r.run.counted;
      held = r.held;
      none_missing = enough (pool_sizes (length job.names) job.sizes) job.sizes.threshold r.run.run.sessions
          done.journal r.pool r.run.counted;
      flushed = r.run.flushed;
      faults = r.run.faults;
      others = r.run.others;
      sessions = sessions_are tells job host now wires after done r;
      shards = r.shards;
      to_the_end = r.to_the_end;
      opens = r.files.opens ∙ r.opened.opens;
      sources = r.files_are;
    })
