-- The rule holds after any steps.
use Rattle.std.proofs.Common.{List, [], ◌∷◌, sym, subst}
use Rattle.pin_core.specs.declared.sizes.Sizes.{Sizes}
use Rattle.pinned_pool.specs.Rule.{IsSoundTable}
use Rattle.pinned_pool.specs.StepKinds.{PoolStep}
use Rattle.pinned_pool.specs.Runs.{Table, opened_table, RunsPool, RunsStaySound}
use Rattle.pinned_pool.proofs.Keeps.{begins}
use Rattle.pinned_pool.proofs.StepKinds.{steps_are_events}

run_sound : (z : Sizes) (kinds : List PoolStep) (old new : Table) → IsSoundTable z old.words old.views
    → RunsPool z old kinds new → IsSoundTable z new.words new.views
run_sound z [] old new sound same = let P : Table → Type 0 = λ t. IsSoundTable z t.words t.views in
    subst P (sym same) sound
run_sound z (kind ∷ kinds) old new sound run =
    let mid = run.0 in
    let step = run.1 in
    run_sound z kinds mid new
    (steps_are_events z old.words mid.words old.views mid.views step.seat step.view kind sound step.sits step.live
    step.makes).sound run.2

pub runs_stay_sound : RunsStaySound
runs_stay_sound z kinds end rich few run = run_sound z kinds (opened_table z) end (begins z rich few) run
