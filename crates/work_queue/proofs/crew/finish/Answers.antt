use Rattle.std.proofs.Common.{◌<◌, All, sym, subst}
use Rattle.crossbeam_queue.specs.Passes.{view}
use Rattle.work_queue.specs.Slots.{AllFilled}
use Rattle.work_queue.specs.declared.hand.Done.{Done}
use Rattle.work_queue.proofs.Working.{given-below, finished}
use Rattle.work_queue.proofs.crew.finish.Goals as goal

pub place-requires : goal.place-requires
place-requires g c =
    let done = c.work.new.worker_slot.done.items in
    let gives : g.row.T.Denot → g.row.X.Denot → Type 0 = λ job r. goal.F-post g c.args.f.now job r in
    let below = given-below gives (view c.args.pass).all done c.work.ensures.work.given in
    subst (λ n. All (λ (z : Done g.row.X.Denot). z.number < n) done) (sym c.requires.slots.len) below

pub returns : goal.returns
returns g c =
    let gives : g.row.T.Denot → g.row.X.Denot → Type 0 = λ job r. goal.F-post g c.args.f.now job r in
    subst (AllFilled gives (view c.args.pass).all) (sym c.place.ensures)
    (finished gives (view c.args.pass) (view c.work.new.worker_slot.pass) c.work.new.worker_slot.done.items
    c.args.slots.now
    c.requires.pass.1 c.requires.slots c.work.ensures.work)
