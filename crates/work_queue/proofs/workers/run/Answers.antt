use Rattle.std.proofs.Common.{rules, ◌≡◌, None, All, IsSome, length, replicate, vec_len, ap, sym, ◌∙◌, subst}
use Rattle.work_queue.specs.Slots.{AllFilled}
use Rattle.work_queue.specs.declared.hand.Hand.{Hand}
use Rattle.work_queue.proofs.Placing.{row-back, all-some, each-result}
use Rattle.work_queue.proofs.workers.run.Goals as goal

pub emptied-requires-clause-full : goal.emptied-requires-clause-full
emptied-requires-clause-full g c =
    let gives : g.row.T.Denot → g.row.X.Denot → Type 0 = λ job r. goal.F-post g c.args.f.now job r in
    let jobs = c.args.jobs.items in
    let now = c.finish.new.slots in
    let all = c.by_workers.ensures.all ∙ ap (λ (v : Hand g.row.T.Denot). v.all) c.push_all-pass.ensures.1 in
    let filled : AllFilled gives jobs now = subst (λ t. AllFilled gives t now) all c.finish.ensures in
    let count : vec_len c.args.jobs ≡ length jobs = search rules in
    let empty = c.requires.room.1.slots ∙ ap (λ n. replicate n None) count in
    let back = row-back gives jobs now c.args.room.slots.items c.args.room.slots.len filled empty (search rules) in
    subst (All IsSome) (sym back) (all-some gives jobs now filled)

pub returns : goal.returns
returns g c =
    let gives : g.row.T.Denot → g.row.X.Denot → Type 0 = λ job r. goal.F-post g c.args.f.now job r in
    let jobs = c.args.jobs.items in
    let now = c.finish.new.slots in
    let all = c.by_workers.ensures.all ∙ ap (λ (v : Hand g.row.T.Denot). v.all) c.push_all-pass.ensures.1 in
    let filled : AllFilled gives jobs now = subst (λ t. AllFilled gives t now) all c.finish.ensures in
    let count : vec_len c.args.jobs ≡ length jobs = search rules in
    let empty = c.requires.room.1.slots ∙ ap (λ n. replicate n None) count in
    let back = row-back gives jobs now c.args.room.slots.items c.args.room.slots.len filled empty (search rules) in
    each-result gives jobs now c.emptied.result.items (c.emptied.ensures ∙ back) filled

pub finish-requires-clause-calls : goal.finish-requires-clause-calls
finish-requires-clause-calls g c κs within =
    let may : g.row.T.Denot → Type 0 = λ job. goal.F-pre g c.args.f.now job in
    let all = c.by_workers.ensures.all ∙ ap (λ (v : Hand g.row.T.Denot). v.all) c.push_all-pass.ensures.1 in
    subst (All may) (sym all) c.requires.calls
