use Rattle.std.proofs.Common.{rules, of_calls, slice_index_or, subst}
use Rattle.work_queue.specs.Work.{IsLeft}
use Rattle.work_queue.proofs.Placing.{zip-at}
use Rattle.work_queue.proofs.worker_slot.all_work.Goals as goal

pub returns : goal.returns
returns g c =
    let news = c.for_each_mut.new.s in
    let left = IsLeft c.args.queue.now (λ job r. goal.F-post g c.args.f.now job r) in
    zip-at left c.args.worker_slots.now news (search rules)
    (λ k d below.
    let call = (c.for_each_mut.ensures k d below).1 in
    let said : left call.argument.now call.after_call.now = search of_calls in
    let this = subst (left call.argument.now) call.left said in
    subst (λ z. left z (slice_index_or news k d)) call.argument_is this)
