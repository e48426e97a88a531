use Rattle.std.proofs.Common.{rules, ◌≡◌, length, vec_len, sym, ◌∙◌, subst}
use Rattle.std.specs.List.{AllZip}
use Rattle.std.proofs.lemmas.Slice.Zip.{AllZip-long}
use Rattle.crossbeam_queue.specs.Passes.{view}
use Rattle.work_queue.specs.Work.{Gathered, IsLeft}
use Rattle.work_queue.proofs.Placing.{lent-back}
use Rattle.work_queue.proofs.Working.{gathered}
use Rattle.work_queue.proofs.crew.worked.Goals as goal

pub returns-clause-worker_slots : goal.returns-clause-worker_slots
returns-clause-worker_slots g c =
    let queue = c.args.queue.now in
    let all = (view c.args.pass.now).all in
    let olds = c.seated-worker_slots.result.items in
    let news = c.all_work.new.worker_slots in
    let gives : g.row.T.Denot → g.row.X.Denot → Type 0 = λ job r. goal.F-post g c.args.f.now job r in
    let left : AllZip (IsLeft queue gives) olds news =
    subst (λ t. AllZip (IsLeft queue gives) t news) c.as_mut_slice.ensures.value c.all_work.ensures in
    let count : vec_len c.seated-worker_slots.result ≡ length olds = search rules in
    let back = lent-back news olds c.seated-worker_slots.result.len (AllZip-long (IsLeft queue gives) olds news left)
    count in
    let done = gathered gives queue all olds news c.seated-worker_slots.ensures.worker_slots left in
    subst (Gathered queue gives all (vec_len c.args.dones)) (sym back)
    (subst (λ n. Gathered queue gives all n news) (sym count ∙ c.seated-worker_slots.ensures.len) done)
