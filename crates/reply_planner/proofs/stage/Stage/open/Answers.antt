use Rattle.std.proofs.Common.{length, Err, ap, ◌∙◌, arith}
use Rattle.std.proofs.lemmas.Result.{err_from_is_err_and}
use Rattle.reply_planner.specs.Owned.{key_buffers}
use Rattle.reply_planner.specs.Stages.{merged}
use Rattle.reply_planner.proofs.Opening.{all_staging, opened, not_sought}
use Rattle.reply_planner.proofs.Kept.{shown}
use Rattle.reply_planner.proofs.stage.Stage.open.Goals as goal

pub put_all-requires-clause-staging : goal.put_all-requires-clause-staging
put_all-requires-clause-staging g c =
    all_staging g.N.PoolName.sizes _ c.in_ok-holds.holds.items c.claim_each.new.holds.items c.args.seat.now
    c.claim_each.new.seat c.in_ok-holds.ensures.items c.claim_each.ensures.claims

pub returns-clause-opened : goal.returns-clause-opened
returns-clause-opened g c =
    let items = c.claim_each.new.holds.items in
    opened g.N.PoolName.sizes _ c.in_ok-holds.holds.items items c.args.seat.now c.claim_each.new.seat
    c.in_ok-holds.ensures.items c.claim_each.ensures.claims c.put_all.new.self
    (omega (arith, c.in_default.ensures.all, ap length c.in_ok-holds.ensures.items)) c.is_seat.ensures
    (c.put_all.ensures.stage ∙ ap (λ ks. merged (key_buffers items) (shown ks)) c.in_ok-with_capacity.ensures.items)

pub returns-in_err-holds-clause-sought : goal.returns-in_err-holds-clause-sought
returns-in_err-holds-clause-sought g c =
    let p = err_from_is_err_and c.from_residual.result c.from_residual.ensures.1 in
    not_sought g.N.PoolName.sizes c.from_residual.result c.args.seat.now (p.1 ∙ ap Err p.2)

pub returns-in_err-with_capacity-clause-sought : goal.returns-in_err-with_capacity-clause-sought
returns-in_err-with_capacity-clause-sought g c =
    let p = err_from_is_err_and c.from_residual-in_err-with_capacity.result
    c.from_residual-in_err-with_capacity.ensures.1 in
    not_sought g.N.PoolName.sizes c.from_residual-in_err-with_capacity.result c.args.seat.now (p.1 ∙ ap Err p.2)

pub returns-in_err-with_capacity-2-clause-sought : goal.returns-in_err-with_capacity-2-clause-sought
returns-in_err-with_capacity-2-clause-sought g c =
    let p = err_from_is_err_and c.from_residual-in_err-with_capacity-2.result
    c.from_residual-in_err-with_capacity-2.ensures.1 in
    not_sought g.N.PoolName.sizes c.from_residual-in_err-with_capacity-2.result c.args.seat.now (p.1 ∙ ap Err p.2)
