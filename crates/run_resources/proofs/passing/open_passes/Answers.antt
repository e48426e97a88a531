use Rattle.std.proofs.Common.{◌*◌, ◌≤◌, ℕ, sym, subst}
use Rattle.run_resources.proofs.Joining.{never_refused}
use Rattle.run_resources.proofs.passing.open_passes.Goals as goal

pub unreachable-requires : goal.unreachable-requires
unreachable-requires g c =
    let are = rw c.in-Some.is at c.in-Err.ensures.refused in
    let room = subst (λ (n : ℕ). 128 * n ≤ g.P.PoolName.sizes.small) (sym c.in_ok-lists.ensures.count)
    c.requires.buffers in
    never_refused g.P.PoolName.sizes _ c.in-Some.passes.items c.args.main c.open_all.new.main c.in-Some.seat
    c.join.new.into c.join_all.new.into c.no_stage_refused.ensures c.in-Err.ensures.main are c.join.ensures.joined
    c.join_all.ensures c.close.ensures.looks room
