use Rattle.std.proofs.Common.{◌≡◌, [], ◌∷◌, ◌++◌, ap, ◌∙◌, subst, arith}
use Rattle.std.proofs.lemmas.List.{nil_from_length}
use Rattle.view_sums.specs.Total.{Each}
use Rattle.view_sums.proofs.Eachs.{each-front, each-back}
use Rattle.reply_planner.specs.Owned.{IsStaging}
use Rattle.reply_planner.proofs.Kept.{shown, shown-last}
use Rattle.reply_planner.proofs.Closing.{next_there, more_closed, all_closed}
use Rattle.reply_planner.proofs.stage.Stage.close.Goals as goal

pub unpin-requires : goal.unpin-requires
unpin-requires g c =
    let i = c.loop-hold.invariant in
    let free = c.loop-hold.stage-inside.free.items in
    let rest = c.pop.new.self.items in
    let hold = c.in-Some.hold in
    let last : free ≡ rest ++ hold ∷ [] = c.in-Some.ensures.items in
    let here = (each-back (IsStaging g.N.PoolName.sizes) rest (hold ∷ [])
    (subst (Each (IsStaging g.N.PoolName.sizes)) last i.staging)).0 in
    next_there c.args.self (shown free) (shown rest) hold.buffer hold c.args.seat.now c.loop-hold.seat i.closed
    (ap shown last ∙ shown-last rest hold) here.1

pub loop-hold-preserved : goal.loop-hold-preserved
loop-hold-preserved g c =
    let i = c.loop-hold.invariant in
    let free = c.loop-hold.stage-inside.free.items in
    let rest = c.pop.new.self.items in
    let hold = c.in-Some.hold in
    let last : free ≡ rest ++ hold ∷ [] = c.in-Some.ensures.items in
    let staging = subst (Each (IsStaging g.N.PoolName.sizes)) last i.staging in
    record {
      staging = each-front (IsStaging g.N.PoolName.sizes) rest (hold ∷ []) staging;
      closed = more_closed c.args.self (shown free) (shown rest) hold.buffer hold c.args.seat.now c.loop-hold.seat
          c.unpin.new.seat _ i.closed (ap shown last ∙ shown-last rest hold)
          (each-back (IsStaging g.N.PoolName.sizes) rest (hold ∷ []) staging).0.1 c.unpin.ensures.seat;
    }

pub returns : goal.returns
returns g c =
    let i = c.loop-hold.invariant in
    let free = c.loop-hold.stage-inside.free.items in
    let none : free ≡ [] = nil_from_length free (omega (arith, c.in_default.ensures.cases)) in
    all_closed c.args.self (shown free) c.args.seat.now c.loop-hold.seat i.closed (ap shown none)
