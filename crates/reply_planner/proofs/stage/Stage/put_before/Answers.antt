use Rattle.std.proofs.Common.{◌≡◌, ◌⊎◌, length, sym, subst, ap, inl, inr, arith}
use Rattle.view_sums.specs.Total.{Each}
use Rattle.reply_planner.specs.Owned.{IsStaging}
use Rattle.reply_planner.specs.Stages.{IsOrdered, inserted}
use Rattle.reply_planner.proofs.Merged.{length-inserted, ordered-inserted}
use Rattle.reply_planner.proofs.Kept.{below_more, StopsAt, stops_at, shown, length-shown, shown-put, each_insert}
use Rattle.reply_planner.proofs.stage.Stage.put_before.Goals as goal
use Rattle.reply_planner.proofs.stage.Stage.put_before.Goals.{then-loop-place-test+else-buffer, else-loop-place-test}

pub loop-place-preserved : goal.loop-place-preserved
loop-place-preserved g c =
    let i = c.loop-place.invariant in
    record {
      within = omega (arith, i.within);
      passed = below_more c.args.hold.buffer c.loop-place.place c.self.inside.free.items c.index.result.now
          c.loop-place-test.true i.within c.index.ensures
          (omega (arith, c.if-buffer.true, c.buffer.ensures.buffer, c.buffer-in-loop-place.ensures.buffer)) i.passed;
    }

pub insert_reserved-requires-clause-room : goal.insert_reserved-requires-clause-room
insert_reserved-requires-clause-room g c =
    let free = c.self.inside.free.items in
    omega (
      arith,
      c.self.invariant.room,
      c.requires.room,
      ap length c.self.view_is,
      length-shown free,
      c.self.inside.free.ok,
    )

pub returns : goal.returns
returns g c =
    let i = c.loop-place.invariant in
    let place = c.loop-place.place in
    let free = c.self.inside.free.items in
    let stop : (place ≡ 0) ⊎ StopsAt c.args.hold.buffer place free =
    elim c.loop-place-test.branch [
      | then-loop-place-test+else-buffer w ↦ inr
          (stops_at c.args.hold.buffer place free w.index.result.now w.loop-place-test.true i.within w.index.ensures
          (omega (arith, w.if-buffer.false, w.buffer.ensures.buffer, w.buffer-in-loop-place.ensures.buffer)))
      | else-loop-place-test w ↦ inl (omega (arith, w.loop-place-test.false))
    ] in
    shown-put c.args.hold free c.insert_reserved.new.list.items place c.args.self.now c.self.view_is
    c.insert_reserved.ensures.items i.passed stop

pub invariant_of-self : goal.invariant_of-self
invariant_of-self g c =
    let z = g.N.PoolName.sizes in
    let free = c.self.inside.free.items in
    let was = c.self.invariant in
    let items = c.insert_reserved.ensures.items in
    let placed : shown c.insert_reserved.new.list.items ≡ inserted c.args.hold.buffer c.args.self.now = returns g c in
    record {
      staging = subst (Each (IsStaging z)) (sym items)
          (each_insert (IsStaging z) c.args.hold free c.loop-place.place was.staging c.requires.staging);
      room = omega (arith, was.room, c.insert_reserved.ensures.capacity);
      few = omega (
        arith,
        c.requires.room,
        ap length c.self.view_is,
        length-shown free,
        ap length placed,
        length-shown
            c.insert_reserved.new.list.items,
        length-inserted c.args.hold.buffer c.args.self.now,
      );
      ordered = subst IsOrdered (sym placed)
          (ordered-inserted c.args.hold.buffer c.args.self.now (subst IsOrdered c.self.view_is was.ordered));
    }
