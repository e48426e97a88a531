use Rattle.std.proofs.Common.{[], ◌++◌, sym, ap, ◌∙◌, subst, append-nil}
use Rattle.pinned_pool.specs.Moves.{HasHolds}
use Rattle.reply_planner.specs.Owned.{AreOwn, bare_all, key_buffers}
use Rattle.reply_planner.specs.Stages.{merged}
use Rattle.reply_planner.specs.Planned.{Planned}
use Rattle.reply_planner.specs.Parcels.{Unpins}
use Rattle.reply_planner.specs.Sealed.{Cancels}
use Rattle.reply_planner.proofs.Fronted.{has_front}
use Rattle.reply_planner.proofs.Owned.{own_swap, own_merged}
use Rattle.reply_planner.proofs.GivenUp.{cancels}
use Rattle.reply_planner.proofs.plan.Plan.cancel.Given as given
use Rattle.reply_planner.proofs.plan.Plan.cancel.Goals as goal

pub unpin_all-requires : goal.unpin_all-requires
unpin_all-requires g c =
    let hs = c.self.inside.seat.holds in
    subst (λ ks. HasHolds ks hs) (c.self.invariant.0.has.keys ∙ ap (λ l. l.pins.items) (sym c.deref_mut.ensures.value))
    (has_front hs hs [] (sym (append-nil (bare_all hs))))

module _ (g : given.Over) (c : goal.After-restore g) where
  unpins : Unpins c.self.inside.lists.value.pins.items c.unpin_all.result c.self.inside.seat c.unpin_all.new.seat
  unpins = subst (λ ks. Unpins ks c.unpin_all.result c.self.inside.seat c.unpin_all.new.seat)
      (ap (λ l. l.pins.items) c.deref_mut.ensures.value) c.unpin_all.ensures.seat

pub returns-clause-seat : goal.returns-clause-seat
returns-clause-seat g c =
    subst (λ (p : Planned). Cancels p c.args.seat.now c.join.new.into) c.self.view_is
    (cancels _ _ _ c.self.inside.seat c.unpin_all.new.seat c.args.seat.now c.join.new.into c.unpin_all.result
    c.self.invariant.0.has (unpins g c) c.join.ensures.joined)

pub returns-clause-own : goal.returns-clause-own
returns-clause-own g c =
    let hs = c.args.seat.now.holds in
    let lists = c.deref_mut.result.now in
    let staged = key_buffers lists.staged.items in
    let stage = c.args.stage.now in
    let own = subst (λ bs. AreOwn hs (stage ++ bs))
    (sym (ap (λ l. key_buffers l.staged.items) c.deref_mut.ensures.value
    ∙ ap (λ (p : Planned). p.base.stage) c.self.view_is)) c.requires.own in
    let holds = (cancels _ _ _ c.self.inside.seat c.unpin_all.new.seat c.args.seat.now c.join.new.into
    c.unpin_all.result c.self.invariant.0.has (unpins g c) c.join.ensures.joined).holds in
    subst (λ bs. AreOwn c.join.new.into.holds bs) (sym c.restore.ensures)
    (subst (λ gs. AreOwn gs (merged staged stage)) (sym holds)
    (own_merged hs staged stage (own_swap hs stage staged own)))
