use Rattle.std.proofs.Common.{◌≡◌, sym, ap, ◌∙◌, subst}
use Rattle.pinned_pool.specs.Moves.{HasHolds}
use Rattle.reply_planner.specs.Owned.{AreOwn, key_buffers}
use Rattle.reply_planner.specs.Parcels.{Sent, Unpins, TakesBack}
use Rattle.reply_planner.specs.Stages.{merged}
use Rattle.reply_planner.proofs.TakenBack.{has_pins, takes_back, own_again}
use Rattle.reply_planner.proofs.returning.give_back.Goals as goal

pub unpin_all-lasts-requires : goal.unpin_all-lasts-requires
unpin_all-lasts-requires g c =
    let p = c.parcel.inside in
    subst (λ ks. HasHolds ks p.seat.holds) (ap (λ l. l.pins.items) (sym c.deref_mut.ensures.value))
    (has_pins g.N.PoolName.sizes p.lists.value.segments.items p.call p.lists.value.pins.items
    p.lists.value.staged.items p.seat c.parcel.invariant)

pub returns-clause-seat : goal.returns-clause-seat
returns-clause-seat g c =
    let p = c.parcel.inside in
    let unpins = subst (λ ks. Unpins ks c.unpin_all-lasts.result p.seat c.unpin_all-lasts.new.seat)
    (ap (λ l. l.pins.items) c.deref_mut.ensures.value) c.unpin_all-lasts.ensures.seat in
    subst (λ (s : Sent). TakesBack s c.unpin_all-lasts.result c.args.seat.now c.join.new.into) c.parcel.view_is
    (takes_back g.N.PoolName.sizes p.lists.value.segments.items p.call p.lists.value.pins.items
    p.lists.value.staged.items p.seat c.parcel.invariant c.unpin_all-lasts.result c.unpin_all-lasts.new.seat
    c.args.seat.now c.join.new.into unpins c.join.ensures.joined)

pub returns-clause-own : goal.returns-clause-own
returns-clause-own g c =
    let staged : key_buffers c.deref_mut.result.now.staged.items ≡ c.args.parcel.staged =
    ap (λ l. key_buffers l.staged.items) c.deref_mut.ensures.value ∙ ap (λ (s : Sent). s.staged) c.parcel.view_is in
    let stage : merged c.args.parcel.staged c.args.stage.now ≡ c.restore.new.self =
    ap (λ bs. merged bs c.args.stage.now) (sym staged) ∙ sym c.restore.ensures in
    subst (AreOwn c.join.new.into.holds) stage
    (own_again c.args.parcel c.unpin_all-lasts.result c.args.stage.now c.args.seat.now c.join.new.into
    (returns-clause-seat g c) c.requires.own)
