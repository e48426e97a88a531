use Rattle.std.proofs.Common.{◌∙◌}
use Rattle.std.specs.FinMap as finite
use Rattle.shard_core.specs.Kept.{frags_of, value_addresses}
use Rattle.shard_core.specs.KeptViews.{kept_view}
use Rattle.shard_core.specs.ShardMaps.{ShardState}
use Rattle.shard_part.specs.Settings.{when_of}
use Rattle.shard_core.proofs.Holds.{has_hand, gone_held, gone_agrees}
use Rattle.shard_core.proofs.Deeds.{set_done}
use Rattle.shard_core.proofs.setting.store.Goals as goal

pub give_up-requires-clause-value : goal.give_up-requires-clause-value
give_up-requires-clause-value g c = has_hand g.P.PoolName.sizes c.place.new.kept.values.entries
    (frags_of c.in_ok-old.old) c.place.new.kept.own.holds c.in_ok-old.ensures.placed.held

pub returns-clause-kept : goal.returns-clause-kept
returns-clause-kept g c =
    let at = c.in_ok-old.ensures.placed in
    let up = c.give_up.ensures in
    record {
      poor = record {
        credits = up.idle.credits ∙ at.poor.credits;
        claims = up.idle.claims ∙ at.poor.claims;
        looks = up.idle.looks ∙ at.poor.looks;
      };
      held = gone_held g.P.PoolName.sizes c.place.new.kept.values.entries c.place.new.kept.own.holds
          c.give_up.new.own.holds (frags_of c.in_ok-old.old) c.is_seat.ensures.fronts.0 c.is_seat.ensures.fronts.1
          up.holds at.held;
    }

pub returns-clause-done : goal.returns-clause-done
returns-clause-done g c = λ s p a.
    let z = g.P.PoolName.sizes in
    let at = c.in_ok-old.ensures.placed in
    let up = c.give_up.ensures in
    let key = c.args.part.now.key.now in
    let bytes = c.args.part.now.value.now in
    let now = c.place.new.kept.values.entries in
    let mid = c.place.new.kept.own.holds in
    let was : ShardState = record {
      shard = kept_view c.args.kept.now;
      payer = c.args.payer.now;
      stored = c.args.stored.now.items;
      taken = g.T.Taker.taken c.args.taker.now;
    } in
    let is : ShardState = record {
      shard = record { entries = now; seat = c.give_up.new.own };
      payer = c.place.new.payer;
      stored = c.place.new.stored.items;
      taken = g.T.Taker.taken c.give_up.new.taker;
    } in
    set_done z (when_of c.args.setting.when) c.args.setting.asks key bytes s p c.give_up.result was is mid a
    c.in_ok-old.old at.value c.requires.stores at.found at.hand_bytes up.says up.taken at.segs_are at.cut
    (gone_agrees z now mid c.give_up.new.own.holds (frags_of c.in_ok-old.old) c.is_seat.ensures.fronts.0
    c.is_seat.ensures.fronts.1 up.holds at.held
    (finite.insert s key bytes) (finite.insert p key (value_addresses z at.value)) (at.agrees s p a))
