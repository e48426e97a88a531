use Rattle.std.proofs.Common.{List, sym, ap, ◌∙◌, subst}
use Rattle.view_sums.specs.Total.{Each}
use Rattle.frag_value.specs.Values.{IsFilled}
use Rattle.frag_value.specs.Pins.{KeyFrags, all_frags, pairs_shown}
use Rattle.shard_core.proofs.Holds.{marked_held, poor-marked}
use Rattle.shard_core.proofs.PinnedAll.{filled_all, sorted_held, shows_store}
use Rattle.shard_core.proofs.pinning.pin_values.Goals as goal

pub returns-in_err-rooms-clause-kept : goal.returns-in_err-rooms-clause-kept
returns-in_err-rooms-clause-kept g c = record {
  poor = c.requires.kept.poor;
  held = sorted_held g.P.PoolName.sizes c.args.kept.now.values.entries c.sort_entries.new.values.entries
      c.args.kept.now.own.holds c.sort_entries.ensures.permuted c.requires.kept.held;
}

pub returns-in_err-room-clause-kept : goal.returns-in_err-room-clause-kept
returns-in_err-room-clause-kept g c = record {
  poor = c.requires.kept.poor;
  held = sorted_held g.P.PoolName.sizes c.args.kept.now.values.entries c.sort_entries.new.values.entries
      c.args.kept.now.own.holds c.sort_entries.ensures.permuted c.requires.kept.held;
}

pub pin_each-requires-clause-kept : goal.pin_each-requires-clause-kept
pin_each-requires-clause-kept g c = record {
  poor = c.requires.kept.poor;
  held = sorted_held g.P.PoolName.sizes c.args.kept.now.values.entries c.sort_entries.new.values.entries
      c.args.kept.now.own.holds c.sort_entries.ensures.permuted c.requires.kept.held;
}

pub returns-clause-kept : goal.returns-clause-kept
returns-clause-kept g c =
    let own = c.args.kept.now.own in
    let sorted = sorted_held g.P.PoolName.sizes c.args.kept.now.values.entries c.sort_entries.new.values.entries
    own.holds c.sort_entries.ensures.permuted c.requires.kept.held in
    record {
      poor = poor-marked own c.pin_each.new.own c.pin_each.ensures.owner c.requires.kept.poor;
      held = marked_held g.P.PoolName.sizes _ _ own c.pin_each.new.own c.pin_each.ensures.owner sorted;
    }

pub returns-clause-filled : goal.returns-clause-filled
returns-clause-filled g c =
    let hs = c.args.kept.now.own.holds in
    let now = c.sort_entries.new.values.entries in
    let sorted = sorted_held g.P.PoolName.sizes c.args.kept.now.values.entries now hs c.sort_entries.ensures.permuted
    c.requires.kept.held in
    subst (λ (l : List KeyFrags). Each (IsFilled hs) (all_frags l)) (sym c.pin_each.ensures.pairs)
    (filled_all hs now sorted.filled)

pub returns-clause-pairs : goal.returns-clause-pairs
returns-clause-pairs g c = λ s p agrees.
    let hs = c.args.kept.now.own.holds in
    ap (pairs_shown hs) c.pin_each.ensures.pairs
    ∙ shows_store g.P.PoolName.sizes c.args.kept.now.values.entries c.sort_entries.new.values.entries hs
    c.in_ok-sort_entries.ensures.ordered c.sort_entries.ensures.kept s p agrees
