use Rattle.std.proofs.Common.{sym, ◌∙◌, subst}
use Rattle.flake_model.specs.Deed.{final_store, final_places}
use Rattle.order_book.specs.Pages.{ShardList}
use Rattle.shard_store.specs.Shards.{IsShard}
use Rattle.shard_store.proofs.Imaged.{has_pinned, still_shown, agrees_still}
use Rattle.shard_store.proofs.shard.Shard.pin.Goals as goal

pub invariant_of-self-2 : goal.invariant_of-self-2
invariant_of-self-2 g c =
    let z = g.P.PoolName.sizes in
    let inside = c.self.inside in
    let map = inside.shard_map in
    let now = c.pin_all.new.self in
    let was = c.self.invariant in
    let list : ShardList = inside.seat in
    subst (λ (l : ShardList). IsShard z g.row.I now l inside.journal.items) (sym c.both_lists-place.ensures.shard)
    (record {
      number_is = was.number_is;
      journal_is = was.journal_is;
      legal = was.legal;
      agrees = agrees_still z map.entries now.entries map.seat now.seat c.pin_all.ensures.same c.pin_all.ensures.seat
          (final_store list.told) (final_places list.told) was.agrees;
    })

pub returns-clause-image : goal.returns-clause-image
returns-clause-image g c =
    let z = g.P.PoolName.sizes in
    let inside = c.self.inside in
    let list : ShardList = inside.seat in
    let hs = inside.shard_map.seat.holds in
    let pairs = c.in_ok-pairs.pairs.items in
    let old = c.args.seat.now in
    let new = c.pin_all.new.taker in
    let e = c.in_ok-pairs.ensures in
    record {
      list = list;
      number_is = c.self.invariant.number_is;
      seen = c.both_lists-place.ensures.session;
      shared = c.both_lists-place.ensures.shared;
      place_is = c.both_lists-place.ensures.place;
      pinned = has_pinned z hs pairs old new e.pins c.is_seat.ensures.fronts e.filled e.few;
      pairs_are = still_shown z hs pairs old new e.pins c.is_seat.ensures.fronts e.filled
          ∙ e.pairs (final_store list.told) (final_places list.told) c.self.invariant.agrees;
    }
