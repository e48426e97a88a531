use Rattle.std.proofs.Common.{◌≡◌, false, is_some, refl, sym, ◌∙◌}
use Rattle.std.specs.FinMap as finite
use Rattle.flake_model.specs.Store.{set, stores}
use Rattle.frag_value.specs.Values.{value_bytes}
use Rattle.shard_core.specs.declared.answer.PartAnswer.TheVariants as say
use Rattle.shard_core.specs.Kept.{bytes_kept, value_at}
use Rattle.shard_core.specs.KeptViews.{kept_view}
use Rattle.shard_core.specs.ShardMaps.{ShardState}
use Rattle.shard_part.specs.Settings.{when_of}
use Rattle.shard_core.proofs.Deeds.{present, is_there, asked_done, unasked_done}
use Rattle.shard_core.proofs.Doing.{either_kept, stored_part, free_part, untouched}
use Rattle.shard_core.proofs.kept.Kept.set.Goals as goal

pub store-requires-clause-stores : goal.store-requires-clause-stores
store-requires-clause-stores g c =
    let key = c.args.part.now.key.now in
    let es = c.args.self.now.values.entries in
    let hs = c.args.self.now.own.holds in
    let had = bytes_kept key es hs in
    let there : c.is_some.result ≡ is_some had = c.is_some.ensures ∙ c.get_index_of-found.ensures.found
    ∙ sym (present (value_bytes hs) (value_at key es)) in
    sym (c.stores.ensures had there) ∙ c.if-stores.true

pub returns-then-stores-clause-kept : goal.returns-then-stores-clause-kept
returns-then-stores-clause-kept g c =
    let was : ShardState = record {
      shard = kept_view c.args.self.now;
      payer = c.args.payer.now;
      stored = c.args.stored.now.items;
      taken = g.T.Taker.taken c.args.taker.now;
    } in
    let is : ShardState = record {
      shard = kept_view c.store.new.kept;
      payer = c.store.new.payer;
      stored = c.store.new.stored.items;
      taken = g.T.Taker.taken c.store.new.taker;
    } in
    either_kept g.P.PoolName.sizes (when_of c.args.when) c.args.asks c.args.part.now.key.now c.args.part.now.value.now
    was is c.store.result c.requires.kept c.store.ensures.kept c.store.ensures.refused

pub returns-then-stores-clause-part : goal.returns-then-stores-clause-part
returns-then-stores-clause-part g c =
    let key = c.args.part.now.key.now in
    let es = c.args.self.now.values.entries in
    let hs = c.args.self.now.own.holds in
    let had = bytes_kept key es hs in
    let there : c.is_some.result ≡ is_some had = c.is_some.ensures ∙ c.get_index_of-found.ensures.found
    ∙ sym (present (value_bytes hs) (value_at key es)) in
    let was : ShardState = record {
      shard = kept_view c.args.self.now;
      payer = c.args.payer.now;
      stored = c.args.stored.now.items;
      taken = g.T.Taker.taken c.args.taker.now;
    } in
    let is : ShardState = record {
      shard = kept_view c.store.new.kept;
      payer = c.store.new.payer;
      stored = c.store.new.stored.items;
      taken = g.T.Taker.taken c.store.new.taker;
    } in
    stored_part g.P.PoolName.sizes (when_of c.args.when) c.args.asks key c.args.part.now.value.now was is c.store.result
    (sym (c.stores.ensures had there) ∙ c.if-stores.true) c.store.ensures.done c.store.ensures.refused
    c.store.ensures.untaken c.store.ensures.cause c.store.ensures.paid

pub get-requires-clause-taker : goal.get-requires-clause-taker
get-requires-clause-taker g c = record {
  none = c.requires.taker.none;
  room = λ _. c.requires.taker.room c.if-asks.true;
  range_room = c.requires.taker.range_room;
}

pub returns-then-asks-clause-part : goal.returns-then-asks-clause-part
returns-then-asks-clause-part g c =
    let z = g.P.PoolName.sizes in
    let key = c.args.part.now.key.now in
    let bytes = c.args.part.now.value.now in
    let when = when_of c.args.when in
    let es = c.args.self.now.values.entries in
    let hs = c.args.self.now.own.holds in
    let payer = c.args.payer.now in
    let segs = c.args.stored.now.items in
    let t0 = g.T.Taker.taken c.args.taker.now in
    let t1 = g.T.Taker.taken c.get.new.taker in
    let was : ShardState = record { shard = kept_view c.args.self.now; payer = payer; stored = segs; taken = t0 } in
    let is : ShardState = record { shard = kept_view c.get.new.kept; payer = payer; stored = segs; taken = t1 } in
    free_part z (kept_view c.args.self.now) (kept_view c.get.new.kept) payer segs t0 t1
    (set when c.args.asks key bytes) c.get.result (λ s p a.
    let there : c.is_some.result ≡ is_some (finite.get s key) = c.is_some.ensures ∙ c.get_index_of-found.ensures.found
    ∙ sym (is_there z es hs s p key a) in
    let idle : stores when (finite.get s key) ≡ false =
    sym (c.stores.ensures (finite.get s key) there) ∙ c.if-stores.false in
    asked_done z when c.args.asks key bytes s p c.get.result was is c.if-asks.true idle
    (c.get.ensures.says s p a) (c.get.ensures.agrees s p a) refl (c.get.ensures.taken s p a))

pub returns-else-asks-clause-part : goal.returns-else-asks-clause-part
returns-else-asks-clause-part g c =
    let z = g.P.PoolName.sizes in
    let key = c.args.part.now.key.now in
    let bytes = c.args.part.now.value.now in
    let when = when_of c.args.when in
    let es = c.args.self.now.values.entries in
    let hs = c.args.self.now.own.holds in
    let payer = c.args.payer.now in
    let segs = c.args.stored.now.items in
    let t = g.T.Taker.taken c.args.taker.now in
    let was : ShardState = record { shard = kept_view c.args.self.now; payer = payer; stored = segs; taken = t } in
    free_part z (kept_view c.args.self.now) (kept_view c.args.self.now) payer segs t t
    (set when c.args.asks key bytes) say.Null (λ s p a.
    let there : c.is_some.result ≡ is_some (finite.get s key) = c.is_some.ensures ∙ c.get_index_of-found.ensures.found
    ∙ sym (is_there z es hs s p key a) in
    let idle : stores when (finite.get s key) ≡ false =
    sym (c.stores.ensures (finite.get s key) there) ∙ c.if-stores.false in
    unasked_done z when c.args.asks key bytes s p was was c.if-asks.false idle a refl refl)

pub returns-else-asks-clause-taker : goal.returns-else-asks-clause-taker
returns-else-asks-clause-taker g c = untouched _ _ c.requires.taker.none
