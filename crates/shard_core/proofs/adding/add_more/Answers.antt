use Rattle.std.proofs.Common.{[], position, refl, sym, ap, ◌∙◌, subst}
use Rattle.pin_core.specs.declared.class.Class.{Class}
use Rattle.flake_model.specs.Store.{append}
use Rattle.frag_value.specs.Changes.{found_none}
use Rattle.shard_core.specs.Demand.{part_row}
use Rattle.shard_core.specs.Keys.{is_key}
use Rattle.shard_core.specs.Paid.{IsPaid}
use Rattle.shard_core.specs.ShardMaps.{ShardState}
use Rattle.shard_core.proofs.Changed.{Put, put-set}
use Rattle.shard_core.proofs.Holds.{has_found}
use Rattle.shard_core.proofs.Appends.{restored_kept, restored_same, more_done, more_back, why_refused, none_told}
use Rattle.shard_core.proofs.Appends.{on_err}
use Rattle.shard_core.proofs.Free.{more_stores, refused_free}
use Rattle.shard_core.proofs.Needs.{more_needs}
use Rattle.shard_core.proofs.adding.add_more.Goals as goal

pub extend-requires-clause-value : goal.extend-requires-clause-value
extend-requires-clause-value g c = has_found g.P.PoolName.sizes _ _ _ c.requires.kept.held c.args.key.now
    c.exchange-old.result c.exchange-old.ensures.old

pub returns-in-Ok-clause-kept : goal.returns-in-Ok-clause-kept
returns-in-Ok-clause-kept g c =
    let es = c.args.kept.now.values.entries in
    let es1 = c.exchange-old.new.values.entries in
    let now = c.exchange.new.values.entries in
    let key = c.args.key.now in
    let i = c.args.index in
    let old = c.exchange-old.result in
    let w = c.in-Ok.value in
    let first = c.exchange-old.ensures in
    let second = c.exchange.ensures in
    let out : Put es es1 key [] = subst (λ x. Put es es1 key x) c.empty.ensures
    (put-set es es1 key i old c.empty.result c.requires.there first.old first.entries first.changed) in
    let back : Put es1 now key w = put-set es1 now key i c.exchange.result w
    (ap (position (is_key key)) first.keys ∙ c.requires.there) second.old second.entries second.changed in
    restored_kept g.P.PoolName.sizes key es es1 now c.args.kept.now.own c.extend.new.own old w c.requires.kept
    c.is_seat.ensures first.old out c.in-Ok.ensures.carried back

pub returns-in-Ok-clause-part : goal.returns-in-Ok-clause-part
returns-in-Ok-clause-part g c = λ t.
    let z = g.P.PoolName.sizes in
    let es = c.args.kept.now.values.entries in
    let es1 = c.exchange-old.new.values.entries in
    let now = c.exchange.new.values.entries in
    let key = c.args.key.now in
    let i = c.args.index in
    let old = c.exchange-old.result in
    let w = c.in-Ok.value in
    let first = c.exchange-old.ensures in
    let second = c.exchange.ensures in
    let out : Put es es1 key [] = subst (λ x. Put es es1 key x) c.empty.ensures
    (put-set es es1 key i old c.empty.result c.requires.there first.old first.entries first.changed) in
    let back : Put es1 now key w = put-set es1 now key i c.exchange.result w
    (ap (position (is_key key)) first.keys ∙ c.requires.there) second.old second.entries second.changed in
    record {
      done = λ s p a. more_done z key es es1 now c.args.kept.now.own c.extend.new.own old w c.requires.kept
          c.is_seat.ensures first.old out c.in-Ok.ensures.carried back c.args.payer.now c.extend.new.payer
          c.args.bytes.now c.args.stored.now.items c.show.new.stored.items c.len-length.result c.is_value.ensures
          c.in-Ok.ensures.longer c.len-length.ensures.size c.show.ensures.items s p t a;
      same = λ s p a. tt;
      untold = tt;
      untaken = tt;
      cause = tt;
      needs = tt;
      paid = c.in-Ok.ensures.paid;
      pays = λ s p a stored. absurd (more_stores z key c.args.bytes.now es c.args.kept.now.own old c.requires.kept
          first.old c.in-Ok.ensures.longer.few s p a stored);
    }

pub returns-in-Err-clause-kept : goal.returns-in-Err-clause-kept
returns-in-Err-clause-kept g c =
    let es = c.args.kept.now.values.entries in
    let es1 = c.exchange-old.new.values.entries in
    let now = c.exchange-in-Err.new.values.entries in
    let key = c.args.key.now in
    let i = c.args.index in
    let old = c.exchange-old.result in
    let first = c.exchange-old.ensures in
    let second = c.exchange-in-Err.ensures in
    let same = c.in-Err.ensures.returned in
    let out : Put es es1 key [] = subst (λ x. Put es es1 key x) c.empty.ensures
    (put-set es es1 key i old c.empty.result c.requires.there first.old first.entries first.changed) in
    let back : Put es1 now key old = subst (λ x. Put es1 now key x) same.0
    (put-set es1 now key i c.exchange-in-Err.result c.in-Err.value
    (ap (position (is_key key)) first.keys ∙ c.requires.there) second.old second.entries second.changed) in
    restored_kept g.P.PoolName.sizes key es es1 now c.args.kept.now.own c.extend.new.own old old c.requires.kept
    c.is_seat.ensures first.old out same.1 back

pub returns-in-Err-clause-part : goal.returns-in-Err-clause-part
returns-in-Err-clause-part g c = λ t.
    let z = g.P.PoolName.sizes in
    let es = c.args.kept.now.values.entries in
    let es1 = c.exchange-old.new.values.entries in
    let now = c.exchange-in-Err.new.values.entries in
    let key = c.args.key.now in
    let bytes = c.args.bytes.now in
    let i = c.args.index in
    let old = c.exchange-old.result in
    let own = c.args.kept.now.own in
    let first = c.exchange-old.ensures in
    let second = c.exchange-in-Err.ensures in
    let same = c.in-Err.ensures.returned in
    let out : Put es es1 key [] = subst (λ x. Put es es1 key x) c.empty.ensures
    (put-set es es1 key i old c.empty.result c.requires.there first.old first.entries first.changed) in
    let back : Put es1 now key old = subst (λ x. Put es1 now key x) same.0
    (put-set es1 now key i c.exchange-in-Err.result c.in-Err.value
    (ap (position (is_key key)) first.keys ∙ c.requires.there) second.old second.entries second.changed) in
    let payer = c.args.payer.now in
    let paid = c.extend.new.payer in
    let why = c.in-Err.ensures.cause in
    let was : ShardState = record {
      shard = record { entries = es; seat = own };
      payer = payer;
      stored = c.args.stored.now.items;
      taken = t;
    } in
    let is : ShardState = record {
      shard = record { entries = now; seat = c.extend.new.own };
      payer = paid;
      stored = c.args.stored.now.items;
      taken = t;
    } in
    record {
      done = λ s p a. more_back z key es es1 now own c.extend.new.own old old c.requires.kept c.is_seat.ensures
          first.old out same.1 back payer paid bytes c.args.stored.now.items c.in-Err.error c.refused.result
          c.refused.ensures why refl c.in-Err.ensures.same s p t a;
      same = λ s p a. on_err c.refused.result _
          (restored_same z key es es1 now own c.extend.new.own old old c.requires.kept c.is_seat.ensures first.old out
          same.1 back refl c.in-Err.ensures.same s p a);
      untold = on_err c.refused.result _ refl;
      untaken = on_err c.refused.result _ refl;
      cause = why_refused z old key bytes c.in-Err.error c.refused.result payer paid c.refused.ensures why;
      needs = more_needs z key bytes es own old c.requires.kept first.old c.in-Err.error c.refused.result was is
          c.refused.ensures refl why c.in-Err.ensures.lacks;
      paid = subst (λ n. IsPaid z (λ (class : Class). part_row class (append key bytes)) n payer paid)
          (none_told c.in-Err.error ∙ ap found_none (sym c.refused.ensures)) c.in-Err.ensures.paid;
      pays = refused_free z key bytes es own old c.requires.kept first.old c.in-Err.error c.refused.result was is
          c.refused.ensures refl why;
    }
