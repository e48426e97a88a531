use Rattle.std.specs.FinMap as finite
use Rattle.std.proofs.Common.{◌≡◌, ◌++◌, ◌∷◌, [], List, Some, None, sym, refl, ap, ◌∙◌, subst, append-nil}
use Rattle.std.proofs.Common.{false, true, rules}
use Rattle.flake_base.specs.declared.journal.Entry.{Entry}
use Rattle.flake_model.specs.Deed.{final_store, final_places, places_at}
use Rattle.flake_model.specs.Journal.{shard_of}
use Rattle.flake_model.specs.Store.{key_of, change_by, stored_value}
use Rattle.order_book.specs.Pages.{ShardList, SessionList}
use Rattle.shard_core.specs.ShardMaps.{ShardState}
use Rattle.shard_core.specs.declared.answer.PartAnswer.TheVariants as say
use Rattle.shard_part.specs.Parts.{operation_of}
use Rattle.shard_core.specs.Outcomes.{PartOutcome}
use Rattle.shard_store.specs.Shards.{IsShard, answer_after, found_after, first_after}
use Rattle.shard_store.proofs.Histories.{as_was, grows, stored_are, entered_shard, entered_session, pieces-found}
use Rattle.shard_store.proofs.Histories.{stays, may_miss, key-part, refused, needed, wanting}
use Rattle.shard_store.proofs.Histories.{paid_part, seat_kept, on_err}
use Rattle.shard_store.proofs.Reached.{reaches}
use Rattle.shard_store.proofs.Stored.{in_buffers}
use Rattle.shard_store.proofs.Unstored.{unstored, would_put, shown_answer}
use Rattle.shard_store.proofs.shard.Shard.run.Goals as goal

pub returns-in_err-reserve-clause-part : goal.returns-in_err-reserve-clause-part
returns-in_err-reserve-clause-part g c = record {
  told = search rules;
  untold = on_err _ c.from_residual.result
      (record { list = refl; taken_is = refl; segs_are = refl; sought = stays g.P.PoolName.sizes _ c.args.payer.now });
  seat = record { holds = refl; credits = refl; returns = refl };
}

pub invariant_of-self-in-Ok : goal.invariant_of-self-in-Ok
invariant_of-self-in-Ok g c =
    let stands = as_was g.P.PoolName.sizes g.row.I _ _ c.self.inside.seat c.self.inside.journal.items
    c.claim_for.ensures c.self.invariant in
    let z = g.P.PoolName.sizes in
    let was : ShardState = record {
      shard = c.claim_for.new.shard_map;
      payer = c.args.payer.now;
      stored = c.args.stored.now.items;
      taken = g.T.Taker.taken c.args.taker.now;
    } in
    let is : ShardState = record {
      shard = c.apply.new.self;
      payer = c.apply.new.payer;
      stored = c.apply.new.stored.items;
      taken = g.T.Taker.taken c.apply.new.taker;
    } in
    let inside = c.self.inside in
    let list : ShardList = inside.seat in
    let op = operation_of c.args.asked.now.part in
    let d = c.in-Ok.ensures.part.done (final_store list.told) (final_places list.told) stands.agrees in
    let all = stored_are c.args.stored.now.items c.apply.new.stored.items c.as_slice.result.now c.len-from.result _
    d.stored c.as_slice.ensures c.len-from.ensures d.segs_are in
    subst (λ (y : ShardList × List Entry). IsShard z g.row.I c.apply.new.self y.0 y.1)
    (λ i. (
      sym (entered_shard list c.meet.new.shard _ c.args.asked.now.at op _ d.stored c.meet.ensures.shard c.of.ensures
          all) i,
      sym (c.push_reserved.ensures.items ∙ ap (λ l. l ++ c.args.asked.now.at ∷ []) c.in_ok-reserve.ensures.items) i,
    ))
    (grows z g.row.I list inside.journal.items c.args.asked.now.at op c.in-Ok.answer was is stands d
    c.is_shard_map-in-Ok.ensures.kept c.is_shard_map-in-Ok.ensures.seat)

pub returns-in-Ok-clause-part : goal.returns-in-Ok-clause-part
returns-in-Ok-clause-part g c =
    let stands = as_was g.P.PoolName.sizes g.row.I _ _ c.self.inside.seat c.self.inside.journal.items
    c.claim_for.ensures c.self.invariant in
    let z = g.P.PoolName.sizes in
    let shards = g.N.BookName.sizes.shards in
    let inside = c.self.inside in
    let list : ShardList = inside.seat in
    let part = c.args.asked.now.part in
    let op = operation_of part in
    let s = final_store list.told in
    let p = final_places list.told in
    let d = c.in-Ok.ensures.part.done s p stands.agrees in
    let all = stored_are c.args.stored.now.items c.apply.new.stored.items c.as_slice.result.now c.len-from.result _
    d.stored c.as_slice.ensures c.len-from.ensures d.segs_are in
    let here = c.self.invariant.number_is ∙ sym c.requires.here
    ∙ ap (shard_of shards) (sym (key-part part.op part.key.now part.value.now)) in
    let met = entered_session c.args.mine.now c.meet.new.session list _ (shard_of shards (key_of op))
    c.args.asked.now.at op _ d.stored c.meet.ensures.session c.of.ensures all here in
    let outcome : PartOutcome = record {
      answer = answer_after list.told op;
      found = found_after list.told op;
      first = first_after list.told op;
      stored = d.stored;
    } in
    record {
      told = record {
        outcome = Some outcome;
        run = record {
          is = tt;
          told = ap (λ (l : SessionList). l.told) met;
          sought = paid_part z op (Some outcome) c.args.payer.now c.apply.new.payer c.in-Ok.ensures.part.paid;
          free = λ none.
              let pays = c.in-Ok.ensures.part.pays s p stands.agrees (none (finite.get s (key_of op)) refl) in
              (pays.claims, pays.looks);
          missed = tt;
        };
        number = ap (λ (l : SessionList). l.number) met;
        looks = ap (λ (l : SessionList). l.looks) met;
        says = d.says;
        pieces = d.pieces ∙ ap (λ l. g.T.Taker.taken c.args.taker.now ++ l)
            (pieces-found op (answer_after list.told op) (places_at p (key_of op)) (first_after list.told op));
        reaches = reaches z inside.shard_map.entries inside.shard_map.seat c.is_shard_map.ensures.kept s p
            c.self.invariant.agrees op;
        answered = record {
          had = finite.get s (key_of op);
          answer_is = refl;
          first_is = refl;
          stored_is = unstored (change_by s op) _ _ d.stored d.stored_is;
        };
        segs_are = d.segs_are;
        in_buffers = in_buffers z c.apply.new.self.entries c.apply.new.self.seat c.is_shard_map-in-Ok.ensures.kept s p
            op d.stored d.agrees _ _ d.stored_is;
      };
      untold = tt;
      seat = seat_kept z _ _ c.args.payer.now c.apply.new.payer c.in-Ok.ensures.part.paid;
    }

pub returns-in_err-reserve-clause-free : goal.returns-in_err-reserve-clause-free
returns-in_err-reserve-clause-free g c = λ none. (search rules, refl, refl)

pub returns-in-Ok-clause-free : goal.returns-in-Ok-clause-free
returns-in-Ok-clause-free g c = λ seen.
    let stands = as_was g.P.PoolName.sizes g.row.I _ _ c.self.inside.seat c.self.inside.journal.items
    c.claim_for.ensures c.self.invariant in
    let list : ShardList = c.self.inside.seat in
    let op = operation_of c.args.asked.now.part in
    let none = subst (λ (l : ShardList). stored_value (final_store l.told) op ≡ None) (sym c.self.view_is) seen in
    let s = final_store list.told in
    let p = final_places list.told in
    let pays = c.in-Ok.ensures.part.pays s p stands.agrees none in
    let d = c.in-Ok.ensures.part.done s p stands.agrees in
    (shown_answer _ _ d.says, pays.claims, pays.looks)

pub returns-in-Err-NoBuffer-clause-free : goal.returns-in-Err-NoBuffer-clause-free
returns-in-Err-NoBuffer-clause-free g c = λ seen.
    let stands = as_was g.P.PoolName.sizes g.row.I _ _ c.self.inside.seat c.self.inside.journal.items
    c.claim_for.ensures c.self.invariant in
    let list : ShardList = c.self.inside.seat in
    let op = operation_of c.args.asked.now.part in
    let none = subst (λ (l : ShardList). stored_value (final_store l.told) op ≡ None) (sym c.self.view_is) seen in
    let pays = c.in-Err-NoBuffer.ensures.part.pays (final_store list.told) (final_places list.told)
    stands.agrees none in
    let wrong : false ≡ true = pays.answered in
    absurd (cc)

pub returns-in-Err-Memory-clause-free : goal.returns-in-Err-Memory-clause-free
returns-in-Err-Memory-clause-free g c = λ seen.
    let stands = as_was g.P.PoolName.sizes g.row.I _ _ c.self.inside.seat c.self.inside.journal.items
    c.claim_for.ensures c.self.invariant in
    let list : ShardList = c.self.inside.seat in
    let op = operation_of c.args.asked.now.part in
    let none = subst (λ (l : ShardList). stored_value (final_store l.told) op ≡ None) (sym c.self.view_is) seen in
    let pays = c.in-Err-Memory.ensures.part.pays (final_store list.told) (final_places list.told)
    stands.agrees none in
    let wrong : false ≡ true = pays.answered in
    absurd (cc)

pub returns-in-Err-NoBuffer-clause-part : goal.returns-in-Err-NoBuffer-clause-part
returns-in-Err-NoBuffer-clause-part g c =
    let stands = as_was g.P.PoolName.sizes g.row.I _ _ c.self.inside.seat c.self.inside.journal.items
    c.claim_for.ensures c.self.invariant in
    let z = g.P.PoolName.sizes in
    let was : ShardState = record {
      shard = c.claim_for.new.shard_map;
      payer = c.args.payer.now;
      stored = c.args.stored.now.items;
      taken = g.T.Taker.taken c.args.taker.now;
    } in
    let is : ShardState = record {
      shard = c.apply.new.self;
      payer = c.apply.new.payer;
      stored = c.apply.new.stored.items;
      taken = g.T.Taker.taken c.apply.new.taker;
    } in
    let op = operation_of c.args.asked.now.part in
    let here = c.in-Err-NoBuffer in
    let none = refused z op here.field-0 here.none c.args.payer.now c.apply.new.payer here.field-0-is
    here.ensures.part.paid here.ensures.part.cause in
    let list : ShardList = c.self.inside.seat in
    let s = final_store list.told in
    record {
      told = record {
        outcome = None;
        run = record {
          is = may_miss z op c.args.payer.now c.apply.new.payer none.0;
          told = sym (append-nil c.args.mine.now.told);
          sought = paid_part z op None c.args.payer.now c.apply.new.payer none.0;
          free = absurd;
          missed = would_put s op (λ none.
              let pays = here.ensures.part.pays s (final_places list.told) stands.agrees none in
              let wrong : false ≡ true = pays.answered in
              absurd (cc));
        };
        number = refl;
        looks = refl;
        says = (
          here.none,
          ap say.NoBuffer here.none-is,
          none.1,
          (
            finite.get s (key_of op),
            needed z op here.field-0 here.none was is here.field-0-is here.ensures.part.needs s
                (final_places list.told) stands.agrees,
          ),
        );
        pieces = here.ensures.part.untaken ∙ sym (append-nil (g.T.Taker.taken c.args.taker.now));
        reaches = tt;
        answered = tt;
        segs_are = here.ensures.part.untold ∙ sym (append-nil c.args.stored.now.items);
        in_buffers = tt;
      };
      untold = tt;
      seat = seat_kept z _ _ c.args.payer.now c.apply.new.payer here.ensures.part.paid;
    }

pub returns-in-Err-Memory-clause-part : goal.returns-in-Err-Memory-clause-part
returns-in-Err-Memory-clause-part g c =
    let z = g.P.PoolName.sizes in
    let op = operation_of c.args.asked.now.part in
    let does = c.in-Err-Memory.ensures.part in
    let paid = wanting z op c.in-Err-Memory.field-0 c.args.payer.now c.apply.new.payer c.in-Err-Memory.field-0-is
    does.paid in
    record {
      told = tt;
      untold = record { list = refl; taken_is = does.untaken; segs_are = does.untold; sought = paid.sought };
      seat = seat_kept z _ _ c.args.payer.now c.apply.new.payer paid;
    }
