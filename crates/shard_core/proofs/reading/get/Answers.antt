use Rattle.std.proofs.Common.{◌≡◌, ◌+◌, ◌++◌, true, false, None, Some, length, append-nil, refl, sym, ap, ◌∙◌, arith}
use Rattle.std.specs.Option.{option_map}
use Rattle.std.specs.FinMap as finite
use Rattle.flake_model.specs.Store.{found}
use Rattle.frag_value.specs.Values.{value_bytes}
use Rattle.frag_value.specs.Taken.{entire}
use Rattle.shard_core.specs.Kept.{value_at, frags_of, value_addresses}
use Rattle.flake_model.specs.Deed.{places_at}
use Rattle.shard_core.specs.Answers.{answer_shown}
use Rattle.shard_core.specs.Pieces.{pieces_at}
use Rattle.shard_core.proofs.Changed.{missing_key}
use Rattle.shard_core.proofs.Holds.{has_found, marked_held, marked_agrees, places_of, poor-marked}
use Rattle.shard_core.proofs.Runs.{placed-pieces, one-more}
use Rattle.shard_core.proofs.Doing.{untouched}
use Rattle.shard_core.proofs.reading.get.Goals as goal

pub hand-requires-clause-value : goal.hand-requires-clause-value
hand-requires-clause-value g c = has_found g.P.PoolName.sizes _ _ _ c.requires.kept.held c.args.key.now
    c.value_in-value.result.now c.value_in-value.ensures

pub returns-in-Some-clause-kept : goal.returns-in-Some-clause-kept
returns-in-Some-clause-kept g c = record {
  poor = poor-marked c.args.kept.now.own c.hand.new.owner c.hand.ensures.owner c.requires.kept.poor;
  held = marked_held g.P.PoolName.sizes _ _ c.args.kept.now.own c.hand.new.owner c.hand.ensures.owner
      c.requires.kept.held;
}

pub returns-in-Some-clause-agrees : goal.returns-in-Some-clause-agrees
returns-in-Some-clause-agrees g c = λ s p a. marked_agrees g.P.PoolName.sizes _ _ c.args.kept.now.own c.hand.new.owner
    c.hand.ensures.owner c.requires.kept.held s p a

pub returns-in-Some-clause-taken : goal.returns-in-Some-clause-taken
returns-in-Some-clause-taken g c = λ s p a.
    let z = g.P.PoolName.sizes in
    let es = c.args.kept.now.values.entries in
    let hs = c.args.kept.now.own.holds in
    let key = c.args.key.now in
    let v = c.value_in-value.result.now in
    let there : value_at key es ≡ Some v = c.value_in-value.ensures in
    let bytes : Some (value_bytes hs v) ≡ finite.get s key = sym (ap (option_map (value_bytes hs)) there)
    ∙ a.bytes key in
    let places = sym (places_of z es hs s p key a ∙ ap (λ o. value_addresses z (frags_of o)) there) in
    c.hand.ensures.taken
    ∙ ap (λ l. g.T.Taker.taken c.args.taker.now ++ l)
    (placed-pieces z hs v c.is_value.ensures (has_found z es _ hs c.requires.kept.held key v there).filled
    ∙ (λ i. pieces_at entire false (found (bytes i)) (places i) 0))

pub hand-requires-clause-room : goal.hand-requires-clause-room
hand-requires-clause-room g c = c.requires.taker.room refl

pub returns-in-Some-clause-taker : goal.returns-in-Some-clause-taker
returns-in-Some-clause-taker g c =
    let more : length (g.T.Taker.taken c.hand.new.taker) ≡ length (g.T.Taker.taken c.args.taker.now) + 1 =
    one-more _ _ _ c.hand.ensures.taken in
    record {
      none = c.hand.ensures.none;
      base = c.hand.ensures.base;
      room = λ _. omega (arith, c.hand.ensures.room, more);
      range_room = λ (wrong : false ≡ true). absurd (cc);
    }

pub returns-in-None-clause-taker : goal.returns-in-None-clause-taker
returns-in-None-clause-taker g c = untouched _ _ c.requires.taker.none

pub returns-in-None-clause-says : goal.returns-in-None-clause-says
returns-in-None-clause-says g c = λ s p a.
    let key = c.args.key.now in
    let none = missing_key key c.args.kept.now.values.entries (c.requires.found ∙ c.in-None.is) in
    let gone : finite.get s key ≡ None = sym (a.bytes key) ∙ ap (option_map (value_bytes c.args.kept.now.own.holds))
    none in
    ap (λ o. answer_shown (found o)) (sym gone)

pub returns-in-None-clause-taken : goal.returns-in-None-clause-taken
returns-in-None-clause-taken g c = λ s p a.
    let key = c.args.key.now in
    let none = missing_key key c.args.kept.now.values.entries (c.requires.found ∙ c.in-None.is) in
    let gone : finite.get s key ≡ None = sym (a.bytes key) ∙ ap (option_map (value_bytes c.args.kept.now.own.holds))
    none in
    let had = g.T.Taker.taken c.args.taker.now in
    sym (append-nil had) ∙ ap (λ o. had ++ pieces_at entire false (found o) (places_at p key) 0) (sym gone)
