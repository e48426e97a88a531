use Rattle.std.proofs.Common.{◌≡◌, ◌+◌, min, ◌++◌, [], ◌∷◌, true, false, None, Some, length, MatchOption, refl, sym}
use Rattle.std.proofs.Common.{ap, ◌∙◌, subst}
use Rattle.std.proofs.Common.{arith}
use Rattle.std.proofs.Common.{to_z-of_z}
use Rattle.std.specs.Option.{option_map}
use Rattle.std.specs.FinMap as finite
use Rattle.flake_model.specs.Range.{first_place, range_of}
use Rattle.flake_model.specs.Store.{bytes_of, bytes_at, value}
use Rattle.flake_model.specs.Deed.{places_at}
use Rattle.frag_value.specs.Values.{value_bytes}
use Rattle.frag_value.specs.Taken.{ranged, whole}
use Rattle.shard_core.specs.Kept.{value_at, frags_of, value_addresses}
use Rattle.shard_core.specs.Pieces.{pieces_at}
use Rattle.shard_core.proofs.Holds.{has_found, marked_held, marked_agrees, places_of, poor-marked}
use Rattle.shard_core.proofs.Runs.{size-text, range-pieces, empty_range, one-more}
use Rattle.shard_core.proofs.reading.get_range.Goals as goal

pub hand_range-requires-clause-value : goal.hand_range-requires-clause-value
hand_range-requires-clause-value g c = has_found g.P.PoolName.sizes _ _ _ c.requires.kept.held c.args.key.now
    c.value-value.result.now (sym c.in-Some.ensures.value ∙ ap Some (sym c.value-value.ensures))

pub returns-in-Some-clause-kept : goal.returns-in-Some-clause-kept
returns-in-Some-clause-kept g c = record {
  poor = poor-marked c.args.kept.now.own c.hand_range.new.owner c.hand_range.ensures.owner c.requires.kept.poor;
  held = marked_held g.P.PoolName.sizes _ _ c.args.kept.now.own c.hand_range.new.owner c.hand_range.ensures.owner
      c.requires.kept.held;
}

pub returns-in-Some-clause-agrees : goal.returns-in-Some-clause-agrees
returns-in-Some-clause-agrees g c = λ s p a. marked_agrees g.P.PoolName.sizes _ _ c.args.kept.now.own
    c.hand_range.new.owner c.hand_range.ensures.owner c.requires.kept.held s p a

pub returns-in-Some-clause-taken : goal.returns-in-Some-clause-taken
returns-in-Some-clause-taken g c = λ s p a.
    let z = g.P.PoolName.sizes in
    let es = c.args.kept.now.values.entries in
    let hs = c.args.kept.now.own.holds in
    let key = c.args.key.now in
    let v = c.value-value.result.now in
    let there : value_at key es ≡ Some v = sym c.in-Some.ensures.value ∙ ap Some (sym c.value-value.ensures) in
    let filled = (has_found z es _ hs c.requires.kept.held key v there).filled in
    let size = size-text z hs v c.is_value.ensures filled in
    let same : Some (value_bytes hs v) ≡ finite.get s key = sym (ap (option_map (value_bytes hs)) there)
    ∙ a.bytes key in
    let bytes : value_bytes hs v ≡ bytes_at s key = ap bytes_of same in
    let places = sym (places_of z es hs s p key a ∙ ap (λ o. value_addresses z (frags_of o)) there) in
    let len = c.len.ensures.size in
    let begins = to_z-of_z c.ranges.start in
    let ends = to_z-of_z c.ranges.end in
    let text = c.span-from.ensures.range (value_bytes hs v) (sym size ∙ sym len)
    ∙ (λ i. range_of (value_bytes hs v) (begins i) (ends i)) in
    let first = first_place (length (value_bytes hs v)) c.args.start in
    c.hand_range.ensures.taken
    ∙ ap (λ l. g.T.Taker.taken c.args.taker.now ++ l)
    (range-pieces z hs v c.span-from.result.from c.span-from.result.len first
    (range_of (value_bytes hs v) c.args.start c.args.end) c.is_value.ensures filled
    (c.span-from.ensures.from ∙ (λ i. min (first_place ((len ∙ size) i) (begins i)) (len i)))
    (omega (arith, c.span-from.ensures.within, len)) text
    ∙ (λ i. pieces_at ranged false (value (range_of (bytes i) c.args.start c.args.end)) (places i)
    (first_place (length (bytes i)) c.args.start)))

pub hand_range-requires-clause-room : goal.hand_range-requires-clause-room
hand_range-requires-clause-room g c = c.requires.taker.range_room refl

pub begin_part-requires-clause-room : goal.begin_part-requires-clause-room
begin_part-requires-clause-room g c = c.requires.taker.range_room refl

pub returns-in-Some-clause-taker : goal.returns-in-Some-clause-taker
returns-in-Some-clause-taker g c =
    let more : length (g.T.Taker.taken c.hand_range.new.taker) ≡ length (g.T.Taker.taken c.args.taker.now) + 1 =
    one-more _ _ _ c.hand_range.ensures.taken in
    record {
      none = c.hand_range.ensures.none;
      base = c.hand_range.ensures.base;
      room = λ (wrong : true ≡ false). absurd (cc);
      range_room = λ _. omega (arith, c.hand_range.ensures.room, more);
    }

pub returns-in-None-clause-taken : goal.returns-in-None-clause-taken
returns-in-None-clause-taken g c = λ s p a.
    let key = c.args.key.now in
    let gone : finite.get s key ≡ None = sym (a.bytes key) ∙ ap (option_map (value_bytes c.args.kept.now.own.holds))
    (sym c.in-None.ensures.value) in
    let bytes : [] ≡ bytes_at s key = ap bytes_of (sym gone) in
    let ended = subst (λ b. MatchOption b ⊥
    (λ x. g.T.Taker.taken c.finish.new.self ≡ g.T.Taker.taken c.begin_part.new.self ++ whole x ∷ []))
    c.begin_part.ensures.begun c.finish.ensures.taken in
    ended
    ∙ (λ i. c.begin_part.ensures.taken i ++ empty_range c.args.start c.args.end (places_at p key)
    (first_place 0 c.args.start) i)
    ∙ (λ i. g.T.Taker.taken c.args.taker.now ++ pieces_at ranged false
    (value (range_of (bytes i) c.args.start c.args.end)) (places_at p key)
    (first_place (length (bytes i)) c.args.start))

pub returns-in-None-clause-taker : goal.returns-in-None-clause-taker
returns-in-None-clause-taker g c =
    let ended = subst (λ b. MatchOption b ⊥
    (λ x. g.T.Taker.taken c.finish.new.self ≡ g.T.Taker.taken c.begin_part.new.self ++ whole x ∷ []))
    c.begin_part.ensures.begun c.finish.ensures.taken in
    let more = one-more _ _ _ ended in
    record {
      none = c.finish.ensures.begun;
      base = c.finish.ensures.base ∙ c.begin_part.ensures.base;
      room = λ (wrong : true ≡ false). absurd (cc);
      range_room = λ _. omega (
        arith,
        c.begin_part.ensures.room,
        c.finish.ensures.range_room,
        more,
        ap length c.begin_part.ensures.taken,
      );
    }
