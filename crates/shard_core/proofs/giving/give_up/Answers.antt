use Rattle.std.proofs.Common.{◌≡◌, ◌+◌, ◌++◌, true, false, length, sym, ap, ◌∙◌, subst, arith}
use Rattle.std.specs.Option.{option_map}
use Rattle.view_sums.specs.Total.{Each}
use Rattle.frag_value.specs.Values.{IsFilled, value_bytes}
use Rattle.frag_value.specs.Taken.{entire}
use Rattle.shard_core.specs.Kept.{frags_of, value_addresses}
use Rattle.shard_core.specs.Answers.{old_answer}
use Rattle.shard_core.specs.Pieces.{pieces_at}
use Rattle.shard_core.proofs.Runs.{over-pieces, one-more}
use Rattle.shard_core.proofs.giving.give_up.Goals as goal

pub returns-then-asks-clause-taken : goal.returns-then-asks-clause-taken
returns-then-asks-clause-taken g c =
    let z = g.P.PoolName.sizes in
    let hs = c.args.own.now.holds in
    let is = c.in-Some.is in
    let yes = c.if-asks.true in
    let filled = subst (λ o. Each (IsFilled hs) (frags_of o)) is c.requires.value.filled in
    c.hand_over.ensures.taken
    ∙ ap (λ l. g.T.Taker.taken c.args.taker.now ++ l) (over-pieces z hs c.in-Some.old c.is_value.ensures filled
    ∙ (λ i. pieces_at entire true (old_answer (sym yes i) (option_map (value_bytes hs) (sym is i)))
    (value_addresses z (frags_of (sym is i))) 0))

pub hand_over-requires-clause-room : goal.hand_over-requires-clause-room
hand_over-requires-clause-room g c = c.requires.taker.room c.if-asks.true

pub returns-then-asks-clause-taker : goal.returns-then-asks-clause-taker
returns-then-asks-clause-taker g c =
    let more : length (g.T.Taker.taken c.hand_over.new.taker) ≡ length (g.T.Taker.taken c.args.taker.now) + 1 =
    one-more _ _ _ c.hand_over.ensures.taken in
    record {
      none = c.hand_over.ensures.none;
      base = c.hand_over.ensures.base;
      room = λ _. omega (arith, c.hand_over.ensures.room, more);
      range_room = λ (wrong : false ≡ true). absurd (cc);
    }
