use Rattle.std.proofs.Common.{◌≡◌, List, refl, sym, ◌∙◌, subst}
use Rattle.pin_core.specs.Holding.{Holding}
use Rattle.pinned_pool.specs.Moves.{without_keys}
use Rattle.frag_value.specs.Changes.{without_buffer}
use Rattle.frag_value.specs.Values.{HasValue, keys_of, value_bytes}
use Rattle.frag_value.proofs.Released.{has_keys}
use Rattle.frag_value.specs.Values.{Frags}
use Rattle.shard_core.specs.Moved.{IsCarried}
use Rattle.shard_core.proofs.Carried.{carried}
use Rattle.shard_core.proofs.Extended.{same_ok, not_err, back-same, back-whole, longer, paid, lacks, why}
use Rattle.shard_core.proofs.carrying.extend.Goals as goal

pub returns-in-Ok-clause-carried : goal.returns-in-Ok-clause-carried
returns-in-Ok-clause-carried g c =
    let out = c.bring_out.ensures in
    let back = c.bring_back.ensures in
    carried g.P.PoolName.sizes c.args.old c.in-Ok.value c.args.own.now c.bring_out.new.own c.bring_back.new.own
    c.append_from.new.seat out.own back.own c.in-Ok.ensures.appended.has back.filled back.value

pub returns-in-Ok-clause-longer : goal.returns-in-Ok-clause-longer
returns-in-Ok-clause-longer g c =
    let z = g.P.PoolName.sizes in
    let out = c.bring_out.ensures in
    let done = c.in-Ok.ensures in
    let v = c.args.old in
    let w = c.in-Ok.value in
    longer z v c.args.bytes.now c.args.own.now.holds c.args.payer.now c.bring_out.new.payer c.append_from.new.seat
    c.bring_back.new.payer c.is_value.ensures (has_keys v c.args.own.now.holds c.requires.value.held) out.value
    c.is_seat.ensures out.payer w done.appended
    (λ none. let e = done.empty none in (same_ok w v _ _ refl refl e.0, e.1)) c.args.own.now.holds
    c.bring_back.new.own.holds c.bring_back.ensures.bytes out.bytes

pub returns-in-Ok-clause-paid : goal.returns-in-Ok-clause-paid
returns-in-Ok-clause-paid g c =
    let z = g.P.PoolName.sizes in
    let out = c.bring_out.ensures in
    let done = c.in-Ok.ensures in
    let v = c.args.old in
    let w = c.in-Ok.value in
    let hs = c.args.own.now.holds in
    let has = has_keys v hs c.requires.value.held in
    let whole = back-whole z v c.args.bytes.now hs c.args.payer.now c.bring_out.new.payer c.append_from.new.seat
    c.bring_back.new.payer c.is_value.ensures has out.value c.is_seat.ensures out.payer w done.appended
    (λ none. let e = done.empty none in (same_ok w v _ _ refl refl e.0, e.1)) in
    paid z v c.args.bytes.now hs c.args.payer.now c.bring_out.new.payer c.append_from.new.seat c.bring_back.new.payer
    c.is_value.ensures has out.value c.is_seat.ensures out.payer
    (keys_of w) c.bring_back.ensures.payer done.claims 0 whole (λ none. (refl, (done.empty none).1)) done.sought

pub returns-in-Err-clause-returned : goal.returns-in-Err-clause-returned
returns-in-Err-clause-returned g c =
    let z = g.P.PoolName.sizes in
    let out = c.bring_out.ensures in
    let back = c.bring_back-in-Err.ensures in
    let done = c.in-Err.ensures in
    let v = c.args.old in
    let w = c.in-Err.value in
    let is : w ≡ v = done.refused.0 in
    let has : HasValue c.append_from.new.seat.holds w = subst (λ (y : Frags × List Holding). HasValue y.1 y.0)
    (λ i. (sym is i, sym done.refused.1 i)) out.value in (
      is,
      subst (λ x. IsCarried z v x c.args.own.now c.bring_back-in-Err.new.own) is
          (carried z v w c.args.own.now c.bring_out.new.own c.bring_back-in-Err.new.own c.append_from.new.seat out.own
          back.own has back.filled back.value),
    )

pub returns-in-Err-clause-cause : goal.returns-in-Err-clause-cause
returns-in-Err-clause-cause g c =
    let z = g.P.PoolName.sizes in
    let out = c.bring_out.ensures in
    let done = c.in-Err.ensures in
    let v = c.args.old in
    why z v c.args.bytes.now c.args.own.now.holds c.args.payer.now c.bring_out.new.payer c.append_from.new.seat
    c.bring_back-in-Err.new.payer c.is_value.ensures (has_keys v c.args.own.now.holds c.requires.value.held)
    out.value c.is_seat.ensures out.payer
    (keys_of c.in-Err.value) c.bring_back-in-Err.ensures.payer done.claims c.in-Err.error
    (λ none. not_err _ v _ _ refl refl (done.empty none).0) done.cause

pub returns-in-Err-clause-lacks : goal.returns-in-Err-clause-lacks
returns-in-Err-clause-lacks g c =
    let z = g.P.PoolName.sizes in
    let out = c.bring_out.ensures in
    let done = c.in-Err.ensures in
    let v = c.args.old in
    let own = c.args.own.now.holds in
    lacks z v c.args.bytes.now own c.args.payer.now c.bring_out.new.payer c.append_from.new.seat
    c.bring_back-in-Err.new.payer c.is_value.ensures (has_keys v own c.requires.value.held)
    out.value c.is_seat.ensures out.payer
    (keys_of c.in-Err.value) c.bring_back-in-Err.ensures.payer done.claims c.in-Err.error
    (λ none. not_err _ v _ _ refl refl (done.empty none).0) done.cause (value_bytes own v) out.bytes

pub returns-in-Err-clause-paid : goal.returns-in-Err-clause-paid
returns-in-Err-clause-paid g c =
    let z = g.P.PoolName.sizes in
    let out = c.bring_out.ensures in
    let done = c.in-Err.ensures in
    let v = c.args.old in
    let w = c.in-Err.value in
    let hs = c.args.own.now.holds in
    let has = has_keys v hs c.requires.value.held in
    let is : w ≡ v = done.refused.0 in
    let again = back-same z v c.args.bytes.now hs c.args.payer.now c.bring_out.new.payer c.append_from.new.seat
    c.bring_back-in-Err.new.payer c.is_value.ensures has out.value c.is_seat.ensures out.payer in
    paid z v c.args.bytes.now hs c.args.payer.now c.bring_out.new.payer c.append_from.new.seat
    c.bring_back-in-Err.new.payer c.is_value.ensures has out.value c.is_seat.ensures out.payer
    (keys_of w) c.bring_back-in-Err.ensures.payer done.claims (without_buffer c.in-Err.error)
    ((λ i. without_keys (keys_of (is i)) (done.refused.1 i)) ∙ again)
    (λ none. absurd (not_err _ v _ _ refl refl (done.empty none).0)) done.sought
