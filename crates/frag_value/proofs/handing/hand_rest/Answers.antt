use Rattle.std.proofs.Common.{◌≡◌, ◌<◌, List, [], ◌∷◌, Some, length, refl, sym, ap, ◌∙◌, subst, arith}
use Rattle.std.proofs.lemmas.List.{nil_from_length}
use Rattle.frag_value.specs.Values.{size_of}
use Rattle.frag_value.specs.Taken.{entire, over_all, behind_first, OverSoFar, HandsOver}
use Rattle.frag_value.proofs.Released.{all_of}
use Rattle.frag_value.proofs.HandsOver.{handed_none, first_held, first_filled, first_next, first_over}
use Rattle.frag_value.proofs.handing.hand_rest.Goals as goal

pub loop-taker-init : goal.loop-taker-init
loop-taker-init g c = record {
  far = record { over = []; parts = refl; begun_is = c.requires.begun; owner = handed_none c.args.owner.now };
  taken = refl;
  base = refl;
  room = omega arith;
}

pub take_over-requires-clause-held : goal.take_over-requires-clause-held
take_over-requires-clause-held g c =
    first_held g.N.PoolName.sizes c.args.value.now c.args.owner.now c.loop-taker.owner c.is_seat.ensures
    c.is_value.ensures c.requires.value (g.T.Taker.begun c.loop-taker.taker) c.loop-taker.value
    (omega (arith, c.loop-taker-test.true, c.count.ensures)) c.loop-taker.invariant.far

pub take_over-requires-clause-filled : goal.take_over-requires-clause-filled
take_over-requires-clause-filled g c =
    first_filled g.N.PoolName.sizes c.args.value.now c.args.owner.now c.loop-taker.owner c.is_seat.ensures
    c.is_value.ensures c.requires.value (g.T.Taker.begun c.loop-taker.taker) c.loop-taker.value
    (omega (arith, c.loop-taker-test.true, c.count.ensures)) c.loop-taker.invariant.far

pub take_over-requires-clause-next : goal.take_over-requires-clause-next
take_over-requires-clause-next g c =
    first_next g.N.PoolName.sizes c.args.value.now c.args.owner.now c.loop-taker.owner c.is_seat.ensures
    c.is_value.ensures c.requires.value (g.T.Taker.begun c.loop-taker.taker) c.loop-taker.value
    (omega (arith, c.loop-taker-test.true, c.count.ensures)) c.loop-taker.invariant.far

pub loop-taker-preserved : goal.loop-taker-preserved
loop-taker-preserved g c =
    let i = c.loop-taker.invariant in
    let e = c.take_over.ensures in
    let z = g.N.PoolName.sizes in
    record {
      far = subst (λ l. OverSoFar z c.args.value.now l c.args.owner.now c.take_over.new.owner
          (g.T.Taker.begun c.take_over.new.self) (λ b. Some b)) (sym e.value)
          (first_over z c.args.value.now c.args.owner.now c.loop-taker.owner c.is_seat.ensures c.is_value.ensures
          c.requires.value (g.T.Taker.begun c.loop-taker.taker) c.loop-taker.value c.take_over.new.owner
          (g.T.Taker.begun c.take_over.new.self) (omega (arith, c.loop-taker-test.true, c.count.ensures)) i.far
          e.begun e.owner);
      taken = e.taken ∙ i.taken;
      base = e.base ∙ i.base;
      room = omega (arith, e.room, i.room);
    }

shorter : {A : Type 0} (xs ys : List A) → 0 < length xs → ys ≡ behind_first xs → length ys < length xs
shorter [] ys some is = absurd (omega arith)
shorter (x ∷ xs) ys some is = omega (arith, ap length is)

pub loop-taker-smaller : goal.loop-taker-smaller
loop-taker-smaller g c = shorter c.loop-taker.value c.take_over.new.value
    (omega (arith, c.loop-taker-test.true, c.count.ensures)) c.take_over.ensures.value

pub returns : goal.returns
returns g c =
    let i = c.loop-taker.invariant in
    let all = all_of c.args.value.now i.far.over c.loop-taker.value i.far.parts
    (nil_from_length c.loop-taker.value (omega (arith, c.loop-taker-test.false, c.count.ensures))) in
    let z = g.N.PoolName.sizes in
    record {
      begun = i.far.begun_is
          ∙ ap (λ v. Some (record {
            extent = entire;
            size = size_of c.args.value.now;
            frags = over_all z c.args.owner.now.holds v;
          })) all;
      taken = i.taken;
      base = i.base;
      room = i.room;
      owner = subst (λ v. HandsOver v c.args.owner.now c.loop-taker.owner) all i.far.owner;
    }
