use Rattle.std.proofs.Common.{◌≡◌, ℕ, List, [], ◌∷◌, ◌++◌, length, map, take, refl, ap, sym, ◌∙◌, subst, arith}
use Rattle.std.proofs.lemmas.List.{length-take}
use Rattle.view_sums.specs.Total.{Each}
use Rattle.view_sums.proofs.Eachs.{each-append}
use Rattle.pinned_pool.specs.Moves.{front_of, pinned_hold, taking}
use Rattle.pinned_pool.specs.declared.view.View.{View}
use Rattle.frag_value.specs.Values.{unmarked_view}
use Rattle.frag_value.specs.declared.frag.Frag.{Frag}
use Rattle.frag_value.proofs.Hands.{held_now}
use Rattle.frag_value.proofs.Lists.{map-more}
use Rattle.frag_value.proofs.Unmarked.{unmarked-sharing, same_front}
use Rattle.frag_value.specs.Pins.{pin_key, pin_holds, pinning}
use Rattle.frag_value.proofs.PinSteps.{take_one_more, pins_more, pinning_more, pinning_none, length-pins}
use Rattle.frag_value.proofs.pinning.pin_value.Goals as goal

pub loop-i-init : goal.loop-i-init
loop-i-init g c =
    let pair : Frag g.row.N.Denot → ℕ × ℕ = λ f. (f.hold.buffer, f.len) in
    record {
      frags = ap (map pair) c.requires.room.0;
      pinned = subst (Each (λ (f : Frag g.row.N.Denot). f.hold ≡ pin_key f.hold.buffer)) (sym c.requires.room.0) tt;
      count = omega (arith, c.args.room.ok.0, ap length c.requires.room.0);
      room = c.requires.room.1;
      owner = refl;
      taker = pinning_none c.args.taker.now;
    }

pub pin-hold-requires : goal.pin-hold-requires
pin-hold-requires g c =
    let i = c.loop-i.invariant in
    let hs = c.args.owner.now.holds in
    let v = c.args.value.now in (
      held_now c.args.owner.now c.loop-i.owner v c.loop-i.i _ i.owner c.requires.value c.frag-frag.ensures.part _
          c.frag-frag.ensures.hold,
      omega (
        arith,
        ap (λ (s : View). s.credits) i.taker,
        length-pins hs (take c.loop-i.i v),
        length-take c.loop-i.i v,
        c.loop-i-test.true,
        c.count-i-end.ensures,
        c.requires.credits,
      ),
    )

pub loop-i-preserved : goal.loop-i-preserved
loop-i-preserved g c =
    let pair : Frag g.row.N.Denot → ℕ × ℕ = λ f. (f.hold.buffer, f.len) in
    let i = c.loop-i.invariant in
    let e = c.pin-hold.ensures in
    let hs = c.args.owner.now.holds in
    let v = c.args.value.now in
    let k = c.loop-i.i in
    let b = c.frag-frag.result.now.hold.buffer in
    let n = c.frag-frag.result.now.len in
    let x : Frag g.row.N.Denot = record { hold = c.pin-hold.result; len = n } in
    let front = front_of b hs in
    record {
      frags = ap (map pair) c.push_reserved.ensures.items ∙ map-more pair c.loop-i.frags.items x
          ∙ ap (λ (l : List (ℕ × ℕ)). l ++ pair x ∷ []) i.frags
          ∙ ap (λ (m : ℕ). take k v ++ (m, n) ∷ []) (ap (λ key. key.buffer) e.new)
          ∙ sym (take_one_more v k (b, n) c.frag-frag.ensures.part);
      pinned = subst (Each (λ (f : Frag g.row.N.Denot). f.hold ≡ pin_key f.hold.buffer)) (sym
          c.push_reserved.ensures.items)
          (each-append (λ (f : Frag g.row.N.Denot). f.hold ≡ pin_key f.hold.buffer) c.loop-i.frags.items (x ∷ [])
          i.pinned (e.new ∙ ap pin_key (sym (ap (λ key. key.buffer) e.new)), tt));
      count = omega (arith, c.push_reserved.ensures.len, i.count);
      room = omega (arith, c.push_reserved.ensures.capacity, i.room);
      owner = ap unmarked_view e.owner ∙ unmarked-sharing b c.loop-i.owner ∙ i.owner;
      taker = e.taker ∙ ap (λ (ws : List ℕ). taking (pinned_hold b ws) c.loop-i.taker) (same_front b c.args.owner.now
          c.loop-i.owner i.owner)
          ∙ ap (taking (pinned_hold b front)) i.taker ∙ pinning_more (pin_holds hs (take k v)) (pinned_hold b front)
          c.args.taker.now
          ∙ ap (λ pins. pinning pins c.args.taker.now) (sym (pins_more hs v k (b, n) c.frag-frag.ensures.part));
    }
