use Rattle.std.proofs.Common.{◌≡◌, ℕ, [], ◌∷◌, ◌++◌, length, inr, ap, refl, sym, subst, ◌<◌, ◌∙◌, arith}
use Rattle.view_sums.specs.Total.{total}
use Rattle.pin_core.specs.Holding.{at}
use Rattle.pin_core.proofs.Weights.{at-on}
use Rattle.pinned_pool.specs.Moves.{meant_count, front_of, pinned_hold}
use Rattle.pinned_pool.specs.declared.view.View.{View}
use Rattle.pinned_pool.proofs.AfterSteps.{front-on}
use Rattle.frag_value.specs.Values.{IsFilled}
use Rattle.frag_value.proofs.Lists.{each-at, one-at}
use Rattle.frag_value.proofs.Hands.{uses-at}
use Rattle.frag_value.proofs.Unmarked.{has_unmarked, unmarked-may}
use Rattle.test_pool.proofs.values.share.Goals as goal

pub pin-hold-requires : goal.pin-hold-requires
pin-hold-requires g c =
    let b = c.frag-2.result.now.hold.buffer in
    let has = c.in-Ok.ensures.written.has in (
      omega (
        arith,
        has.held b,
        uses-at c.in-Ok.value 0 (b, c.frag-2.result.now.len) c.frag-2.ensures.part,
        ap
            (λ k. meant_count k c.write.new.seat.holds) c.frag-2.ensures.hold,
      ),
      omega (arith, ap (λ (v : View). v.credits) c.split-second.ensures.new),
    )

pub append-requires : goal.append-requires
append-requires g c = has_unmarked c.in-Ok.value c.write.new.seat c.pin-hold.new.owner
    (unmarked-may c.frag-2.result.now.hold.buffer c.write.new.seat c.pin-hold.new.owner (inr c.pin-hold.ensures.owner))
    c.in-Ok.ensures.written.has

pub load_bytes-requires-clause-inside : goal.load_bytes-requires-clause-inside
load_bytes-requires-clause-inside g c =
    let b = c.frag-2.result.now.hold.buffer in
    let owner = c.write.new.seat.holds in
    let front = front_of b owner in
    let none : c.split-second.result.holds ≡ [] = ap (λ (v : View). v.holds) c.split-second.ensures.new in
    let now : c.pin-hold.new.taker.holds ≡ pinned_hold b front ∷ [] =
    ap (λ (v : View). v.holds) c.pin-hold.ensures.taker ∙ ap (λ hs. hs ++ pinned_hold b front ∷ []) none in
    let seen : front_of b c.pin-hold.new.taker.holds ≡ front = ap (front_of b) now
    ∙ front-on b (pinned_hold b front) [] refl in
    let same = one-at c.in-Ok.value 0 (c.frag.result.now.hold.buffer, c.frag.result.now.len)
    (b, c.frag-2.result.now.len) c.frag.ensures.part c.frag-2.ensures.part in
    let len : c.frag.result.now.len ≡ c.frag-2.result.now.len = ap (λ (p : ℕ × ℕ). p.1) same in
    let buffer : c.pin-hold.result.buffer ≡ b = ap (λ k. k.buffer) c.pin-hold.ensures.new in
    omega (
      arith,
      each-at (IsFilled owner) c.in-Ok.value 0 (b, c.frag-2.result.now.len) c.frag-2.ensures.part
          c.in-Ok.ensures.written.has.filled,
      ap length seen,
      len,
      ap
          (λ n. length (front_of n c.pin-hold.new.taker.holds)) buffer,
      ap
          (λ n. length (front_of n c.pin-hold.new.taker.holds)) c.buffer.ensures.buffer,
      c.deref_mut.ensures.len,
      c.in_ok-seen.ensures.len,
    )

pub load_bytes-requires-clause-held : goal.load_bytes-requires-clause-held
load_bytes-requires-clause-held g c =
    let b = c.frag-2.result.now.hold.buffer in
    let front = front_of b c.write.new.seat.holds in
    let none : c.split-second.result.holds ≡ [] = ap (λ (v : View). v.holds) c.split-second.ensures.new in
    let now : c.pin-hold.new.taker.holds ≡ pinned_hold b front ∷ [] =
    ap (λ (v : View). v.holds) c.pin-hold.ensures.taker ∙ ap (λ hs. hs ++ pinned_hold b front ∷ []) none in
    let buffer : c.pin-hold.result.buffer ≡ b = ap (λ k. k.buffer) c.pin-hold.ensures.new in
    subst (λ (n : ℕ). 0 < total (at n) c.pin-hold.new.taker.holds) (sym (c.buffer.ensures.buffer ∙ buffer))
    (omega (arith, ap (total (at b)) now, at-on b (pinned_hold b front) refl))
