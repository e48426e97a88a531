use Rattle.std.proofs.Common.{◌≡◌, ◌+◌, ◌<◌, ℕ, List, false, ◌&&◌, ltb, leb, length, set, sym, refl, ap, subst, ◌∙◌}
use Rattle.std.proofs.Common.{arith}
use Rattle.std.specs.Prelude.{Some}
use Rattle.std.proofs.lemmas.Bool.{lt-ltb, le-ltb, le-leb, lt-leb, and_from, and_left, and_right}
use Rattle.pin_core.specs.Buffers.{buffer_words}
use Rattle.pin_core.specs.PinStep.{put}
use Rattle.pin_core.specs.State.{pins_shown, IsPoolState}
use Rattle.pin_core.specs.declared.state.Hold.{Hold}
use Rattle.pin_core.specs.declared.event.Change.TheVariants as change
use Rattle.pin_core.specs.declared.event.PinEvent.TheVariants.{Put}
use Rattle.pin_core.specs.declared.refused.Refused.TheVariants.{NotHeld, NotOwned, OutOfFront}
use Rattle.pin_core.proofs.Answering.{done, refuses, unless-passed, unless-failed, held_first-none, held_first-some}
use Rattle.pin_core.proofs.RawSteps.{is_held, step_kept, none_found, one_found, front_length, put_step, put_short}
use Rattle.pin_core.proofs.state.PinState.put.Goals as goal
use Rattle.pin_core.proofs.state.PinState.put.Goals.{then-index-length-via-then-index-length}
use Rattle.pin_core.proofs.state.PinState.put.Goals.{then-index-length-via-else-index-length+then-index-room}
use Rattle.pin_core.specs.Raw.{front_in}
use Rattle.pin_core.specs.declared.sizes.Sizes.{Sizes}

abbrev view_at : Sizes → List ℕ → Hold → List ℕ
view_at z words h = front_in z words h.buffer h.length

abbrev put_into : ℕ → Hold → Hold
put_into index h = record h { length = index + 1 }

pub returns-in_default : goal.returns-in_default
returns-in_default c =
    refuses c.self.view_is (Put c.args.buffer c.args.holder c.args.index c.args.word) c.self.invariant.sound NotHeld
    (held_first-none _ _ (none_found c.self.invariant c.args.holder c.args.buffer c.in_default.is c.find_hold.ensures
    c.deref.ensures.value))

pub returns-then-not-exclusive : goal.returns-then-not-exclusive
returns-then-not-exclusive c =
    let kept = c.self.invariant in
    let held = is_held c.self.inside c.self.view_is c.args.buffer c.requires c.args.holder c.in-Some.is
    c.find_hold.ensures c.deref.ensures.value c.index.ensures in
    refuses c.self.view_is (Put c.args.buffer c.args.holder c.args.index c.args.word) kept.sound NotOwned
    (held_first-some _ _ _ (one_found kept held) ∙ unless-failed _ _ _ c.if-not-exclusive.true)

pub returns-then-index-length : goal.returns-then-index-length
returns-then-index-length c =
    let i = c.self.inside in
    let kept = c.self.invariant in
    let held = is_held c.self.inside c.self.view_is c.args.buffer c.requires c.args.holder c.in-Some.is
    c.find_hold.ensures c.deref.ensures.value c.index.ensures in
    let long = front_length kept held in
    let not_both : leb c.args.index (length (view_at i.sizes i.words.items c.index.result.now)) && ltb c.args.index
    (buffer_words i.sizes c.args.buffer) ≡ false =
    elim c.then-index-length.branch [
      | then-index-length-via-then-index-length w ↦ and_left _ _
          (lt-leb c.args.index _ (omega (arith, long, w.if-index-length.true)))
      | then-index-length-via-else-index-length+then-index-room w ↦ and_right _ _
          (le-ltb c.args.index _ (omega (arith, w.room.ensures, w.if-index-room.true)))
    ] in
    refuses c.self.view_is (Put c.args.buffer c.args.holder c.args.index c.args.word) kept.sound
    (OutOfFront c.index.result.now.length)
    (held_first-some _ _ _ (one_found kept held) ∙ unless-passed _ _ _ c.if-not-exclusive.false
    ∙ unless-failed _ _ _ not_both ∙ ap (λ n. Some (OutOfFront n)) long)

pub invariant_of-self : goal.invariant_of-self
invariant_of-self c =
    let i = c.self.inside in
    let kept = c.self.invariant in
    let held = is_held c.self.inside c.self.view_is c.args.buffer c.requires c.args.holder c.in-Some.is
    c.find_hold.ensures c.deref.ensures.value c.index.ensures in
    let in_buffer : c.args.index < buffer_words i.sizes c.args.buffer =
    omega (arith, c.room.ensures, c.if-index-room.false) in
    let step = put_step kept held c.args.index c.args.word c.if-not-exclusive.false c.if-index-length.false in_buffer in
    let same : c.index.result.now ≡ c.index_mut-2.result.now =
    sym (c.index_mut-2.ensures.value ∙ held.there.here c.index_mut-2.result.now) in
    subst (λ (s : List Hold × List ℕ). IsPoolState i.sizes s.0 s.1 i.credits)
    (λ j. (
      set i.holds.items c.in-Some.k (put_into c.args.index (same j)),
      set i.words.items
          (sym c.start.ensures j + c.args.index) c.args.word,
    ))
    (step_kept kept _ _ i.credits (put c.args.buffer c.args.holder c.args.index c.args.word) held.near step
    (put_short kept held c.args.index in_buffer))

pub returns : goal.returns
returns c =
    let i = c.self.inside in
    let kept = c.self.invariant in
    let held = is_held c.self.inside c.self.view_is c.args.buffer c.requires c.args.holder c.in-Some.is
    c.find_hold.ensures c.deref.ensures.value c.index.ensures in
    let in_buffer : c.args.index < buffer_words i.sizes c.args.buffer =
    omega (arith, c.room.ensures, c.if-index-room.false) in
    let step = put_step kept held c.args.index c.args.word c.if-not-exclusive.false c.if-index-length.false in_buffer in
    let both = and_from _ _ (le-leb c.args.index _ (omega (arith, front_length kept held, c.if-index-length.false)))
    (lt-ltb c.args.index _ in_buffer) in
    let passes = held_first-some _ _ _ (one_found kept held) ∙ unless-passed _ _ _ c.if-not-exclusive.false
    ∙ unless-passed _ _ _ both in
    let same : c.index_mut-2.result.now ≡ c.index.result.now = c.index_mut-2.ensures.value
    ∙ held.there.here c.index_mut-2.result.now in
    done c.self.view_is (Put c.args.buffer c.args.holder c.args.index c.args.word) kept.sound change.Put held.near
    passes step refl
    (λ j. pins_shown i.sizes (set i.holds.items c.in-Some.k (put_into c.args.index (same j)))
    (set i.words.items (c.start.ensures j + c.args.index) c.args.word) i.credits)
