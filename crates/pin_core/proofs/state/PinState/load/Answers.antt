use Rattle.std.proofs.Common.{◌≡◌, ◌+◌, ◌<◌, ℕ, length, sym, ap, ◌∙◌, arith}
use Rattle.std.specs.Prelude.{Some, Option, find, slice_index}
use Rattle.std.proofs.lemmas.Bool.{lt-ltb, le-ltb}
use Rattle.pin_core.specs.Pins.{Owned}
use Rattle.std.proofs.lemmas.List.{get_or_read}
use Rattle.pin_core.specs.Answers.{is_at, word_in}
use Rattle.pin_core.specs.State.{pins_in}
use Rattle.pin_core.specs.declared.holder.Holder.{Holder}
use Rattle.pin_core.specs.declared.event.Change.TheVariants as change
use Rattle.pin_core.specs.declared.event.PinEvent.TheVariants.{Load}
use Rattle.pin_core.specs.declared.refused.Refused.TheVariants.{NotHeld, OutOfFront}
use Rattle.pin_core.proofs.Answering.{done, refuses, unless-passed, unless-failed, held_first-none, held_first-some}
use Rattle.pin_core.proofs.RawSteps.{is_held, none_found, one_found, front_length, front_word, in_words, in_room}
use Rattle.pin_core.proofs.RawSteps.{load_step}
use Rattle.pin_core.proofs.state.PinState.load.Goals as goal

pub returns-in_default : goal.returns-in_default
returns-in_default c =
    refuses c.self.view_is (Load c.args.buffer c.args.holder c.args.index) c.self.invariant.sound NotHeld
    (held_first-none _ _ (none_found c.self.invariant c.args.holder c.args.buffer c.in_default.is c.find_hold.ensures
    c.deref.ensures.value))

pub returns-then-index-length : goal.returns-then-index-length
returns-then-index-length c =
    let kept = c.self.invariant in
    let held = is_held c.self.inside c.self.view_is c.args.buffer c.requires c.args.holder c.in-Some.is
    c.find_hold.ensures c.deref.ensures.value c.index.ensures in
    let long = front_length kept held in
    refuses c.self.view_is (Load c.args.buffer c.args.holder c.args.index) kept.sound
    (OutOfFront c.index.result.now.length)
    (held_first-some _ _ _ (one_found kept held)
    ∙ unless-failed _ _ _ (le-ltb c.args.index _ (omega (arith, long, c.if-index-length.true)))
    ∙ ap (λ n. Some (OutOfFront n)) long)

pub index-requires-2 : goal.index-requires-2
index-requires-2 c =
    let i = c.self.inside in
    let kept = c.self.invariant in
    let held = is_held c.self.inside c.self.view_is c.args.buffer c.requires c.args.holder c.in-Some.is
    c.find_hold.ensures c.deref.ensures.value c.index.ensures in
    omega (
      arith,
      c.start.ensures,
      in_words kept held c.args.index
          (in_room kept held c.args.index c.if-index-length.false),
      i.words.ok,
    )

pub returns : goal.returns
returns c =
    let i = c.self.inside in
    let kept = c.self.invariant in
    let held = is_held c.self.inside c.self.view_is c.args.buffer c.requires c.args.holder c.in-Some.is
    c.find_hold.ensures c.deref.ensures.value c.index.ensures in
    let one = one_found kept held in
    let within = c.if-index-length.false in
    let inside : c.start.result + c.args.index < length i.words.items =
    omega (arith, c.start.ensures, in_words kept held c.args.index (in_room kept held c.args.index within)) in
    let word : c.index-2.result.now
    ≡ word_in (find (is_at c.args.holder c.args.buffer)
    (pins_in i.sizes i.holds.items i.words.items i.credits).holds) c.args.index =
    get_or_read i.words.items (c.start.result + c.args.index) c.index-2.result.now inside c.index-2.ensures 0
    ∙ ap (λ (n : ℕ). slice_index i.words.items (n + c.args.index)) c.start.ensures
    ∙ sym (front_word kept held c.args.index within) ∙ ap (λ (o : Option (Owned Holder)). word_in o c.args.index)
    (sym one) in
    let passes = held_first-some _ _ _ one
    ∙ unless-passed _ _ _ (lt-ltb c.args.index _ (omega (arith, front_length kept held, within))) in
    done c.self.view_is (Load c.args.buffer c.args.holder c.args.index) kept.sound (change.Loaded c.index-2.result.now)
    held.near passes (load_step kept held c.args.index within) (ap change.Loaded word) (sym c.self.view_is)
