use Rattle.std.proofs.Common.{◌≡◌, ◌∙◌, ℕ, List, true, false, Ok, Err, None, arith, refl, ap, sym, subst}
use Rattle.mtu_frames.specs.Reading.{frame_read}
use Rattle.mtu_frames.specs.Joining.{Joining, Answers, Misses}
use Rattle.mtu_frames.specs.Held.{Entry, frames_in}
use Rattle.mtu_frames.specs.Kept.{AreKept}
use Rattle.mtu_frames.specs.declared.joiner.Taken.TheVariants.{New, Again}
use Rattle.mtu_frames.specs.declared.error.BadFrame.TheVariants.{Memory}
use Rattle.mtu_frames.proofs.Refusing.{fit, read_ok}
use Rattle.mtu_frames.proofs.Keeping.{missing_by}
use Rattle.mtu_frames.proofs.Taking.{refused_so, passed_so, known_so, taken_so, kept_so}
use Rattle.mtu_frames.proofs.Taking.{again_so, new_so, memory_so, conflict_so}
use Rattle.mtu_frames.proofs.joiner.Joiner.take.Goals as goal

pub returns-in-Err-clause-refused : goal.returns-in-Err-clause-refused
returns-in-Err-clause-refused c =
    let inside = c.self.inside in
    rw (refused_so inside.mtu inside.calls (frames_in inside.held.entries) c.args.self.now c.args.frame.now
    c.self.view_is c.in-Err.refused c.in-Err.ensures)
    (refl, refl)

pub returns-in-Err-clause-answer : goal.returns-in-Err-clause-answer
returns-in-Err-clause-answer c = λ none.
    let inside = c.self.inside in
    let some = refused_so inside.mtu inside.calls (frames_in inside.held.entries) c.args.self.now c.args.frame.now
    c.self.view_is c.in-Err.refused c.in-Err.ensures in
    absurd (cc)

pub body-bytes-requires : goal.body-bytes-requires
body-bytes-requires c =
    let inside = c.self.inside in
    let read = read_ok inside.mtu inside.calls c.args.frame.now c.in-Ok.head c.in-Ok.ensures in
    let long = (fit inside.mtu inside.calls c.args.frame.now read.0).long in omega (arith, long)

pub returns-in-Err-is_held-clause-refused : goal.returns-in-Err-is_held-clause-refused
returns-in-Err-is_held-clause-refused c =
    let inside = c.self.inside in
    rw (passed_so inside.mtu inside.calls (frames_in inside.held.entries) c.args.self.now c.args.frame.now
    c.self.view_is c.in-Ok.head c.in-Ok.ensures)
    tt

pub returns-in-Err-is_held-clause-answer : goal.returns-in-Err-is_held-clause-answer
returns-in-Err-is_held-clause-answer c = λ none.
    let inside = c.self.inside in
    let bytes = c.args.frame.now in
    let frames = frames_in inside.held.entries in
    let known = known_so inside.mtu inside.calls bytes c.body-bytes.result.now c.in-Ok.head c.in-Ok.ensures
    c.body-bytes.ensures frames c.is_held.result (Err c.in-Err-is_held.conflict) c.in-Err-is_held.is c.is_held.ensures
    in
    subst (λ (v : Joining). Answers (frame_read bytes) (Err c.in-Err-is_held.conflict) v.frames v.frames) c.self.view_is
    (conflict_so (frame_read bytes) frames c.in-Err-is_held.conflict known)

pub returns-then-again-clause-refused : goal.returns-then-again-clause-refused
returns-then-again-clause-refused c =
    let inside = c.self.inside in
    rw (passed_so inside.mtu inside.calls (frames_in inside.held.entries) c.args.self.now c.args.frame.now
    c.self.view_is c.in-Ok.head c.in-Ok.ensures)
    tt

pub returns-then-again-clause-answer : goal.returns-then-again-clause-answer
returns-then-again-clause-answer c = λ none.
    let inside = c.self.inside in
    let bytes = c.args.frame.now in
    let frames = frames_in inside.held.entries in
    let known = known_so inside.mtu inside.calls bytes c.body-bytes.result.now c.in-Ok.head c.in-Ok.ensures
    c.body-bytes.ensures frames c.is_held.result (Ok true) (c.in-Ok-is_held.is ∙ ap Ok c.if-again.true)
    c.is_held.ensures in
    subst (λ (v : Joining). Answers (frame_read bytes) (Ok Again) v.frames v.frames) c.self.view_is
    (again_so (frame_read bytes) frames known)

pub returns-in-Err-hold-clause-refused : goal.returns-in-Err-hold-clause-refused
returns-in-Err-hold-clause-refused c =
    let inside = c.self.inside in
    rw (passed_so inside.mtu inside.calls (frames_in inside.held.entries) c.args.self.now c.args.frame.now
    c.self.view_is c.in-Ok.head c.in-Ok.ensures)
    tt

pub returns-in-Err-hold-clause-answer : goal.returns-in-Err-hold-clause-answer
returns-in-Err-hold-clause-answer c = λ none.
    let inside = c.self.inside in
    let bytes = c.args.frame.now in
    let frames = frames_in inside.held.entries in
    let news = frames_in c.hold.new.held.entries in
    let known = known_so inside.mtu inside.calls bytes c.body-bytes.result.now c.in-Ok.head c.in-Ok.ensures
    c.body-bytes.ensures frames c.is_held.result (Ok false) (c.in-Ok-is_held.is ∙ ap Ok c.if-again.false)
    c.is_held.ensures in
    subst (λ (v : Joining). Answers (frame_read bytes) (Err Memory) v.frames news) c.self.view_is
    (memory_so (frame_read bytes) frames news known (ap frames_in c.in-Err-hold.ensures.err))

pub missing_now-self-inside-requires-clause-kept : goal.missing_now-self-inside-requires-clause-kept
missing_now-self-inside-requires-clause-kept c =
    let inside = c.self.inside in
    let bytes = c.args.frame.now in
    let frames = frames_in inside.held.entries in
    let news = frames_in c.hold.new.held.entries in
    let head = c.in-Ok.head in
    let is = c.in-Ok.ensures in
    let part = c.body-bytes.result.now in
    let behind = c.body-bytes.ensures in
    let known = known_so inside.mtu inside.calls bytes part head is behind frames c.is_held.result (Ok false)
    (c.in-Ok-is_held.is ∙ ap Ok c.if-again.false) c.is_held.ensures in
    let taken = taken_so inside.mtu inside.calls bytes part head is behind frames news c.in_default.ensures.ok in
    kept_so inside.mtu inside.calls bytes part head is behind frames news
    (λ i. let small = c.type_inv.frame i in omega (arith, small)) c.self.invariant.1 known taken

pub missing_now-self-inside-requires-clause-before : goal.missing_now-self-inside-requires-clause-before
missing_now-self-inside-requires-clause-before c =
    let inside = c.self.inside in
    let bytes = c.args.frame.now in
    let frames = frames_in inside.held.entries in
    let news = frames_in c.hold.new.held.entries in
    let head = c.in-Ok.head in
    let is = c.in-Ok.ensures in
    let part = c.body-bytes.result.now in
    let behind = c.body-bytes.ensures in
    let known = known_so inside.mtu inside.calls bytes part head is behind frames c.is_held.result (Ok false)
    (c.in-Ok-is_held.is ∙ ap Ok c.if-again.false) c.is_held.ensures in
    let taken = taken_so inside.mtu inside.calls bytes part head is behind frames news c.in_default.ensures.ok in
    let kept = kept_so inside.mtu inside.calls bytes part head is behind frames news
    (λ i. let small = c.type_inv.frame i in omega (arith, small)) c.self.invariant.1 known taken in
    missing_by frames news (frame_read bytes) inside.calls inside.missing taken known.0 kept c.self.invariant.2

pub invariant_of-self : goal.invariant_of-self
invariant_of-self c = (
  c.self.invariant.0,
  subst (λ (e : List Entry). AreKept (frames_in e)) (sym c.in-Err-hold.ensures.err) c.self.invariant.1,
  subst (λ (e : List Entry). Misses (frames_in e) c.self.inside.calls c.self.inside.missing)
      (sym c.in-Err-hold.ensures.err) c.self.invariant.2,
)

pub invariant_of-self-2 : goal.invariant_of-self-2
invariant_of-self-2 c =
    let inside = c.self.inside in
    let bytes = c.args.frame.now in
    let frames = frames_in inside.held.entries in
    let news = frames_in c.hold.new.held.entries in
    let head = c.in-Ok.head in
    let is = c.in-Ok.ensures in
    let part = c.body-bytes.result.now in
    let behind = c.body-bytes.ensures in
    let known = known_so inside.mtu inside.calls bytes part head is behind frames c.is_held.result (Ok false)
    (c.in-Ok-is_held.is ∙ ap Ok c.if-again.false) c.is_held.ensures in
    let taken = taken_so inside.mtu inside.calls bytes part head is behind frames news c.in_default.ensures.ok in
    let kept = kept_so inside.mtu inside.calls bytes part head is behind frames news
    (λ i. let small = c.type_inv.frame i in omega (arith, small)) c.self.invariant.1 known taken in
    (c.self.invariant.0, kept, c.missing_now-self-inside.ensures)

pub returns-clause-refused : goal.returns-clause-refused
returns-clause-refused c =
    let inside = c.self.inside in
    rw (passed_so inside.mtu inside.calls (frames_in inside.held.entries) c.args.self.now c.args.frame.now
    c.self.view_is c.in-Ok.head c.in-Ok.ensures)
    tt

pub returns-clause-answer : goal.returns-clause-answer
returns-clause-answer c = λ none.
    let inside = c.self.inside in
    let bytes = c.args.frame.now in
    let frames = frames_in inside.held.entries in
    let news = frames_in c.hold.new.held.entries in
    let head = c.in-Ok.head in
    let is = c.in-Ok.ensures in
    let part = c.body-bytes.result.now in
    let behind = c.body-bytes.ensures in
    let known = known_so inside.mtu inside.calls bytes part head is behind frames c.is_held.result (Ok false)
    (c.in-Ok-is_held.is ∙ ap Ok c.if-again.false) c.is_held.ensures in
    let taken = taken_so inside.mtu inside.calls bytes part head is behind frames news c.in_default.ensures.ok in
    subst (λ (v : Joining). Answers (frame_read bytes) (Ok New) v.frames news) c.self.view_is
    (new_so (frame_read bytes) frames news known taken)
