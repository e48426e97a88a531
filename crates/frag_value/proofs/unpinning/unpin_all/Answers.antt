use Rattle.std.proofs.Common.{◌≡◌, ◌+◌, ◌++◌, [], length, ap, refl, ◌∙◌, subst, length-append, arith}
use Rattle.pinned_pool.specs.Named.{is_last}
use Rattle.frag_value.proofs.Released.{all_of}
use Rattle.frag_value.specs.Pins.{AreReturned}
use Rattle.frag_value.proofs.Returned.{one, ReturnedSoFar, returned_none, next_there, more_returned}
use Rattle.frag_value.proofs.unpinning.unpin_all.Goals as goal

pub loop-frag-init : goal.loop-frag-init
loop-frag-init g c = record { gone = []; parts = refl; returned = returned_none c.args.seat.now; few = omega arith }

pub unpin-requires : goal.unpin-requires
unpin-requires g c =
    let i = c.loop-frag.invariant in
    let told = c.in-Some.ensures.some in
    next_there c.args.value.now i.gone c.next_frag.new.self (c.in-Some.frag.hold.buffer, c.in-Some.frag.len)
    c.args.seat.now.holds c.loop-frag.seat.holds c.in-Some.frag.hold c.requires
    (i.parts ∙ ap (λ l. i.gone ++ l) told.0) i.returned.holds told.1

pub overflow_add-lasts : goal.overflow_add-lasts
overflow_add-lasts g c =
    let i = c.loop-frag.invariant in
    omega (
      arith,
      i.few,
      ap length i.parts,
      length-append i.gone c.loop-frag.value,
      ap length (c.in-Some.ensures.some).0,
      c.count.ensures,
    )

pub loop-frag-preserved : goal.loop-frag-preserved
loop-frag-preserved g c =
    let told = c.in-Some.ensures.some in
    let n = c.loop-frag.lasts in
    let none : n + one (is_last c.unpin.result) ≡ n = omega (arith, ap (λ u. one (is_last u)) c.in-NotLast.is) in
    subst (λ m. ReturnedSoFar c.args.value.now c.next_frag.new.self m c.args.seat.now c.unpin.new.seat) none
    (more_returned c.args.value.now c.loop-frag.value c.next_frag.new.self n
    (c.in-Some.frag.hold.buffer, c.in-Some.frag.len) c.in-Some.frag.hold c.args.seat.now c.loop-frag.seat
    c.unpin.new.seat c.unpin.result c.loop-frag.invariant told.0 told.1 c.unpin.ensures.seat c.unpin.ensures.last)

pub loop-frag-preserved-in-Last : goal.loop-frag-preserved-in-Last
loop-frag-preserved-in-Last g c =
    let told = c.in-Some.ensures.some in
    let n = c.loop-frag.lasts in
    let more : n + one (is_last c.unpin.result) ≡ n + 1 = ap (λ u. n + one (is_last u)) c.in-Last.is in
    subst (λ m. ReturnedSoFar c.args.value.now c.next_frag.new.self m c.args.seat.now c.unpin.new.seat) more
    (more_returned c.args.value.now c.loop-frag.value c.next_frag.new.self n
    (c.in-Some.frag.hold.buffer, c.in-Some.frag.len) c.in-Some.frag.hold c.args.seat.now c.loop-frag.seat
    c.unpin.new.seat c.unpin.result c.loop-frag.invariant told.0 told.1 c.unpin.ensures.seat c.unpin.ensures.last)

pub returns : goal.returns
returns g c =
    let i = c.loop-frag.invariant in
    let all = all_of c.args.value.now i.gone c.loop-frag.value i.parts (c.in_default.ensures.none refl) in
    subst (λ v. AreReturned v c.loop-frag.lasts c.args.seat.now c.loop-frag.seat) all i.returned
