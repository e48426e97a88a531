use Rattle.std.proofs.Common.{◌≡◌, ◌+◌, ◌-◌, ◌≤◌, ◌++◌, [], ◌∙◌, ap, subst, length, arith}
use Rattle.flake_model.specs.Resp.{IsFaulty}
use Rattle.resp_reader.specs.Begun.{begun_front, Breaks}
use Rattle.std.proofs.lemmas.Result.{err_from_is_err_and}
use Rattle.resp_reader.proofs.Parsers.{stepped, taken_on, grown_back, back_on, fault_within, stopped, place_of}
use Rattle.resp_reader.proofs.parser.Parser.run.Goals as goal

pub returns-in-Err-Memory-clause-back : goal.returns-in-Err-Memory-clause-back
returns-in-Err-Memory-clause-back c =
    back_on c.args.self.now c.loop-rest.self c.step.new.self c.loop-rest.invariant.back
    (grown_back c.loop-rest.self c.step.new.self (ap (λ q. q.items) c.step.ensures.ready) c.step.ensures.grows)

pub overflow_add-result : goal.overflow_add-result
overflow_add-result c =
    let begun = c.loop-rest.self.begun in
    let fault : IsFaulty (begun_front begun ++ c.loop-rest.rest.now) [] c.in-Err-Fault.kind
    (length (begun_front begun) + c.in-Err-Fault.place) =
    subst (Breaks begun c.loop-rest.rest.now) c.in-Err-Fault.field-0-is c.in-Err-Fault.ensures.err in
    omega (
      arith,
      fault_within (begun_front begun) c.loop-rest.rest.now [] c.in-Err-Fault.kind c.in-Err-Fault.place
          fault,
      c.loop-rest.invariant.shorter,
      c.requires.judged,
    )

pub returns-in-Err-Fault-clause-err : goal.returns-in-Err-Fault-clause-err
returns-in-Err-Fault-clause-err c =
    let begun = c.loop-rest.self.begun in
    let fault : IsFaulty (begun_front begun ++ c.loop-rest.rest.now) [] c.in-Err-Fault.kind
    (length (begun_front begun) + c.in-Err-Fault.place) =
    subst (Breaks begun c.loop-rest.rest.now) c.in-Err-Fault.field-0-is c.in-Err-Fault.ensures.err in
    let read : length c.args.bytes.now - length c.loop-rest.rest.now + length c.loop-rest.rest.now
    ≡ length c.args.bytes.now = omega (arith, c.loop-rest.invariant.shorter) in
    stopped c.args.self.now c.loop-rest.self c.step.new.self c.args.bytes.now c.loop-rest.rest.now c.in-Err-Fault.kind
    (length c.args.bytes.now - length c.loop-rest.rest.now) c.in-Err-Fault.place
    c.loop-rest.invariant.so_far (ap (λ q. q.items) c.step.ensures.ready) read fault

pub returns-in-Err-Fault-clause-back : goal.returns-in-Err-Fault-clause-back
returns-in-Err-Fault-clause-back c =
    back_on c.args.self.now c.loop-rest.self c.step.new.self c.loop-rest.invariant.back
    (grown_back c.loop-rest.self c.step.new.self (ap (λ q. q.items) c.step.ensures.ready) c.step.ensures.grows)

pub keep-requires-clause-end : goal.keep-requires-clause-end
keep-requires-clause-end c =
    let shorter : length c.in-Ok.behind.now ≤ length c.args.bytes.now =
    omega (arith, c.in-Ok.ensures.shorter, c.loop-rest.invariant.shorter) in
    let now = stepped c.args.self.now c.loop-rest.self c.step.new.self c.args.bytes.now c.loop-rest.rest.now
    c.in-Ok.behind.now c.loop-rest.invariant.so_far c.in-Ok.ensures.ok (ap (λ q. q.items) c.step.ensures.ready)
    c.step.ensures.places.1 in
    omega (
      arith,
      place_of c.args.self.now c.step.new.self c.args.bytes.now c.in-Ok.behind.now now
          c.requires.kept.taken_is shorter,
      c.step.ensures.places.0,
      c.loop-rest.invariant.taken,
    )

pub loop-rest-preserved : goal.loop-rest-preserved
loop-rest-preserved c =
    let now = stepped c.args.self.now c.loop-rest.self c.step.new.self c.args.bytes.now c.loop-rest.rest.now
    c.in-Ok.behind.now c.loop-rest.invariant.so_far c.in-Ok.ensures.ok (ap (λ q. q.items) c.step.ensures.ready)
    c.step.ensures.places.1 in
    let grown = back_on c.args.self.now c.loop-rest.self c.step.new.self c.loop-rest.invariant.back
    (grown_back c.loop-rest.self c.step.new.self (ap (λ q. q.items) c.step.ensures.ready) c.step.ensures.grows) in
    record {
      so_far = taken_on c.args.self.now c.step.new.self c.keep.new.self c.args.bytes.now c.in-Ok.behind.now now
          c.in_ok-keep.ensures.ok;
      sound = c.in_ok-keep.ensures.sound;
      awaits = c.in_ok-keep.ensures.open;
      back = back_on c.args.self.now c.step.new.self c.keep.new.self grown c.in_ok-keep.ensures.back;
      taken = c.keep.ensures.taken ∙ c.step.ensures.places.0 ∙ c.loop-rest.invariant.taken;
      shorter = omega (arith, c.in-Ok.ensures.shorter, c.loop-rest.invariant.shorter);
    }

pub returns-in_err-keep-clause-back : goal.returns-in_err-keep-clause-back
returns-in_err-keep-clause-back c =
    let p = err_from_is_err_and c.from_residual.result c.from_residual.ensures.1 in
    let grown = back_on c.args.self.now c.loop-rest.self c.step.new.self c.loop-rest.invariant.back
    (grown_back c.loop-rest.self c.step.new.self (ap (λ q. q.items) c.step.ensures.ready) c.step.ensures.grows) in
    rw p.1 (back_on c.args.self.now c.step.new.self c.keep.new.self grown c.keep.ensures.back)
