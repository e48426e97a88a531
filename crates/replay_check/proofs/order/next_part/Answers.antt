use Rattle.std.proofs.Common.{false, get_or, slice_get, arith}
use Rattle.std.proofs.lemmas.Option.{slice_get-get_or}
use Rattle.replay_check.specs.declared.place.Place.{Place}
use Rattle.replay_check.proofs.Passed.{none, found_here, refused_here, passed_here, passed_other, refused_end}
use Rattle.replay_check.proofs.Passed.{entry_test}
use Rattle.replay_check.proofs.order.next_part.Goals as goal
use Rattle.replay_check.proofs.order.next_part.Goals.{then-place-shard+else-eq+else-not-place, else-place-shard}

-- no place
nothing : Place
nothing = record { entry = record { session = 0; call = 0; part = 0 }; shard = 0; is_write = false }

pub loop-found-init : goal.loop-found-init
loop-found-init c = λ shards steps are. none _

pub returns-then-eq-clause-found : goal.returns-then-eq-clause-found
unfolding nothing
returns-then-eq-clause-found c = λ shards steps are.
    let places = c.args.places.now in
    let k = c.loop-found.found in
    found_here shards c.args.shard c.args.at k c.args.entry places steps (get_or places k nothing) are
    (slice_get-get_or places k nothing c.loop-found-test.true) c.if-place-shard.true
    (entry_test (get_or places k nothing).entry c.args.entry _ c.if-eq.ensures)
    (c.loop-found.invariant shards steps are)

pub returns-then-not-place-clause-none : goal.returns-then-not-place-clause-none
unfolding nothing
returns-then-not-place-clause-none c = λ shards steps are none next.
    let places = c.args.places.now in
    let k = c.loop-found.found in
    refused_here shards c.args.shard c.args.at k c.args.entry places steps (get_or places k nothing) are
    (slice_get-get_or places k nothing c.loop-found-test.true) c.if-place-shard.true
    (entry_test (get_or places k nothing).entry c.args.entry _ c.if-eq.ensures)
    c.if-not-place.true (c.loop-found.invariant shards steps are) next

pub loop-found-preserved : goal.loop-found-preserved
unfolding nothing
loop-found-preserved c = λ shards steps are.
    let places = c.args.places.now in
    let k = c.loop-found.found in
    elim c.if-place-shard.branch [
      | then-place-shard+else-eq+else-not-place w ↦
          passed_here shards c.args.shard c.args.at k c.args.entry places steps (get_or places k nothing) are
          (slice_get-get_or places k nothing c.loop-found-test.true) w.if-place-shard.true
          (entry_test (get_or places k nothing).entry c.args.entry _ w.if-eq.ensures)
          w.if-not-place.false (c.loop-found.invariant shards steps are)
      | else-place-shard w ↦
          passed_other shards c.args.shard c.args.at k c.args.entry places steps (get_or places k nothing) are
          (slice_get-get_or places k nothing c.loop-found-test.true) w.if-place-shard.false
          (c.loop-found.invariant shards steps are)
    ]

pub returns-clause-none : goal.returns-clause-none
returns-clause-none c = λ shards steps are none next.
    refused_end shards c.args.shard c.args.at c.loop-found.found c.args.entry c.args.places.now steps are
    (omega (arith, c.loop-found-test.false)) (c.loop-found.invariant shards steps are) next
