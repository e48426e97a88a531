use Rattle.std.proofs.Common.{sym, ◌∙◌}
use Rattle.drive_script.proofs.Ends.{both_shown, sent_said, dropped_said, empty_said, none_completed, idle}
use Rattle.drive_script.proofs.Running.{running_told}
use Rattle.drive_script.proofs.connection.Connection.gather.Goals as goal
use Rattle.drive_script.proofs.connection.Connection.gather.Goals.{in-Sent, in-Dropped, in-Empty}

pub returns-clause-right : goal.returns-clause-right
returns-clause-right g c = λ fixed start given end events connection.
    let z = g.P.PoolName.sizes in
    let was = c.args.self.now in
    let between = c.gather-wire.new.self in
    let device = c.both_ends.new.device in
    let both = both_shown z was.session c.both_ends.new.session between.failed device.failed between.end device.end
    c.both_ends.ensures.session c.both_ends.ensures.device c.both_ends.ensures.failed c.both_ends.ensures.order.0
    c.both_ends.ensures.order.1 in
    elim c.match-gathered.branch [
      | in-Sent w ↦ sent_said _ _ z fixed start given end events was.session c.both_ends.new.session was.device.failed
          between.failed device.failed was.device.end between.end device.end c.args.wire c.gather-wire.result.0 both
          connection
          c.gather-wire.result.1 c.match-gathered.happened c.gather-wire.ensures.forwards c.gather-wire.ensures.found
          w.in-Sent.call w.in-Sent.bytes w.in-Sent.is w.happened-is
      | in-Dropped w ↦ dropped_said _ _ z fixed start given end events was.session c.both_ends.new.session
          was.device.failed between.failed device.failed was.device.end between.end device.end c.args.wire
          c.gather-wire.result.0 both connection
          c.gather-wire.result.1 c.match-gathered.happened c.gather-wire.ensures.forwards c.gather-wire.ensures.found
          w.in-Dropped.call w.in-Dropped.bytes w.in-Dropped.is w.happened-is
      | in-Empty w ↦ empty_said _ _ z fixed start given end events was.session c.both_ends.new.session was.device.failed
          between.failed device.failed was.device.end between.end device.end c.args.wire c.gather-wire.result.0 both
          connection
          c.gather-wire.result.1 c.match-gathered.happened c.gather-wire.ensures.forwards c.gather-wire.ensures.found
          c.gather-wire.ensures.flushed w.in-Empty.is w.happened-is
    ]

pub returns-clause-runs : goal.returns-clause-runs
returns-clause-runs g c = λ given end first. running_told g.P.PoolName.sizes g.N.BookName.sizes.shards first given end
    c.args.self.now.session c.both_ends.new.session _ c.both_ends.ensures.session

pub returns-clause-flushed : goal.returns-clause-flushed
returns-clause-flushed g c = λ none.
    let was = c.args.self.now in
    let between = c.gather-wire.new.self in
    let device = c.both_ends.new.device in
    elim c.match-gathered.branch [
      | in-Sent w ↦ absurd (let never = sym w.happened-is ∙ none in cc)
      | in-Dropped w ↦ absurd (let never = sym w.happened-is ∙ none in cc)
      | in-Empty w ↦ (
        none_completed was.device.end between.end device.end between.failed _ c.gather-wire.result.1
            c.gather-wire.ensures.found w.in-Empty.is c.both_ends.ensures.device,
        rw c.both_ends.ensures.failed (idle _ c.gather-wire.result.1 w.in-Empty.is c.gather-wire.ensures.flushed),
      )
    ]
