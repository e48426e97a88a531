use Rattle.std.proofs.Common.{◌++◌, ◌∷◌, [], sym, subst}
use Rattle.transcript_model.specs.Lines.{nothing_reaped}
use Rattle.drive_script.specs.Views.{SessionShown, DeviceShown}
use Rattle.drive_script.specs.Connections.{IsDriven}
use Rattle.drive_script.specs.Shown.{session_shown, device_shown}
use Rattle.drive_script.proofs.Counted.{reap_counts}
use Rattle.drive_script.proofs.Ends.{both_shown}
use Rattle.drive_script.proofs.Connections.{connection_reaped, connection_none, told_again}
use Rattle.drive_script.proofs.Running.{running_reaped, running_none}
use Rattle.drive_script.proofs.Showing.{reap_shown, none_shown}
use Rattle.drive_script.proofs.connection.Connection.reap.Goals as goal

pub returns-in-Some-clause-right : goal.returns-in-Some-clause-right
returns-in-Some-clause-right g c = λ fixed given end whole events driven.
    let z = g.P.PoolName.sizes in
    let was = c.args.self.now in
    let between = c.reap_one-reaped.new.self in
    let session = c.both_ends.new.session in
    let device = c.both_ends.new.device in
    connection_reaped fixed given end events whole (session_shown z was.session) (session_shown z between)
    (session_shown z session) (device_shown was.device.failed was.device.end)
    (device_shown device.failed device.end) _ _ driven
    (reap_shown z was.session between _ _ c.in-Some.ensures.one)
    (both_shown z between session was.device.failed device.failed was.device.end device.end c.both_ends.ensures.session
    c.both_ends.ensures.device c.both_ends.ensures.failed c.both_ends.ensures.order.0 c.both_ends.ensures.order.1)

pub returns-in-None-clause-right : goal.returns-in-None-clause-right
returns-in-None-clause-right g c = λ fixed given end whole events driven.
    let z = g.P.PoolName.sizes in
    let was = c.args.self.now in
    let between = c.reap_one-reaped.new.self in
    let session = c.both_ends.new.session in
    let device = c.both_ends.new.device in
    let both = both_shown z between session was.device.failed device.failed was.device.end device.end
    c.both_ends.ensures.session c.both_ends.ensures.device c.both_ends.ensures.failed c.both_ends.ensures.order.0
    c.both_ends.ensures.order.1 in
    let said = connection_none fixed given end events whole (session_shown z was.session) (session_shown z between)
    (device_shown was.device.failed was.device.end) driven (none_shown z was.session between c.in-None.ensures.none)
    in
    let again = told_again fixed given end whole (events ++ nothing_reaped ∷ []) (session_shown z between)
    (session_shown z session) (device_shown was.device.failed was.device.end)
    (device_shown device.failed device.end) said both.session both.device in
    subst (λ (s : SessionShown). IsDriven fixed given end whole (events ++ nothing_reaped ∷ []) s
    (device_shown device.failed device.end)) (sym again.0)
    (subst (λ (d : DeviceShown). IsDriven fixed given end whole (events ++ nothing_reaped ∷ [])
    (session_shown z between) d) (sym again.1) said)

pub returns-in-Some-clause-runs : goal.returns-in-Some-clause-runs
returns-in-Some-clause-runs g c = λ given end first.
    running_reaped g.P.PoolName.sizes g.N.BookName.sizes.shards first given end c.args.self.now.session
    c.reap_one-reaped.new.self c.both_ends.new.session _ _ _ c.in-Some.ensures.one c.both_ends.ensures.session

pub returns-in-None-clause-runs : goal.returns-in-None-clause-runs
returns-in-None-clause-runs g c = λ given end first.
    running_none g.P.PoolName.sizes g.N.BookName.sizes.shards first given end c.args.self.now.session
    c.reap_one-reaped.new.self c.both_ends.new.session _ c.in-None.ensures.none c.both_ends.ensures.session

pub returns-in-Some-clause-recycles : goal.returns-in-Some-clause-recycles
returns-in-Some-clause-recycles g c =
    reap_counts c.args.self.now.session c.reap_one-reaped.new.self c.both_ends.new.session _ _ _ c.in-Some.ensures.one
    c.both_ends.ensures.session
