-- A session that waits may go to another thread.
use denote.RattleType.{RattleType}
use denote.Param.Send.{IsSend, IsSync, sendable, view_send}
use denote.Param.SendFields.{declared_send, variants_send}
use Rattle.std.proofs.Crossing.{crosses}
use Rattle.std.specs.contracts.option.Option as option
use Rattle.std.specs.contracts.result.Result as result
use Rattle.flake_base.specs.declared.source.Source.{Ghosts as Source}
use Rattle.order_book.specs.declared.name.BookName.{Ghosts as Book}
use Rattle.pinned_pool.specs.declared.name.PoolName.{Ghosts as Pool}
use Rattle.reply_planner.specs.contracts.parcel.ParcelFramed.TheImpl as framed
use Rattle.command_exec.specs.contracts.pass.Pass as pass
use Rattle.command_exec.specs.contracts.pass.Pass.TheInside as pass_inside
use Rattle.session_pass.specs.contracts.session.Session as session
use Rattle.session_pass.specs.contracts.session.Session.TheInside as session_inside
use Rattle.session_pass.proofs.ready.Ready.TheSendSync as ready
use Rattle.session_serve.specs.contracts.dump.DumpPlan as plan
use Rattle.session_serve.specs.contracts.dump.DumpTurn as turn
use Rattle.session_serve.specs.contracts.link.Link as link
use Rattle.serve_inputs.specs.contracts.job.Waiting as waiting
use Rattle.order_book.proofs.seat.BookSeat.TheSendSync as mine
use Rattle.pin_dump.proofs.dump.Dump.TheSendSync as dumped
use Rattle.pinned_pool.proofs.seat.PoolSeat.TheSendSync as seat
use Rattle.pinned_pool.proofs.start.ClaimStart.TheSendSync as start
use Rattle.reply_planner.proofs.stage.Stage.TheSendSync as stage
use Rattle.tx_ring.proofs.driver.Driver.TheSendSync as driver
use Rattle.reply_planner.proofs.parcel.Parcel.TheSendSync as parcel
use Rattle.device_model.proofs.device.Device.TheSendSync as device
use Rattle.command_pump.proofs.pump.Pump.TheSendSync as pump

option-sends : (T : RattleType) → IsSend T → IsSend (option.the_row T)
option-sends T t = variants_send (option.enum T) (tt, ((search (sendable, crosses), tt), tt))

result-sends : (T E : RattleType) → IsSend T → IsSend E → IsSend (result.the_row T E)
result-sends T E t e =
    variants_send (result.enum T E) ((search (sendable, crosses), tt), ((search (sendable, crosses), tt), tt))

module _ (N P : RattleType) (book : Book N.Denot) (pool : Pool P.Denot) (n : IsSend N) (m : IsSync N) (p : IsSend P)
    (q : IsSync P) where
  pub pass-sends : IsSend (pass.the_row N P book pool)
  pass-sends =
      view_send (pass_inside.the_row N P book pool) _ _ _ _ (declared_send (pass_inside.the_type N P book pool) (
        search (sendable, crosses, seat.the_send),
        (
          search (sendable, crosses, mine.the_send),
          (
            search (sendable, crosses, stage.the_send),
            (
              search (sendable, crosses, stage.the_send),
              (search (sendable, crosses), (search (sendable, crosses, start.the_send), tt)),
            ),
          ),
        ),
      ))

  pub session-sends : IsSend (session.the_row N P (framed.ghosts P pool framed.no_dict) book pool)
  session-sends =
      view_send (session_inside.the_row N P (framed.ghosts P pool framed.no_dict) book pool) _ _ _ _
      (declared_send (session_inside.the_type N P (framed.ghosts P pool framed.no_dict) book pool) (
        search (sendable, crosses),
        (
          pass-sends,
          (
            search (sendable, crosses, pass-sends),
            (
              search (sendable, crosses, driver.the_send, parcel.the_send),
              (
                search (sendable, crosses, ready.the_send),
                (
                  search (sendable, crosses),
                  (search (sendable, crosses), tt),
                ),
              ),
            ),
          ),
        ),
      ))

  pub plan-sends : IsSend (plan.the_row P pool)
  plan-sends = declared_send (plan.the_type P pool) (
    search (sendable, crosses),
    (search (sendable, crosses, seat.the_send), tt),
  )

  pub turn-sends : IsSend (turn.the_row P pool)
  turn-sends = declared_send (turn.the_type P pool) (
    search (sendable, crosses),
    (
      search (option-sends, plan-sends),
      (search (sendable, crosses, option-sends, result-sends, dumped.the_send, seat.the_send), tt),
    ),
  )

  module _ (S : RattleType) (source : Source S.Denot) (s : IsSend S) where
    pub link-sends : IsSend (link.the_row N P S pool (framed.ghosts P pool framed.no_dict) book source)
    link-sends =
        declared_send (link.the_type N P S pool (framed.ghosts P pool framed.no_dict) book source) (
          session-sends,
          (
            search (sendable, crosses, pump.the_send),
            (
              search (sendable, crosses, device.the_send),
              (
                turn-sends,
                (search (sendable, crosses, option-sends), tt),
              ),
            ),
          ),
        )

    pub job-sends : (W : RattleType) → IsSend W
        → IsSend (waiting.the_row (link.the_row N P S pool (framed.ghosts P pool framed.no_dict) book source) W)
    job-sends W w =
        declared_send (waiting.the_type (link.the_row N P S pool (framed.ghosts P pool framed.no_dict) book source) W) (
          link-sends,
          (
            search sendable,
            (search (sendable, crosses, option-sends), tt),
          ),
        )
