use Rattle.std.proofs.Common.{◌-◌, ◌^◌, ◌<◌, [], true, length, sym, subst}
use Rattle.reply_layout.specs.Need.{need_of}
use Rattle.tx_ring.specs.Shown.{driver_ring, driver_view}
use Rattle.session_pass.specs.Views.{SessionView, whole_view}
use Rattle.session_pass.specs.Waiting.{waiting, FitsBeside}
use Rattle.session_pass.specs.Calls.{CallPosts, CallRefused}
use Rattle.session_pass.proofs.Opening.{reply_fits}
use Rattle.session_pass.proofs.Telling.{no_way}
use Rattle.session_pass.proofs.Posting.{post_keeps, call_posts, call_refused, credits_enough}
use Rattle.session_pass.proofs.session.Session.post_untold.Goals as goal

pub run_untold-requires-clause-credits : goal.run_untold-requires-clause-credits
run_untold-requires-clause-credits g c =
    credits_enough c.args.command.now
    (whole_view c.self.inside.pass c.self.inside.opened.value.seat (driver_ring c.self.inside.driver)
    (driver_view c.self.inside.driver) c.self.inside.stopped)
    c.self.invariant.is
    (subst (λ (s : SessionView). FitsBeside s.ring s.pass.stage (waiting s 0) (need_of c.args.command.now))
    (sym c.self.view_is) c.requires.fits)

pub unreachable-requires : goal.unreachable-requires
unreachable-requires g c =
    no_way (c.in-Err-post.ensures.when.1
    (reply_fits c.self.inside.pass c.self.inside.opened.value.seat (driver_ring c.self.inside.driver)
    (driver_view c.self.inside.driver)
    c.self.inside.stopped c.args.command.now c.in-Ok.parcel c.self.invariant.is
    (subst (λ (s : SessionView). FitsBeside s.ring s.pass.stage (waiting s 0) (need_of c.args.command.now))
    (sym c.self.view_is) c.requires.fits)
    c.in-Ok.ensures.reply.1.executes.in_ring))

pub invariant_of-self : goal.invariant_of-self
invariant_of-self g c =
    post_keeps g.P.PoolName.sizes g.N.BookName.sizes.shards c.self.inside.calls c.args.command.now c.self.inside.pass
    c.run_untold.new.pass
    c.self.inside.opened.value.seat (driver_ring c.self.inside.driver) (driver_ring c.post.new.self)
    (driver_view c.self.inside.driver) (driver_view c.post.new.self) c.self.inside.stopped c.in-Ok.parcel []
    c.in-Ok.ensures.reply.0
    c.self.inside.calls c.self.inside.number
    c.is_pass.ensures.pass c.is_pass.ensures.seat c.in-Ok.ensures.reply.1.executes c.post.ensures.ring
    c.in-Ok-post.ensures.ok
    (subst (λ (s : SessionView). FitsBeside s.ring s.pass.stage (waiting s 0) (need_of c.args.command.now))
    (sym c.self.view_is) c.requires.fits)
    (subst (λ (s : SessionView). length s.posted < 2 ^ 32 - 1) (sym c.self.view_is) c.requires.few)
    c.self.invariant

pub returns-in-Ok-post-clause-posted : goal.returns-in-Ok-post-clause-posted
returns-in-Ok-post-clause-posted g c =
    let s' = whole_view c.run_untold.new.pass c.self.inside.opened.value.seat (driver_ring c.post.new.self)
    (driver_view c.post.new.self) c.self.inside.stopped in (
      c.in-Ok.parcel.segments,
      c.in-Ok.ensures.reply.0,
      subst
          (λ (s : SessionView). CallPosts g.P.PoolName.sizes g.N.BookName.sizes.shards c.args.command.now s s'
          c.self.inside.calls 0 c.in-Ok.parcel.segments c.in-Ok.ensures.reply.0)
          c.self.view_is
          (call_posts g.P.PoolName.sizes g.N.BookName.sizes.shards c.self.inside.calls c.args.command.now
          c.self.inside.pass c.run_untold.new.pass
          c.self.inside.opened.value.seat (driver_ring c.self.inside.driver) (driver_ring c.post.new.self)
          (driver_view c.self.inside.driver) (driver_view c.post.new.self) c.self.inside.stopped c.in-Ok.parcel
          c.in-Ok.parcel.segments c.in-Ok.ensures.reply.0
          c.in-Ok.ensures.reply.1.executes c.in-Ok.ensures.reply.1.sent_is c.post.ensures.ring c.in-Ok-post.ensures.ok
          c.self.invariant.calls_are
          (subst (λ (s : SessionView). FitsBeside s.ring s.pass.stage (waiting s 0) (need_of c.args.command.now))
          (sym c.self.view_is) c.requires.fits)
          c.self.invariant.is),
    )

pub returns-in-Err-clause-refused : goal.returns-in-Err-clause-refused
returns-in-Err-clause-refused g c =
    let s' = whole_view c.run_untold.new.pass c.self.inside.opened.value.seat (driver_ring c.self.inside.driver)
    (driver_view c.self.inside.driver) true in
    subst
    (λ (s : SessionView). CallRefused g.P.PoolName.sizes g.N.BookName.sizes.shards c.args.command.now s s')
    c.self.view_is
    (call_refused g.P.PoolName.sizes g.N.BookName.sizes.shards c.self.inside.calls c.args.command.now c.self.inside.pass
    c.run_untold.new.pass
    c.self.inside.opened.value.seat (driver_ring c.self.inside.driver) (driver_view c.self.inside.driver)
    c.self.inside.stopped
    c.in-Err.ensures.memory c.self.invariant.calls_are)
