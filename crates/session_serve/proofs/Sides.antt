-- A session and its device that run beside each other.
use Rattle.std.proofs.Common.{◌≡◌, ℕ, ◌+◌, ◌≤◌, Bool, false, List, [], ◌∷◌, ◌++◌, length, refl, ap, sym, ◌∙◌}
use Rattle.std.proofs.Common.{subst, append_assoc, append-nil, arith, Option, Result}
use Rattle.std.specs.Borrow.{Bor}
use Rattle.view_sums.specs.Total.{total}
use Rattle.pin_core.specs.declared.sizes.Sizes.{Sizes}
use Rattle.pinned_pool.specs.declared.view.View.{View}
use Rattle.order_book.specs.Pages.{SessionList}
use Rattle.flake_base.specs.declared.session.End.{End}
use Rattle.flake_base.specs.declared.session.End.TheVariants.{Memory}
use Rattle.flake_base.specs.declared.session.SessionEnd.{SessionEnd}
use Rattle.flake_model.specs.Command.{Command}
use Rattle.command_pump.specs.Pump.{Origin, PumpState, IsPump, EndFaults, ended_at}
use Rattle.any_wire.specs.Sends.{Flushes}
use Rattle.tx_ring.specs.Shown.{closed_view}
use Rattle.tx_ring.specs.declared.closed.ClosedDriver.{ClosedDriver}
use Rattle.reply_planner.specs.Owned.{bare_all, fresh_all}
use Rattle.reply_planner.specs.Parcels.{Sent, texts_in}
use Rattle.device_model.specs.Devices.{ForwardsAs}
use Rattle.shard_core.specs.Outcomes.{Outcomes}
use Rattle.serve_model.specs.Going as model
use Rattle.serve_model.proofs.Going.{going_rests}
use Rattle.pin_dump.specs.Dumps.{DumpView}
use Rattle.session_pass.specs.Calls.{CallReaps}
use Rattle.session_pass.specs.Finished.{IsSessionDone}
use Rattle.session_pass.specs.Kept.{holds_paid}
use Rattle.session_pass.specs.Views.{SessionView}
use Rattle.session_serve.specs.Forms.{AreNumberedByPlace, each_as_sent}
use Rattle.session_serve.specs.Working.{IsWorking, CallsMore, HasStopped, IsLeft}
use Rattle.session_pass.specs.Fresh.{IsFresh}
use Rattle.session_serve.specs.Beside.{HasWaited, CallsAtLast, BreaksAtLast, RanToTheEnd, ForwardsOut}
use Rattle.session_serve.specs.Dumps.{IsSeeing, as_seeing, DumpCame}
use Rattle.session_serve.specs.declared.dump.DumpPlan.{DumpPlan}
use Rattle.session_serve.specs.Served.{IsServed, HasServed}
use Rattle.session_serve.proofs.Calling.{work-goes-on, work-breaks}
use Rattle.session_serve.proofs.Seeing.{work-sees, more-as_seen, stopped-as_seen}
use Rattle.session_serve.specs.Whole.{SentWhole}
use Rattle.session_serve.proofs.Serving.{forwards-as, served-so}
use Rattle.session_serve.proofs.Whole.{whole-start}

pub waits-none : (s : SessionView) → HasWaited s s
waits-none s = record {
  gone = [];
  reaped = sym (append-nil s.reaped);
  keeps = record {
    rest = record {
      number = refl;
      looks = refl;
      stage = refl;
      threshold = refl;
      opened = refl;
      ring = refl;
      told = refl;
    };
    list = refl;
    claims = refl;
    looks = refl;
    posted = refl;
    stopped = refl;
  };
}

-- one look more, which found the oldest reply not sent
pub waits-on : (old middle new : SessionView) → HasWaited old middle → CallReaps middle new → HasWaited old new
waits-on old middle new w c = record {
  gone = w.gone ++ c.gone;
  reaped = c.reaped ∙ ap (λ t. t ++ c.gone) w.reaped ∙ append_assoc old.reaped w.gone c.gone;
  keeps = record {
    rest = record {
      number = c.keeps.rest.number ∙ w.keeps.rest.number;
      looks = c.keeps.rest.looks ∙ w.keeps.rest.looks;
      stage = c.keeps.rest.stage ∙ w.keeps.rest.stage;
      threshold = c.keeps.rest.threshold ∙ w.keeps.rest.threshold;
      opened = c.keeps.rest.opened ∙ w.keeps.rest.opened;
      ring = c.keeps.rest.ring ∙ w.keeps.rest.ring;
      told = c.keeps.rest.told ∙ w.keeps.rest.told;
    };
    list = c.keeps.list ∙ w.keeps.list;
    claims = c.keeps.claims ∙ w.keeps.claims;
    looks = c.keeps.looks ∙ w.keeps.looks;
    posted = c.keeps.posted ∙ w.keeps.posted;
    stopped = c.keeps.stopped ∙ w.keeps.stopped;
  };
}

-- replies that were given back don't matter
pub work-rests : (z : Sizes) (shards : ℕ) (first : SessionView) (origin : Origin) (before : ℕ)
    (given : List Command)
    (calls : List Outcomes) (old new : SessionView) (pump : PumpState) → HasWaited old new
    → IsWorking z shards first origin before given calls old pump
    → IsWorking z shards first origin before given calls new pump
work-rests z shards first origin before given calls old new pump waited w =
    let k = waited.keeps in
    let n = first.pass.list.number in
    let t = first.pass.threshold in
    record {
      pump_is = w.pump_is;
      count = ap length k.posted ∙ w.count;
      numbered = subst AreNumberedByPlace (sym k.posted) w.numbered;
      going = subst (λ (ps : List Sent). model.IsGoing z t shards n given calls (texts_in ps)
          (holds_paid ps) new.pass.list.told first.pass.seat new.pass.seat) (sym k.posted)
          (subst (λ (l : SessionList). model.IsGoing z t shards n given calls (texts_in old.posted)
          (holds_paid old.posted) l.told first.pass.seat new.pass.seat) (sym k.list)
          (going_rests z t shards n given calls (texts_in old.posted) (holds_paid old.posted) old.pass.list.told
          first.pass.seat old.pass.seat new.pass.seat k.claims k.looks w.going));
      same = record {
        number = k.rest.number ∙ w.same.number;
        looks = k.rest.looks ∙ w.same.looks;
        stage = k.rest.stage ∙ w.same.stage;
        threshold = k.rest.threshold ∙ w.same.threshold;
        opened = k.rest.opened ∙ w.same.opened;
      };
    }

-- it has seen more, replies were given back, and then it made a call
pub calls-on : (z : Sizes) (shards : ℕ) (first : SessionView) (origin : Origin) (before : ℕ)
    (given : List Command)
    (calls : List Outcomes) (command : Command) (old seen new : SessionView) (pump after : PumpState)
    → IsSeeing old seen
    → IsWorking z shards first origin before given calls old pump → IsPump origin before (given ++ command ∷ []) after
    → CallsAtLast z shards command seen new
    → CallsMore z shards (as_seeing new.pass.list first) origin before given calls new after
calls-on z shards first origin before given calls command old seen new pump after sees w p c =
    more-as_seen z shards first origin before given calls seen.pass.list new after
    (sym (c.posts.2.rest.looks ∙ c.waited.keeps.rest.looks))
    (work-goes-on z shards (as_seeing seen.pass.list first) origin before given calls command c.rested new pump after
    c.call c.freed c.posts.0 c.posts.1
    (work-rests z shards (as_seeing seen.pass.list first) origin before given calls seen c.rested pump c.waited
    (work-sees z shards first origin before given calls old seen pump sees w)) p c.posts.2)

-- or memory was wanting in it
pub breaks-off : (z : Sizes) (shards : ℕ) (first : SessionView) (origin : Origin) (before : ℕ)
    (given : List Command)
    (calls : List Outcomes) (command : Command) (old seen new : SessionView) (pump after : PumpState)
    → IsSeeing old seen
    → IsWorking z shards first origin before given calls old pump → IsPump origin before (given ++ command ∷ []) after
    × (after.faults ≡ before)
    → BreaksAtLast z shards command seen new
    → HasStopped z shards (as_seeing new.pass.list first) origin before Memory new after
breaks-off z shards first origin before given calls command old seen new pump after sees w p b =
    stopped-as_seen z shards first origin before Memory seen.pass.list new after
    (sym (b.refused.rest.looks ∙ b.waited.keeps.rest.looks))
    (work-breaks z shards (as_seeing seen.pass.list first) origin before given calls command b.rested new pump after
    (work-rests z shards (as_seeing seen.pass.list first) origin before given calls seen b.rested pump b.waited
    (work-sees z shards first origin before given calls old seen pump sees w)) p b.refused)

-- what the session knows of its device doesn't matter
pub fresh-told : (z : Sizes) (first : SessionView) (told : ℕ) (pump : PumpState) → IsFresh z first pump
    → IsFresh z (record first { told = told }) pump
fresh-told z first told pump f = record {
  none_posted = f.none_posted;
  none_told = f.none_told;
  opened = f.opened;
  claimed = f.claimed;
  stage = f.stage;
  unstopped = f.unstopped;
  none_given = f.none_given;
  unread = f.unread;
}

-- what is left when replies were given back before is what is left
pub left-then : (old new : SessionView) (seat : View) (mine : SessionList) → HasWaited old new → IsLeft new seat mine
    → IsLeft old seat mine
left-then old new seat mine waited l =
    let k = waited.keeps in
    record {
      list = l.list ∙ k.list;
      claims = l.claims ∙ k.claims;
      looks = l.looks ∙ k.looks;
      credits = l.credits ∙ ap (λ v. v.credits) k.rest.opened;
      returns = subst (λ ps. holds_paid ps ≤ seat.returns) k.posted l.returns;
      holds = λ weight. subst (λ v. total weight (bare_all seat.holds) + total weight (fresh_all old.pass.stage)
          ≡ total weight (bare_all v.holds)) k.rest.opened
          (subst (λ st. total weight (bare_all seat.holds) + total weight (fresh_all st)
          ≡ total weight (bare_all new.opened.holds)) k.rest.stage (l.holds weight));
    }

-- and what the end gave
pub left-done : (s : SessionView) (seat : View) (mine : SessionList) (closed : ClosedDriver Sent)
    → IsSessionDone s seat mine closed → IsLeft s seat mine
left-done s seat mine closed d = record {
  list = d.list;
  claims = d.claims;
  looks = d.looks;
  credits = d.credits;
  returns = omega (arith, d.returns);
  holds = d.holds;
}

module _
    {W : Type 0}
    (mtu : Option ℕ)
    (put_may : W → Bor (List ℕ) → (W × Bool) → Type 0)
    (flush_may : W → (W × Bool) → Type 0) where
  pub told-or-not : {P : Type 0} (z : Sizes) (shards : ℕ) (first : SessionView) (told : ℕ) (pump : PumpState)
      (asked : Option (DumpPlan P)) (old : W) (end : SessionEnd) (bytes : ℕ)
      (mine : SessionList) (seat : View) (left : PumpState) (taken : Option (Result DumpView View)) (new : W)
      → HasServed mtu put_may flush_may z shards (record first { told = told }) pump asked old end bytes mine seat left
      taken new
      → HasServed mtu put_may flush_may z shards first pump asked old end bytes mine seat left taken new
  told-or-not z shards first told pump asked old end bytes mine seat left taken new h = record {
    served = record { texts = h.served.texts; ran = h.served.ran; sends = h.served.sends; whole = h.served.whole };
    origin = h.origin;
    reads = h.reads;
    to_the_end = h.to_the_end;
    credits = h.credits;
    dump = h.dump;
  }

  pub served-as : {P : Type 0} (z : Sizes) (shards : ℕ) (first then : SessionView) (pump unread : PumpState)
      (asked wanted : Option (DumpPlan P)) (old start : W)
      (end : SessionEnd) (bytes : ℕ) (mine : SessionList) (seat : View)
      (left : PumpState) (taken : Option (Result DumpView View)) (new : W) → first ≡ then → pump ≡ unread
      → asked ≡ wanted → old ≡ start
      → HasServed mtu put_may flush_may z shards first pump asked old end bytes mine seat left taken new
      → HasServed mtu put_may flush_may z shards then unread wanted start end bytes mine seat left taken new
  served-as {P} z shards first then pump unread asked wanted old start end bytes mine seat left taken new s p a o h =
      subst (λ (x : SessionView). HasServed mtu put_may flush_may z shards x unread wanted start end bytes mine seat
      left taken new) s
      (subst (λ (x : PumpState). HasServed mtu put_may flush_may z shards first x wanted start end bytes mine seat
      left taken new) p
      (subst (λ (x : Option (DumpPlan P)). HasServed mtu put_may flush_may z shards first pump x start end bytes mine
      seat left taken new) a
      (subst (λ (x : W). HasServed mtu put_may flush_may z shards first pump asked x end bytes mine seat left taken
      new) o h)))

  -- the session ended and its device found the ring closed
  pub served-beside : {P : Type 0} (z : Sizes) (shards : ℕ) (first : SessionView) (unread : PumpState)
      (asked : Option (DumpPlan P)) (how : End) (replies : ℕ)
      (over : View) (list : SessionList) (left : PumpState)
      (closed : ClosedDriver Sent) (came : Option (Result DumpView View))
      (end : SessionEnd) (bytes : ℕ) (mine : SessionList) (seat : View) (pump : PumpState)
      (taken : Option (Result DumpView View))
      (flag failed : Bool) (before after : List Sent) (none counted : ℕ) (old new last : W) → IsFresh z first unread
      → RanToTheEnd z shards first unread asked how replies over list left closed came → flag ≡ false
      → (before ≡ []) × (none ≡ 0)
      → ForwardsOut mtu put_may flush_may flag failed before after none counted old new
      → after ≡ (closed_view closed).posted
      → end ≡ ended_at how left.taken replies failed → bytes ≡ counted → seat ≡ over → mine ≡ list → pump ≡ left
      → taken ≡ came → last ≡ new
      → HasServed mtu put_may flush_may z shards first unread asked old end bytes mine seat pump taken last
  served-beside z shards first unread asked how replies over list left closed came end bytes mine seat pump taken flag
      failed before after none counted old new last fresh r unfailed idle out all end_is bytes_is seat_is mine_is
      pump_is taken_is last_is =
      let whole : after ≡ r.session.posted = all ∙ r.posted in
      let so : end ≡ ended_at how left.taken (length r.session.posted) failed = end_is
      ∙ ap (λ n. ended_at how left.taken n failed) r.replies_are in
      let forwards : ForwardsAs mtu put_may flush_may false out.between [] r.session.posted old out.middle =
      forwards-as mtu put_may flush_may flag false out.between out.between before [] after r.session.posted old
      out.middle unfailed refl idle.0 whole out.forwards in
      let failed_is : failed ≡ end.failed = ap (λ e. e.failed) (sym so) in
      let same : end ≡ ended_at how left.taken (length r.session.posted) end.failed = so
      ∙ ap (ended_at how left.taken (length r.session.posted)) failed_is in
      let start : SentWhole put_may flush_may flag (each_as_sent mtu before) (texts_in before) none old old =
      whole-start mtu put_may flush_may flag before none old unfailed idle.0 idle.1 in
      let sent_of : Bool → List Sent → ℕ → Type 0 = λ b xs n. SentWhole put_may flush_may b (each_as_sent mtu xs)
      (texts_in xs) n old new in
      let sent : sent_of end.failed r.session.posted bytes =
      subst (λ (b : Bool). sent_of b r.session.posted bytes) failed_is
      (subst (λ (xs : List Sent). sent_of failed xs bytes) whole
      (subst (λ n. sent_of failed after n) (sym bytes_is) (out.whole old start)))
      in
      let served : IsServed mtu put_may flush_may z shards first left.given left.ended end bytes list over old new =
      served-so mtu put_may flush_may z shards first r.session unread left how end bytes out.between over list
      left.given left.ended old out.middle new fresh r.stopped r.left same refl refl forwards
      (subst (λ b. Flushes flush_may out.between b out.middle new) failed_is out.flushed) sent in
      record {
        served = subst (λ p. IsServed mtu put_may flush_may z shards first p.given p.ended end bytes mine seat old last)
            (sym pump_is)
            (subst (λ m. IsServed mtu put_may flush_may z shards first left.given left.ended end bytes m seat old last)
            (sym mine_is)
            (subst (λ v. IsServed mtu put_may flush_may z shards first left.given left.ended end bytes list v old last)
            (sym seat_is)
            (subst (λ w. IsServed mtu put_may flush_may z shards first left.given left.ended end bytes list over old w)
            (sym last_is) served)));
        origin = ap (λ p. p.origin) pump_is ∙ r.stopped.origin_is;
        reads = subst (λ (e : SessionEnd). EndFaults e.end unread.faults pump.faults) (sym end_is)
            (subst (λ p. EndFaults how unread.faults p.faults) (sym pump_is) r.stopped.faults_are);
        to_the_end = λ is. r.stopped.to_the_end (ap (λ (e : SessionEnd). e.end) (sym end_is) ∙ is);
        credits = ap (λ v. v.credits) seat_is ∙ r.left.credits ∙ ap (λ v. v.credits) r.stopped.same.opened;
        dump = subst (λ t. DumpCame shards asked t first.pass.list mine) (sym taken_is)
            (subst (λ l. DumpCame shards asked came first.pass.list l) (sym mine_is) r.dump);
      }
