-- What a served session hands up.
use Rattle.std.proofs.Common.{◌≡◌, ℕ, Bool, true, false, List, [], ◌∷◌, ◌++◌, length, refl, ap, sym, ◌∙◌, subst}
use Rattle.std.proofs.Common.{Option, append-nil, arith}
use Rattle.std.specs.Borrow.{Bor}
use Rattle.view_sums.specs.Total.{total}
use Rattle.pin_core.specs.Holding.{Holding}
use Rattle.pin_core.specs.declared.sizes.Sizes.{Sizes}
use Rattle.pinned_pool.specs.declared.view.View.{View}
use Rattle.flake_base.specs.declared.session.End.{End}
use Rattle.flake_base.specs.declared.session.SessionEnd.{SessionEnd}
use Rattle.command_pump.specs.Pump.{PumpState, ended_at}
use Rattle.order_book.specs.Pages.{SessionList}
use Rattle.any_wire.specs.Sends.{Sends, Flushes}
use Rattle.any_wire.proofs.Sending.{sends-none, sends-on, sends-same, sends-flush}
use Rattle.reply_planner.specs.Owned.{bare_all, fresh_all}
use Rattle.reply_planner.specs.Parcels.{Sent, texts_in}
use Rattle.device_model.specs.Devices.{joined_as_sent, ForwardsAs}
use Rattle.device_model.proofs.Forwarding.{joined-none}
use Rattle.any_wire.specs.Texts.{joined}
use Rattle.shard_core.specs.Outcomes.{SessionDeeds}
use Rattle.serve_model.specs.Going.{CallsNoMore}
use Rattle.serve_model.specs.Handed.{SessionHasRun}
use Rattle.serve_model.proofs.Going.{session_ran}
use Rattle.session_pass.specs.Kept.{holds_paid}
use Rattle.session_pass.specs.Views.{SessionView}
use Rattle.session_serve.specs.Dumps.{as_seeing}
use Rattle.session_serve.specs.Forms.{all_as_sent, each_as_sent}
use Rattle.session_serve.specs.Served.{IsServed}
use Rattle.session_serve.specs.Whole.{SentWhole}
use Rattle.session_serve.specs.Wires.{SendsOut, WasFlushed}
use Rattle.session_serve.specs.Working.{HasStopped, IsLeft, run_of}
use Rattle.session_pass.specs.Fresh.{IsFresh}
use Rattle.session_serve.proofs.Forms.{each-all, sent-joined}
use Rattle.session_serve.proofs.Seeing.{fresh-as_seeing}

none-held : (holds : List Holding) → total (λ (h : Holding). 1) (bare_all holds) ≡ 0 → holds ≡ []
none-held [] none = refl
none-held (h ∷ holds) none = absurd (omega (arith, none))

-- its seat has no hold left
holds-none : (z : Sizes) (first session : SessionView) (pump : PumpState) (seat : View) (mine : SessionList)
    → IsFresh z first pump
    → session.pass.stage ≡ first.pass.stage → session.opened ≡ first.opened → IsLeft session seat mine → seat.holds ≡ []
holds-none z first session pump seat mine fresh stage opened left =
    let one : Holding → ℕ = λ h. 1 in
    none-held seat.holds (omega (
      arith,
      left.holds one,
      fresh.stage one,
      ap (λ (bs : List ℕ). total one (fresh_all bs)) stage,
      ap (λ (v : View). total one (bare_all v.holds)) opened,
    ))

-- so it ran
ran-so : (z : Sizes) (shards : ℕ) (first session : SessionView) (unread pump : PumpState) (how : End) (failed : Bool)
    (seat : View) (mine : SessionList) → IsFresh z first unread
    → HasStopped z shards first unread.origin unread.faults how session pump → IsLeft session seat mine
    → SessionHasRun z first.pass.threshold shards first.pass.list.number pump.given pump.ended
    (ended_at how pump.taken (length session.posted) failed) mine seat (texts_in session.posted)
ran-so z shards first session unread pump how failed seat mine fresh s left =
    let n = first.pass.list.number in
    let t = first.pass.threshold in
    let last = session.pass.seat in
    let run = run_of s.commands s.calls s.behind session.pass.list.looks how pump.taken (length session.posted) failed
    in
    let texts = texts_in session.posted in
    let pins = holds_paid session.posted in
    let number : mine.number ≡ n = ap (λ (l : SessionList). l.number) left.list ∙ s.same.number in
    let looks : mine.looks ≡ run.looks = ap (λ (l : SessionList). l.looks) left.list in
    let told : session.pass.list.told ≡ mine.told = ap (λ (l : SessionList). l.told) (sym left.list) in
    let list : record { number = n; told = mine.told; looks = run.looks } ≡ mine =
    λ i. record { number = sym number i; told = mine.told; looks = sym looks i } in
    subst (λ (l : SessionList). SessionHasRun z t shards n pump.given pump.ended run.end l seat texts) list
    (session_ran z t shards n pump.given pump.ended run texts pins mine.told first.opened last seat fresh.claimed
    (subst (λ (v : View). CallsNoMore z t shards n run texts pins mine.told v last) (sym fresh.opened)
    (subst (λ (told : SessionDeeds). CallsNoMore z t shards n run texts pins told first.pass.seat last) told
    (s.ended failed)))
    (record {
      holds = holds-none z first session unread seat mine fresh s.same.stage s.same.opened left;
      claims = left.claims;
      looks = left.looks;
      returns = left.returns;
    })
    (s.is_session failed))

module _
    {W : Type 0}
    (mtu : Option ℕ)
    (put_may : W → Bor (List ℕ) → (W × Bool) → Type 0)
    (flush_may : W → (W × Bool) → Type 0) where
  -- nothing was posted more
  pub forwards-nothing : (failed : Bool) (before after : List Sent) (wire : W) → after ≡ before
      → ForwardsAs mtu put_may flush_may failed failed before after wire wire
  forwards-nothing failed before after wire same = record {
    taken = [];
    in_order = same ∙ sym (append-nil before);
    sends = sends-same put_may flush_may failed failed [] (joined_as_sent mtu []) wire wire (sym (joined-none mtu))
        (sends-none put_may flush_may failed wire);
  }

  pub forwards-as : (failed other now then : Bool) (before front after whole : List Sent) (old new : W) → failed ≡ other
      → now ≡ then → before ≡ front → after ≡ whole
      → ForwardsAs mtu put_may flush_may failed now before after old new
      → ForwardsAs mtu put_may flush_may other then front whole old new
  forwards-as failed other now then before front after whole old new f n b a forwards =
      subst (λ (x : Bool). ForwardsAs mtu put_may flush_may x then front whole old new) f
      (subst (λ (x : Bool). ForwardsAs mtu put_may flush_may failed x front whole old new) n
      (subst (λ (xs : List Sent). ForwardsAs mtu put_may flush_may failed now xs whole old new) b
      (subst (λ (xs : List Sent). ForwardsAs mtu put_may flush_may failed now before xs old new) a forwards)))

  -- all that was forwarded is all that was posted
  pub forwards-all : (failed now : Bool) (posted : List Sent) (old new : W)
      → ForwardsAs mtu put_may flush_may failed now [] posted old new
      → Sends put_may flush_may failed now (joined_as_sent mtu posted) old new
  forwards-all failed now posted old new f = sends-same put_may flush_may failed now (joined_as_sent mtu f.taken)
      (joined_as_sent mtu posted) old new (ap (joined_as_sent mtu) (sym f.in_order)) f.sends

module _ {W : Type 0} (put_may : W → Bor (List ℕ) → (W × Bool) → Type 0) (flush_may : W → (W × Bool) → Type 0) where
  pub sends-out : (failed now : Bool) (text : List ℕ) (old new : W) → SendsOut put_may flush_may failed now text old new
      → Sends put_may flush_may failed now text old new
  sends-out failed now text old new s = sends-same put_may flush_may failed now (text ++ []) text old new
      (append-nil text)
      (sends-on put_may flush_may failed s.between now text [] old s.middle new s.sends
      (sends-flush put_may flush_may s.between now s.middle new s.flushed))

  flushed-so : (between now : Bool) (old middle new : W) → Flushes flush_may between now middle new → now ≡ false
      → WasFlushed put_may flush_may old new
  flushed-so true now old middle new flush none = cc (flush.1)
  flushed-so false now old middle new flush none =
      record { middle = middle; flushed = subst (λ (b : Bool). flush_may middle (new, b)) none flush }

  pub flushed-last : (failed now : Bool) (text : List ℕ) (old new : W)
      → SendsOut put_may flush_may failed now text old new → now ≡ false → WasFlushed put_may flush_may old new
  flushed-last failed now text old new s none = flushed-so s.between now old s.middle new s.flushed none

module _
    {W : Type 0}
    (mtu : Option ℕ)
    (put_may : W → Bor (List ℕ) → (W × Bool) → Type 0)
    (flush_may : W → (W × Bool) → Type 0) where
  pub served-so : (z : Sizes) (shards : ℕ) (first session : SessionView) (unread pump : PumpState) (how : End)
      (end : SessionEnd) (bytes : ℕ) (between : Bool)
      (seat : View) (mine : SessionList) (given : List ℕ) (ended : Bool) (old middle new : W) → IsFresh z first unread
      → HasStopped z shards (as_seeing session.pass.list first) unread.origin unread.faults how session pump
      → IsLeft session seat mine
      → end ≡ ended_at how pump.taken (length session.posted) end.failed → given ≡ pump.given → ended ≡ pump.ended
      → ForwardsAs mtu put_may flush_may false between [] session.posted old middle
      → Flushes flush_may between end.failed middle new
      → SentWhole put_may flush_may end.failed (each_as_sent mtu session.posted) (texts_in session.posted) bytes old new
      → IsServed mtu put_may flush_may z shards first given ended end bytes mine seat old new
  served-so z shards first session unread pump how end bytes between seat mine given ended old middle new fresh stopped
      is_left end_is given_is ended_is forwards flushed whole =
      let n = first.pass.list.number in
      let t = first.pass.threshold in
      let texts = texts_in session.posted in
      let sent : each_as_sent mtu session.posted ≡ all_as_sent mtu texts = each-all mtu session.posted
      stopped.numbered in
      record {
        texts = texts;
        ran = subst (λ (e : SessionEnd). SessionHasRun z t shards n given ended e mine seat texts) (sym end_is)
            (subst (λ (l : List ℕ). SessionHasRun z t shards n l ended
            (ended_at how pump.taken (length session.posted) end.failed) mine seat texts) (sym given_is)
            (subst (λ (b : Bool). SessionHasRun z t shards n pump.given b
            (ended_at how pump.taken (length session.posted) end.failed) mine seat texts) (sym ended_is)
            (ran-so z shards (as_seeing session.pass.list first) session unread pump how end.failed seat mine
            (fresh-as_seeing z session.pass.list first unread fresh) stopped is_left)));
        sends = record {
          between = between;
          middle = middle;
          sends = sends-same put_may flush_may false between (joined_as_sent mtu session.posted)
              (joined (all_as_sent mtu texts)) old middle (sent-joined mtu session.posted ∙ ap joined sent)
              (forwards-all mtu put_may flush_may false between session.posted old middle forwards);
          flushed = flushed;
        };
        whole = subst (λ (all : List (List ℕ)). SentWhole put_may flush_may end.failed all texts bytes old new) sent
            whole;
      }
