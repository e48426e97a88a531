-- What a driven session hands up.
use Rattle.std.proofs.Common.{◌≡◌, ℕ, zero, suc, ◌+◌, ◌-◌, ◌<◌, ◌≤◌, ◌⊎◌, inl, inr, Bool, true, false, List, [], ◌∷◌}
use Rattle.std.proofs.Common.{◌++◌, Option, None, Some, length, take, slice_get, refl, ap, sym, ◌∙◌, subst, arith}
use Rattle.std.proofs.Common.{append-nil, append_assoc, length-append, unwrap_or}
use Rattle.std.specs.Borrow.{Bor}
use Rattle.std.proofs.Math.Seq.{take-length}
use Rattle.std.proofs.lemmas.List.{length-map}
use Rattle.view_sums.specs.Total.{total}
use Rattle.any_wire.specs.Sends.{Sends, Flushes}
use Rattle.any_wire.proofs.Sending.{sends-on, sends-same}
use Rattle.pin_core.specs.Holding.{Holding}
use Rattle.pin_core.specs.declared.class.Class.{Class}
use Rattle.pin_core.specs.declared.sizes.Sizes.{Sizes}
use Rattle.pinned_pool.specs.Views.{nobody}
use Rattle.pinned_pool.specs.declared.view.View.{View}
use Rattle.flake_base.specs.declared.session.End.{End}
use Rattle.flake_base.specs.declared.session.End.TheVariants.{Left}
use Rattle.flake_base.specs.declared.session.SessionEnd.{SessionEnd}
use Rattle.flake_model.specs.Command.{Command, parts}
use Rattle.flake_model.specs.Journal.{next_parts}
use Rattle.flake_model.specs.Session.{IsSession}
use Rattle.flake_model.proofs.InTurn.{more_replies}
use Rattle.command_pump.specs.Pump.{Origin, PumpState, EndFaults, ended_at, session_at}
use Rattle.command_pump.proofs.Meant.{Meant, meant, stopped_at}
use Rattle.order_book.specs.Closed.{own_deeds}
use Rattle.order_book.specs.Pages.{SessionList}
use Rattle.reply_planner.specs.Owned.{bare_all, fresh_all}
use Rattle.reply_planner.specs.Parcels.{Sent, texts_in}
use Rattle.shard_core.specs.Outcomes.{Outcomes}
use Rattle.any_wire.specs.Texts.{AreWhole, WireGrew, joined}
use Rattle.drive_script.specs.Matches.{HasMore}
use Rattle.drive_script.proofs.Lists.{get_front}
use Rattle.serve_model.specs.Demand.{stage_row, commands_row, session_row}
use Rattle.serve_model.specs.Going as model
use Rattle.serve_model.specs.Handed.{SessionHasRun}
use Rattle.serve_model.specs.Runs.{Run, session_of}
use Rattle.serve_model.proofs.Going.{going_ends, run_moved}
use Rattle.session_pass.specs.Kept.{holds_paid}
use Rattle.session_pass.specs.Views.{SessionView}
use Rattle.session_serve.specs.Wires.{SendsOut}
use Rattle.session_serve.specs.Working.{IsSame, IsLeft, run_of}
use Rattle.session_pass.specs.Fresh.{IsFresh}
use Rattle.transcript_model.specs.Lines.{LineEvent}
use Rattle.transcript_model.specs.Sessions.{texts_of}
use Rattle.drive_script.specs.Asked.{IsAsked, IsKeptBack}
use Rattle.drive_script.specs.Driving.{Driving, fixed_at, IsUnderWay}
use Rattle.drive_script.specs.Connections.{sends_by}
use Rattle.drive_script.specs.Left.{terms_at, GathersAll}
use Rattle.drive_script.specs.Ran.{FlushesOnly, GathersOut, HasDriven}
use Rattle.drive_script.specs.Running.{IsBetween, IsRunning}
use Rattle.drive_script.proofs.ByPuts.{puts_are_sending}
use Rattle.drive_script.proofs.Closing.{told_left, sent_left}
use Rattle.drive_script.proofs.OneMore.{one_wire}

-- at most one command that was given waits
one_waits : (kept : Option Command) (given : List Command) (posted : ℕ) → IsKeptBack kept given posted
    → length given ≤ posted + 1
one_waits None given posted back = omega (arith, back)
one_waits (Some command) given posted back =
    omega (
      arith,
      ap (λ (list : List Command). length list) back.1,
      length-append back.0 (command ∷ []),
      back.2,
    )

-- a session that was left behind so many replies
left_at : (bytes : List ℕ) (ended : Bool) (given : List Command) (taken replies : ℕ) (failed : Bool)
    → (m : Meant bytes given taken) → replies ≤ length given → length given ≤ replies + 1
    → IsSession (session_at bytes ended (given ++ m.more) (ended_at Left taken replies failed) 0)
left_at bytes ended given taken replies failed m few one = record {
  requests = m.requests;
  shown = m.shown;
  parsed = m.parsed;
  commands_are = sym m.commands_are;
  shown_is = tt;
  read_out = tt;
  taken_is = m.taken_is;
  replied = omega (arith, few, length-append given m.more);
  begun_is = refl;
  in_turn = more_replies bytes (length given - 1) replies (omega (arith, one)) m.in_turn;
}

-- no call changes where its commands come from
origin_stays : (origin : Origin) (before : ℕ) (given : List Command) (posted : ℕ) (kept : Option Command)
    (said : Option End) (pump : PumpState) → IsAsked origin before given posted kept said pump → pump.origin ≡ origin
origin_stays origin before given posted kept None pump asked = asked.pump_is.origin_is
origin_stays origin before given posted kept (Some end) pump (inl ended) = ended.0.origin_is
origin_stays origin before given posted kept (Some end) pump (inr stopped) = stopped.1.origin_is

-- the command behind the first ones
next_is : (given : List Command) (command : Command) (more : List Command)
    → next_parts (length given) (given ++ command ∷ more) ≡ parts command
next_is [] command more = append-nil (parts command)
next_is (first ∷ given) command more = next_is given command more

none_held : (holds : List Holding) → total (λ (h : Holding). 1) (bare_all holds) ≡ 0 → holds ≡ []
none_held [] none = refl
none_held (h ∷ holds) none = absurd (omega (arith, none))

front_more : (given rest : List Command) → HasMore given (given ++ rest)
front_more given rest place command at = get_front given rest place command at

module _ (z : Sizes) (shards : ℕ) (first session : SessionView) (unread pump : PumpState) (given : List Command)
    (end : SessionEnd) (seat : View) (mine : SessionList) where
  -- the session ran, on these commands and perhaps more
  pub record RanBy (how : End) : Type 0 where
    pub ran : SessionHasRun z first.pass.threshold shards first.pass.list.number pump.given pump.ended end mine seat
        (texts_in session.posted)
    pub more : HasMore given ran.run.commands
    pub reads : EndFaults how unread.faults pump.faults

  module _ (failed : Bool) (fresh : IsFresh z first unread) (left : IsLeft session seat mine) where
    holds_none : IsSame first session → seat.holds ≡ []
    holds_none same =
        let one : Holding → ℕ = λ h. 1 in
        none_held seat.holds (omega (
          arith,
          left.holds one,
          fresh.stage one,
          ap (λ (bs : List ℕ). total one (fresh_all bs)) same.stage,
          ap (λ (v : View). total one (bare_all v.holds)) same.opened,
        ))

    -- behind its last call it had this seat
    module _ (how : End) (after : View) (claims : session.pass.seat.claims ≡ after.claims)
        (seen : session.pass.seat.looks ≡ after.looks) (same : IsSame first session)
        (end_is : end ≡ ended_at how pump.taken (length session.posted) failed) (commands : List Command)
        (calls : List Outcomes) (behind : Outcomes) where
      abbrev the_run : Run
      the_run = run_of commands calls behind session.pass.list.looks how pump.taken (length session.posted) failed

      ran_by : model.CallsNoMore z first.pass.threshold shards first.pass.list.number the_run (texts_in session.posted)
          (holds_paid session.posted) session.pass.list.told first.pass.seat after
          → IsSession (session_of pump.given pump.ended the_run) → HasMore given commands
          → EndFaults how unread.faults pump.faults → RanBy how
      ran_by ended is_session more reads =
          let n = first.pass.list.number in
          let t = first.pass.threshold in
          let pins = holds_paid session.posted in
          let opened : model.CallsNoMore z t shards n the_run (texts_in session.posted) pins session.pass.list.told
          first.opened after =
          subst (λ (v : View). model.CallsNoMore z t shards n the_run (texts_in session.posted) pins
          session.pass.list.told v after) (sym fresh.opened) ended in
          record {
            ran = record {
              run = the_run;
              is_run = opened.is_run;
              is_session = is_session;
              end_is = end_is;
              list_is = left.list ∙ (λ i. record {
                number = same.number i;
                told = opened.told_is i;
                looks = session.pass.list.looks;
              });
              seat_is = record {
                holds = holds_none same;
                sought = run_moved z stage_row (λ (class : Class). commands_row class commands)
                    (λ (class : Class). session_row class commands) the_run nobody first.opened after seat
                    fresh.claimed opened.sought (λ class. omega arith) (left.claims ∙ claims) (left.looks ∙ seen);
                returned = omega (arith, opened.pinned, left.returns);
              };
              texts_are = opened.texts_are;
            };
            more = more;
            reads = reads;
          }

    -- what was given, and more that wasn't called
    between_ended : (b : IsBetween z shards first given session) (more : List Command) (how : End)
        → model.CallsNoMore z first.pass.threshold shards first.pass.list.number
        (run_of (given ++ more) b.calls [] session.pass.list.looks how pump.taken (length session.posted) failed)
        (texts_in session.posted) (holds_paid session.posted) session.pass.list.told first.pass.seat session.pass.seat
    between_ended b more how =
        let n = first.pass.list.number in
        let t = first.pass.threshold in
        let split : b.called ++ (b.rest ++ more) ≡ given ++ more = sym (append_assoc b.called b.rest more)
        ∙ ap (λ (list : List Command). list ++ more) (sym b.given_is) in
        subst (λ (cs : List Command). model.CallsNoMore z t shards n
        (run_of cs b.calls [] session.pass.list.looks how pump.taken (length session.posted) failed)
        (texts_in session.posted) (holds_paid session.posted) session.pass.list.told first.pass.seat
        session.pass.seat) split
        (going_ends z t shards n b.called (b.rest ++ more) b.calls (texts_in session.posted) (holds_paid session.posted)
        session.pass.list.told first.pass.seat session.pass.seat session.pass.list.looks
        (ended_at how pump.taken (length session.posted) failed) b.going b.count)

    few_called : (b : IsBetween z shards first given session) → length session.posted ≤ length given
    few_called b = omega (
      arith,
      b.count,
      ap (λ (list : List Command). length list) b.given_is,
      length-append b.called
          b.rest,
    )

    -- as it was left, or said its end
    pub ran_so : (kept : Option Command) (said : Option End) → end ≡ ended_at (unwrap_or said Left) pump.taken
        (length session.posted) failed
        → IsAsked unread.origin unread.faults given (length session.posted) kept said pump
        → IsRunning z shards first given said session → RanBy (unwrap_or said Left)
    ran_so kept None end_is asked (inl b) =
        let m = meant unread.origin unread.faults given pump asked.pump_is in
        ran_by Left session.pass.seat refl refl b.same end_is (given ++ m.more) b.calls [] (between_ended b m.more Left)
        (left_at pump.given pump.ended given pump.taken (length session.posted) failed m (few_called b)
        (one_waits kept given (length session.posted) asked.kept_back))
        (front_more given m.more) asked.unfailed
    ran_so kept None end_is asked (inr w) = absurd (cc (w.0))
    ran_so kept (Some how) end_is (inl ended) (inl b) =
        let e = ended.0 in
        ran_by how session.pass.seat refl refl b.same end_is (given ++ e.more) b.calls [] (between_ended b e.more how)
        (subst (λ (n : ℕ). IsSession
        (session_at pump.given pump.ended (given ++ e.more) (ended_at how pump.taken n failed) 0)) ended.1
        (e.session failed)) (front_more given e.more) e.faults_are
    ran_so kept (Some how) end_is (inl ended) (inr w) =
        absurd (omega (
          arith,
          ended.1,
          ap (λ (list : List Command). length list) w.1.given_is,
          length-append w.1.called
              (w.1.command ∷ []),
          w.1.count,
        ))
    ran_so kept (Some how) end_is (inr stopped) (inl b) =
        let m = meant unread.origin unread.faults given pump stopped.1 in
        ran_by how session.pass.seat refl refl b.same end_is (given ++ m.more) b.calls [] (between_ended b m.more how)
        (subst (λ (e : End). IsSession
        (session_at pump.given pump.ended (given ++ m.more) (ended_at e pump.taken (length session.posted) failed)
        0)) (sym stopped.0)
        (stopped_at pump.given pump.ended given pump.taken (length session.posted) 0 failed m (omega (arith, stopped.2))
        (inl refl)))
        (front_more given m.more)
        (subst (λ (e : End). EndFaults e unread.faults pump.faults) (sym stopped.0) stopped.3)
    ran_so kept (Some how) end_is (inr stopped) (inr w) =
        let b = w.1 in
        let n = first.pass.list.number in
        let t = first.pass.threshold in
        let looks = session.pass.list.looks in
        let posted = length session.posted in
        let m = meant unread.origin unread.faults given pump stopped.1 in
        let split : given ++ m.more ≡ b.called ++ b.command ∷ m.more =
        ap (λ (list : List Command). list ++ m.more) b.given_is ∙ append_assoc b.called (b.command ∷ []) m.more in
        let next : next_parts posted (given ++ m.more) ≡ parts b.command = (λ i. next_parts (b.count i) (split i))
        ∙ next_is b.called b.command m.more in
        ran_by how b.after b.claims b.seen b.same end_is (given ++ m.more) b.calls b.behind
        (subst (λ (cs : List Command). model.CallsNoMore z t shards n
        (run_of cs b.calls b.behind looks how pump.taken posted failed) (texts_in session.posted)
        (holds_paid session.posted) session.pass.list.told first.pass.seat b.after) (sym split)
        (b.ended m.more looks (ended_at how pump.taken posted failed) b.count stopped.0))
        (subst (λ (e : End). IsSession
        (session_at pump.given pump.ended (given ++ m.more) (ended_at e pump.taken posted failed)
        (length b.behind))) (sym stopped.0)
        (stopped_at pump.given pump.ended given pump.taken posted (length b.behind) failed m (omega (arith, stopped.2))
        (subst (λ ps. (length b.behind ≡ 0) ⊎ (length b.behind < length ps)) (sym next) b.short)))
        (front_more given m.more)
        (subst (λ (e : End). EndFaults e unread.faults pump.faults) (sym stopped.0) stopped.3)

-- what no call has changed
same_yet : (z : Sizes) (shards : ℕ) (first : SessionView) (given : List Command) (end : Option End)
    (session : SessionView) → IsRunning z shards first given end session → IsSame first session
same_yet z shards first given end session (inl b) = b.same
same_yet z shards first given end session (inr w) = w.1.same

-- the texts behind those that were sent whole, and behind the next one
texts_split : (texts : List (List ℕ)) (whole : ℕ) → (rest : List ℕ)
    × ((joined (take whole texts) ++ unwrap_or (slice_get texts whole) []) ++ rest ≡ joined texts)
texts_split [] zero = ([], refl)
texts_split [] (suc whole) = ([], refl)
texts_split (text ∷ texts) zero = (joined texts, refl)
texts_split (text ∷ texts) (suc whole) =
    let more = texts_split texts whole in
    let sent = joined (take whole texts) in
    let next = unwrap_or (slice_get texts whole) [] in (
      more.0,
      ap (λ (list : List ℕ). list ++ more.0) (append_assoc text sent next)
          ∙ append_assoc text (sent ++ next) more.0 ∙ ap (λ (list : List ℕ). text ++ list) more.1,
    )

are_whole : (failed : Bool) (whole completed posted : ℕ) → completed ≡ posted → AreWhole failed whole completed
    → AreWhole failed whole posted
are_whole false whole completed posted all so = so ∙ all
are_whole true whole completed posted all so = omega (arith, so, all)

module _ {W : Type 0} (put_may : W → Bor (List ℕ) → (W × Bool) → Type 0) (flush_may : W → (W × Bool) → Type 0) where
  -- the wire was sent all texts, until something failed
  all_sent : (failed : Bool) (whole : ℕ) (texts : List (List ℕ)) (start wire : W) → AreWhole failed whole (length texts)
      → WireGrew (sends_by put_may flush_may) failed whole texts start wire
      → Sends put_may flush_may false failed (joined texts) start wire
  all_sent false whole texts start wire all grew =
      sends-same put_may flush_may false false (joined (take whole texts) ++ []) (joined texts) start wire
      (append-nil (joined (take whole texts)) ∙ ap (λ (n : ℕ). joined (take n texts)) all
      ∙ ap joined (take-length texts))
      (sends-on put_may flush_may false false false (joined (take whole texts)) [] start grew.middle wire grew.before
      grew.behind)
  all_sent true whole texts start wire all grew =
      let next = unwrap_or (slice_get texts whole) [] in
      let split = texts_split texts whole in
      let sends = puts_are_sending put_may flush_may in
      sends-same put_may flush_may false true ((joined (take whole texts) ++ next) ++ split.0) (joined texts) start wire
      split.1
      (sends.longer (joined (take whole texts) ++ next) split.0 start wire
      (sends-on put_may flush_may false false true (joined (take whole texts)) next start grew.middle wire grew.before
      grew.behind))

  module _ (z : Sizes) (shards : ℕ) where
    -- none was there to gather, and the wire was flushed
    pub gathers_out : (first : Driving W) (events before : List LineEvent) (old new : Driving W)
        → IsUnderWay (sends_by put_may flush_may) z shards first before old
        → new.session.posted ≡ old.session.posted → FlushesOnly flush_may old new
        → GathersAll (sends_by put_may flush_may) z shards first events new
        → GathersOut put_may flush_may z shards first events new
    gathers_out first events before old new was posted f all =
        let m = was.connection.driven.kept.matches in
        let texts = texts_in old.session.posted in
        let failed = old.device.failed in
        let completed : length old.device.completed ≡ length texts =
        ap (λ (list : List Sent). length list) (sym f.completed ∙ all.all ∙ posted)
        ∙ sym (length-map old.session.posted (λ (parcel : Sent). parcel.text)) in
        let whole : AreWhole failed was.connection.whole (length texts) =
        are_whole failed was.connection.whole (length old.device.completed) (length texts) completed
        (subst (λ (n : ℕ). AreWhole failed n (length old.device.completed)) was.connection.driven.whole_is m.whole) in
        let sent : Sends put_may flush_may false failed (joined texts) was.start was.wire =
        all_sent failed was.connection.whole texts was.start was.wire whole was.connection.grew in
        record {
          gathers = all;
          out = record {
            between = failed;
            middle = f.before;
            sends = subst (λ (w : W). Sends put_may flush_may false failed (joined (texts_in new.session.posted)) w
                f.before) (one_wire first.wire was.start all.is.start was.start_is all.is.start_is)
                (subst (λ (w : W). Sends put_may flush_may false failed (joined (texts_in new.session.posted)) was.start
                w) (one_wire old.wire was.wire f.before was.wire_is f.before_is)
                (subst (λ (list : List Sent). Sends put_may flush_may false failed (joined (texts_in list)) was.start
                was.wire) (sym posted) sent));
            flushed = subst (λ (w : W). Flushes flush_may failed new.device.failed f.before w)
                (one_wire new.wire f.behind all.is.wire f.behind_is all.is.wire_is) f.flushed;
          };
        }

    -- so it was driven, and left
    pub has_driven : (first now : Driving W) (events : List LineEvent)
        → GathersOut put_may flush_may z shards first events now → (end : SessionEnd) (mine : SessionList) (seat : View)
        (wire : W)
        → mine ≡ now.session.pass.list → IsLeft now.session seat mine
        → end ≡ ended_at (unwrap_or now.end Left) now.pump.taken (length now.session.posted) now.device.failed
        → now.wire ≡ Some wire
        → HasDriven put_may flush_may z shards first events end mine seat now.pump wire
    has_driven first now events out end mine seat wire mine_is left end_is wire_is =
        let sends = sends_by put_may flush_may in
        let all = out.gathers in
        let way = all.is in
        let by = ran_so z shards first.session now.session first.pump now.pump way.given end seat mine now.device.failed
        way.fresh left now.kept now.end end_is way.asked way.running in
        let same = same_yet z shards first.session way.given now.end now.session way.running in
        let failed : now.device.failed ≡ end.failed = ap (λ (e : SessionEnd). e.failed) (sym end_is) in
        let how : unwrap_or now.end Left ≡ end.end = ap (λ (e : SessionEnd). e.end) (sym end_is) in
        let wire_same : way.wire ≡ wire = one_wire now.wire way.wire wire way.wire_is wire_is in
        record {
          texts = texts_in now.session.posted;
          ran = by.ran;
          whole = way.connection.whole;
          told = told_left sends z shards first now events all end mine mine_is end_is by.ran.run.commands by.more;
          start = way.start;
          start_is = way.start_is;
          grew = subst (λ (w : W). WireGrew sends end.failed way.connection.whole
              (texts_of (terms_at (fixed_at z first.session) by.ran.run.commands end way.connection.whole (own_deeds
              mine)))
              way.start w) wire_same
              (sent_left sends z shards first now events all end mine mine_is end_is by.ran.run.commands by.more);
          sends = subst (λ (b : Bool). SendsOut put_may flush_may false b (joined (texts_in now.session.posted))
              way.start wire) failed
              (subst (λ (w : W). SendsOut put_may flush_may false now.device.failed
              (joined (texts_in now.session.posted)) way.start w) wire_same out.out);
          origin = origin_stays first.pump.origin first.pump.faults way.given (length now.session.posted) now.kept
              now.end now.pump way.asked;
          reads = subst (λ (e : End). EndFaults e first.pump.faults now.pump.faults) how by.reads;
          credits = left.credits ∙ ap (λ (v : View). v.credits) same.opened;
          looks = ap (λ (l : SessionList). l.looks) left.list ∙ same.looks;
        }
