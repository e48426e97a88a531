-- A session that is served goes on, and ends.
use Rattle.std.proofs.Common.{◌≡◌, ℕ, ◌+◌, ◌<◌, ◌≤◌, ◌⊎◌, List, [], ◌∷◌, ◌++◌, length, refl, ap, sym, ◌∙◌}
use Rattle.std.proofs.Common.{subst, append_assoc, append-nil, arith, length-append}
use Rattle.std.proofs.lemmas.List.{map-append}
use Rattle.view_sums.proofs.Sums.{total-append}
use Rattle.pin_core.specs.declared.sizes.Sizes.{Sizes}
use Rattle.flake_base.specs.declared.segment.Seg.{Seg}
use Rattle.flake_base.specs.declared.session.End.{End}
use Rattle.flake_base.specs.declared.session.End.TheVariants.{Memory}
use Rattle.flake_model.specs.Command.{Command, parts}
use Rattle.flake_model.specs.Journal.{next_parts}
use Rattle.flake_model.specs.Resp.{judged_bytes}
use Rattle.flake_model.specs.Session.{IsSession}
use Rattle.command_pump.specs.Pump.{Origin, PumpState, IsPump, HasEnded, ended_at, session_at}
use Rattle.command_pump.proofs.Meant.{meant, stopped_at, bounded}
use Rattle.reply_planner.specs.Parcels.{Sent, texts_in}
use Rattle.shard_core.specs.Outcomes.{Outcomes, SessionDeeds}
use Rattle.shard_core.specs.Calls.{IsExecuted, IsCutShort}
use Rattle.serve_model.specs.Going as model
use Rattle.serve_model.proofs.Going.{going_starts, going_on, going_ends, going_breaks}
use Rattle.session_pass.specs.Calls.{CallPosts, CallRefused}
use Rattle.session_pass.specs.Kept.{holds_paid}
use Rattle.session_pass.specs.Views.{SessionView}
use Rattle.session_serve.specs.Forms.{AreNumberedByPlace}
use Rattle.session_serve.specs.Working.{IsWorking, CallsMore, HasStopped, run_of}
use Rattle.session_pass.specs.Fresh.{IsFresh}
use Rattle.session_serve.proofs.Forms.{numbered-none, numbered-more}

-- the command behind the first ones
next_is : (given : List Command) (command : Command) (more : List Command)
    → next_parts (length given) (given ++ command ∷ more) ≡ parts command
next_is [] command more = append-nil (parts command)
next_is (first ∷ given) command more = next_is given command more

-- before the first call
pub work-starts : (z : Sizes) (shards : ℕ) (first : SessionView) (pump : PumpState) → IsFresh z first pump
    → IsWorking z shards first pump.origin pump.faults [] [] first pump
work-starts z shards first pump fresh =
    let n = first.pass.list.number in
    let t = first.pass.threshold in
    let seat = first.pass.seat in
    record {
      pump_is = fresh.unread;
      count = ap length fresh.none_posted;
      numbered = numbered-none first.posted fresh.none_posted;
      going = subst (λ (posted : List Sent). model.IsGoing z t shards n [] [] (texts_in posted)
          (holds_paid posted) first.pass.list.told seat seat)
          (sym fresh.none_posted)
          (subst (λ (told : SessionDeeds). model.IsGoing z t shards n [] [] [] 0 told seat seat) (sym fresh.none_told)
          (going_starts z t shards n seat));
      same = record { number = refl; looks = refl; stage = refl; threshold = refl; opened = refl };
    }

-- what the session knows of its device doesn't matter
pub work-told : (z : Sizes) (shards : ℕ) (first : SessionView) (origin : Origin) (before : ℕ)
    (given : List Command)
    (calls : List Outcomes) (session : SessionView) (told : ℕ) (pump : PumpState)
    → IsWorking z shards first origin before given calls session pump
    → IsWorking z shards first origin before given calls (record session { told = told }) pump
work-told z shards first origin before given calls session told pump w = record {
  pump_is = w.pump_is;
  count = w.count;
  numbered = w.numbered;
  going = w.going;
  same = record {
    number = w.same.number;
    looks = w.same.looks;
    stage = w.same.stage;
    threshold = w.same.threshold;
    opened = w.same.opened;
  };
}

-- no command more was given
pub work-ends : (z : Sizes) (shards : ℕ) (first : SessionView) (origin : Origin) (before : ℕ)
    (given : List Command)
    (calls : List Outcomes) (how : End) (session : SessionView) (old new : PumpState)
    → IsWorking z shards first origin before given calls session old → HasEnded origin before given how new
    → HasStopped z shards first origin before how session new
work-ends z shards first origin before given calls how session old new w e = record {
  origin_is = e.origin_is;
  faults_are = e.faults_are;
  to_the_end = e.to_the_end;
  commands = given ++ e.more;
  calls = calls;
  behind = [];
  ended = λ failed. going_ends z first.pass.threshold shards first.pass.list.number given e.more calls
      (texts_in session.posted) (holds_paid session.posted)
      session.pass.list.told first.pass.seat session.pass.seat session.pass.list.looks
      (ended_at how new.taken (length session.posted) failed) w.going w.count;
  is_session = λ failed. subst
      (λ (n : ℕ). IsSession (session_at new.given new.ended (given ++ e.more) (ended_at how new.taken n failed) 0))
      (sym w.count) (e.session failed);
  numbered = w.numbered;
  same = w.same;
}

-- memory was wanting in a call
pub work-breaks : (z : Sizes) (shards : ℕ) (first : SessionView) (origin : Origin) (before : ℕ)
    (given : List Command)
    (calls : List Outcomes) (command : Command) (old new : SessionView) (pump after : PumpState)
    → IsWorking z shards first origin before given calls old pump → IsPump origin before (given ++ command ∷ []) after
    × (after.faults ≡ before)
    → CallRefused z shards command old new → HasStopped z shards first origin before Memory new after
work-breaks z shards first origin before given calls command old new pump after w p r =
    let n = first.pass.list.number in
    let t = first.pass.threshold in
    let m = meant origin before (given ++ command ∷ []) after p.0 in
    let split : (given ++ command ∷ []) ++ m.more ≡ given ++ command ∷ m.more =
    append_assoc given (command ∷ []) m.more in
    let next : next_parts (length given) ((given ++ command ∷ []) ++ m.more) ≡ parts command =
    ap (next_parts (length given)) split ∙ next_is given command m.more in
    let posted : length new.posted ≡ length given = ap length r.posted ∙ w.count in
    let cut : IsCutShort z shards n (length given) command r.outcomes old.pass.list.told new.pass.list.told
    old.pass.seat new.pass.seat =
    subst (λ (k : ℕ). IsCutShort z shards k (length given) command r.outcomes old.pass.list.told new.pass.list.told
    old.pass.seat new.pass.seat) w.same.number
    (subst (λ (k : ℕ). IsCutShort z shards old.pass.list.number k command r.outcomes old.pass.list.told
    new.pass.list.told old.pass.seat new.pass.seat) w.count r.cut) in
    record {
      origin_is = p.0.origin_is;
      faults_are = p.1;
      to_the_end = λ is. cc is;
      commands = given ++ command ∷ m.more;
      calls = calls;
      behind = r.outcomes;
      ended = λ failed. subst
          (λ (ps : List Sent). model.CallsNoMore z t shards n
          (run_of (given ++ command ∷ m.more) calls r.outcomes new.pass.list.looks Memory after.taken
          (length ps) failed)
          (texts_in ps) (holds_paid ps) new.pass.list.told first.pass.seat new.pass.seat) (sym r.posted)
          (going_breaks z t shards n given m.more calls (texts_in old.posted) (holds_paid old.posted) command
          r.outcomes old.pass.list.told new.pass.list.told first.pass.seat
          old.pass.seat new.pass.seat new.pass.list.looks (ended_at Memory after.taken (length old.posted) failed)
          w.going cut w.count refl);
      is_session = λ failed. subst
          (λ (cs : List Command). IsSession
          (session_at after.given after.ended cs (ended_at Memory after.taken (length new.posted) failed)
          (length r.outcomes)))
          split
          (subst (λ (k : ℕ). IsSession
          (session_at after.given after.ended ((given ++ command ∷ []) ++ m.more) (ended_at Memory after.taken k failed)
          (length r.outcomes))) (sym posted)
          (stopped_at after.given after.ended (given ++ command ∷ []) after.taken (length given) (length r.outcomes)
          failed m (omega (arith, length-append given (command ∷ [])))
          (subst (λ ps. (length r.outcomes ≡ 0) ⊎ (length r.outcomes < length ps)) (sym next) r.cut.short)));
      numbered = subst AreNumberedByPlace (sym r.posted) w.numbered;
      same = record {
        number = r.rest.number ∙ w.same.number;
        looks = r.rest.looks ∙ w.same.looks;
        stage = r.rest.stage ∙ w.same.stage;
        threshold = r.rest.threshold ∙ w.same.threshold;
        opened = r.rest.opened ∙ w.same.opened;
      };
    }

texts-more : (posted : List Sent) (reply : Sent) → texts_in (posted ++ reply ∷ []) ≡ texts_in posted ++ reply.text ∷ []
texts-more posted reply = map-append (λ (p : Sent). p.text) posted (reply ∷ [])

paid-more : (posted : List Sent) (reply : Sent) → holds_paid (posted ++ reply ∷ []) ≡ holds_paid posted + reply.paid
paid-more posted reply = omega (arith, total-append (λ (p : Sent). p.paid) posted (reply ∷ []))

-- a call more
pub work-goes-on : (z : Sizes) (shards : ℕ) (first : SessionView) (origin : Origin) (before : ℕ)
    (given : List Command)
    (calls : List Outcomes) (command : Command) (old new : SessionView) (pump after : PumpState) (call freed : ℕ)
    (sent stored : List Seg)
    → IsWorking z shards first origin before given calls old pump → IsPump origin before (given ++ command ∷ []) after
    → CallPosts z shards command old new call freed sent stored
    → CallsMore z shards first origin before given calls new after
work-goes-on z shards first origin before given calls command old new pump after call freed sent stored w p posts =
    let n = first.pass.list.number in
    let t = first.pass.threshold in
    let reply = posts.parcel in
    let executed : IsExecuted z t shards n (length given) command posts.outcomes reply.text reply.paid
    old.pass.list.told new.pass.list.told old.pass.seat new.pass.seat =
    subst (λ (k : ℕ). IsExecuted z t shards k (length given) command posts.outcomes reply.text reply.paid
    old.pass.list.told new.pass.list.told old.pass.seat new.pass.seat) w.same.number
    (subst (λ (k : ℕ). IsExecuted z t shards old.pass.list.number k command posts.outcomes reply.text reply.paid
    old.pass.list.told new.pass.list.told old.pass.seat new.pass.seat) w.count
    (subst (λ (k : ℕ). IsExecuted z k shards old.pass.list.number (length old.posted) command posts.outcomes reply.text
    reply.paid old.pass.list.told new.pass.list.told old.pass.seat new.pass.seat) w.same.threshold posts.executed)) in
    let going = going_on z t shards n given calls (texts_in old.posted) reply.text (holds_paid old.posted) reply.paid
    command posts.outcomes old.pass.list.told new.pass.list.told
    first.pass.seat old.pass.seat new.pass.seat w.going executed in
    let more = old.posted ++ reply ∷ [] in
    record {
      command = command;
      outcomes = posts.outcomes;
      working = record {
        pump_is = p;
        count = omega (
          arith,
          ap length posts.posted,
          w.count,
          length-append old.posted (reply ∷ []),
          length-append
              given (command ∷ []),
        );
        numbered = subst AreNumberedByPlace (sym posts.posted)
            (numbered-more old.posted reply w.numbered (posts.numbered ∙ posts.call_is));
        going = subst
            (λ (ps : List Sent). model.IsGoing z t shards n (given ++ command ∷ []) (calls ++ posts.outcomes ∷ [])
            (texts_in ps) (holds_paid ps) new.pass.list.told first.pass.seat new.pass.seat)
            (sym posts.posted)
            (subst (λ (l : List (List ℕ)). model.IsGoing z t shards n (given ++ command ∷ [])
            (calls ++ posts.outcomes ∷ []) l (holds_paid more) new.pass.list.told first.pass.seat new.pass.seat)
            (sym (texts-more old.posted reply))
            (subst (λ (k : ℕ). model.IsGoing z t shards n (given ++ command ∷ []) (calls ++ posts.outcomes ∷ [])
            (texts_in old.posted ++ reply.text ∷ []) k new.pass.list.told first.pass.seat new.pass.seat)
            (sym (paid-more old.posted reply)) going));
        same = record {
          number = posts.rest.number ∙ w.same.number;
          looks = posts.rest.looks ∙ w.same.looks;
          stage = posts.rest.stage ∙ w.same.stage;
          threshold = posts.rest.threshold ∙ w.same.threshold;
          opened = posts.rest.opened ∙ w.same.opened;
        };
      };
    }

-- what the session knows of its device doesn't matter
pub more-told : (z : Sizes) (shards : ℕ) (first : SessionView) (origin : Origin) (before : ℕ)
    (given : List Command)
    (calls : List Outcomes) (old new : SessionView) (told : ℕ) (pump after : PumpState)
    → new ≡ record old { told = told } → after ≡ pump
    → CallsMore z shards first origin before given calls old pump
    → CallsMore z shards first origin before given calls new after
more-told z shards first origin before given calls old new told pump after is same c = record {
  command = c.command;
  outcomes = c.outcomes;
  working = subst (IsWorking z shards first origin before (given ++ c.command ∷ []) (calls ++ c.outcomes ∷ []) new)
      (sym same)
      (subst (λ (s : SessionView). IsWorking z shards first origin before (given ++ c.command ∷ [])
      (calls ++ c.outcomes ∷ []) s pump) (sym is)
      (work-told z shards first origin before (given ++ c.command ∷ []) (calls ++ c.outcomes ∷ []) old told pump
      c.working));
}

-- there are no more calls than bytes that are judged, and one for an error
pub work-bounded : (z : Sizes) (shards : ℕ) (first : SessionView) (origin : Origin) (before : ℕ)
    (given : List Command)
    (calls : List Outcomes) (session : SessionView) (pump : PumpState)
    → IsWorking z shards first origin before given calls session pump
    → length session.posted ≤ judged_bytes + 1
work-bounded z shards first origin before given calls session pump w =
    omega (arith, w.count, bounded origin before given pump w.pump_is)

pub work-longer : (z : Sizes) (shards : ℕ) (first later : SessionView) (origin : Origin) (before : ℕ)
    (given : List Command)
    (calls : List Outcomes) (old new : SessionView) (pump after : PumpState)
    → IsWorking z shards first origin before given calls old pump
    → CallsMore z shards later origin before given calls new after → (length new.posted ≡ length old.posted + 1)
    × (length new.posted ≤ judged_bytes + 1)
work-longer z shards first later origin before given calls old new pump after w c = (
  omega (arith, w.count, c.working.count, length-append given (c.command ∷ [])),
  work-bounded z shards later origin before (given ++ c.command ∷ []) (calls ++ c.outcomes ∷ []) new after c.working,
)
