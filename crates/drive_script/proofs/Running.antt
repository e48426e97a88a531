-- The calls of a driven session, one by one.
use Rattle.std.proofs.Common.{◌≡◌, ℕ, ◌+◌, ◌⊎◌, inl, inr, false, List, [], ◌∷◌, ◌++◌, Option, None, Some, length, refl}
use Rattle.std.proofs.Common.{ap, sym, ◌∙◌, subst, arith, append-nil, length-append}
use Rattle.std.specs.Prelude.{is_some}
use Rattle.std.proofs.lemmas.List.{map-append}
use Rattle.view_sums.proofs.Sums.{total-append}
use Rattle.pin_core.specs.declared.sizes.Sizes.{Sizes}
use Rattle.flake_base.specs.declared.segment.Seg.{Seg}
use Rattle.flake_base.specs.declared.session.End.{End}
use Rattle.flake_model.specs.Command.{Command}
use Rattle.command_pump.specs.Pump.{Origin, PumpState}
use Rattle.order_book.specs.Pages.{SessionList}
use Rattle.reply_planner.specs.Parcels.{Sent, texts_in}
use Rattle.shard_core.specs.Calls.{IsExecuted, IsCutShort}
use Rattle.serve_model.specs.Going as model
use Rattle.serve_model.proofs.Going.{going_rests, going_on, going_breaks}
use Rattle.session_pass.specs.Calls.{KeepsRest, KeepsAll, CallPosts, CallReaps, CallRefused, ReapsOne, ReapsNone}
use Rattle.session_pass.specs.Kept.{holds_paid}
use Rattle.session_pass.specs.Refused.{WhyCallRefused}
use Rattle.session_pass.specs.Views.{SessionView}
use Rattle.session_pass.specs.declared.error.CallError.{CallError}
use Rattle.session_pass.specs.declared.error.CallError.TheVariants.{RingFull, StageFull, Memory}
use Rattle.session_serve.specs.Working.{IsSame}
use Rattle.session_pass.specs.Fresh.{IsFresh}
use Rattle.session_serve.proofs.Calling.{work-starts}
use Rattle.drive_script.specs.Asked.{AsksNext}
use Rattle.drive_script.specs.Refused.{ended_by}
use Rattle.drive_script.specs.Running.{IsBetween, IsBroken, IsRunning}

-- fronts of one list that are as long are the same
same_front : {A : Type 0} (xs ys more rest : List A) → xs ++ more ≡ ys ++ rest → length xs ≡ length ys → xs ≡ ys
same_front [] [] more rest is long = refl
same_front [] (y ∷ ys) more rest is long = absurd (omega arith)
same_front (x ∷ xs) [] more rest is long = absurd (omega arith)
same_front (x ∷ xs) (y ∷ ys) more rest is long =
    let head : x ≡ y = cc in
    let tail : xs ++ more ≡ ys ++ rest = cc in
    let same : xs ≡ ys = same_front xs ys more rest tail (omega arith) in
    λ i. head i ∷ same i

-- the commands that were called are those before the next one
called_front : (given called rest front : List Command) (command : Command) → given ≡ called ++ rest
    → (given ≡ front) ⊎ (given ≡ front ++ command ∷ []) → length called ≡ length front → called ≡ front
called_front given called rest front command is (inl same) long = same_front called front rest []
    (sym is ∙ same ∙ sym (append-nil front)) long
called_front given called rest front command is (inr same) long = same_front called front rest (command ∷ [])
    (sym is ∙ same) long

-- what neither a reap nor a look at the device changes
pub record Stays (old new : SessionView) : Type 0 where
  pub list : new.pass.list ≡ old.pass.list
  pub stage : new.pass.stage ≡ old.pass.stage
  pub threshold : new.pass.threshold ≡ old.pass.threshold
  pub opened : new.opened ≡ old.opened
  pub claims : new.pass.seat.claims ≡ old.pass.seat.claims
  pub seen : new.pass.seat.looks ≡ old.pass.seat.looks
  pub posted : new.posted ≡ old.posted

pub stays_all : (old new : SessionView) → KeepsAll old new → Stays old new
stays_all old new k = record {
  list = k.list;
  stage = k.rest.stage;
  threshold = k.rest.threshold;
  opened = k.rest.opened;
  claims = k.claims;
  seen = k.looks;
  posted = k.posted;
}

pub stays_told : (old new : SessionView) (told : ℕ) → new ≡ record old { told = told } → Stays old new
stays_told old new told is = record {
  list = ap (λ (s : SessionView). s.pass.list) is;
  stage = ap (λ (s : SessionView). s.pass.stage) is;
  threshold = ap (λ (s : SessionView). s.pass.threshold) is;
  opened = ap (λ (s : SessionView). s.opened) is;
  claims = ap (λ (s : SessionView). s.pass.seat.claims) is;
  seen = ap (λ (s : SessionView). s.pass.seat.looks) is;
  posted = ap (λ (s : SessionView). s.posted) is;
}

stays_missed : (old new : SessionView) (misses : List ℕ) → new ≡ record old { misses = misses } → Stays old new
stays_missed old new misses is = record {
  list = ap (λ (s : SessionView). s.pass.list) is;
  stage = ap (λ (s : SessionView). s.pass.stage) is;
  threshold = ap (λ (s : SessionView). s.pass.threshold) is;
  opened = ap (λ (s : SessionView). s.opened) is;
  claims = ap (λ (s : SessionView). s.pass.seat.claims) is;
  seen = ap (λ (s : SessionView). s.pass.seat.looks) is;
  posted = ap (λ (s : SessionView). s.posted) is;
}

stays_on : (old mid new : SessionView) → Stays old mid → Stays mid new → Stays old new
stays_on old mid new one more = record {
  list = more.list ∙ one.list;
  stage = more.stage ∙ one.stage;
  threshold = more.threshold ∙ one.threshold;
  opened = more.opened ∙ one.opened;
  claims = more.claims ∙ one.claims;
  seen = more.seen ∙ one.seen;
  posted = more.posted ∙ one.posted;
}

same_stays : (first old new : SessionView) → Stays old new → IsSame first old → IsSame first new
same_stays first old new s same = record {
  number = ap (λ (l : SessionList). l.number) s.list ∙ same.number;
  looks = ap (λ (l : SessionList). l.looks) s.list ∙ same.looks;
  stage = s.stage ∙ same.stage;
  threshold = s.threshold ∙ same.threshold;
  opened = s.opened ∙ same.opened;
}

same_rests : (first old new : SessionView) → KeepsRest old new → IsSame first old → IsSame first new
same_rests first old new k same = record {
  number = k.number ∙ same.number;
  looks = k.looks ∙ same.looks;
  stage = k.stage ∙ same.stage;
  threshold = k.threshold ∙ same.threshold;
  opened = k.opened ∙ same.opened;
}

module _ (z : Sizes) (shards : ℕ) (first : SessionView) where
  between_stays : (given : List Command) (old new : SessionView) → Stays old new → IsBetween z shards first given old
      → IsBetween z shards first given new
  between_stays given old new s b =
      let n = first.pass.list.number in
      let t = first.pass.threshold in
      record {
        called = b.called;
        rest = b.rest;
        given_is = b.given_is;
        calls = b.calls;
        count = ap (λ (list : List Sent). length list) s.posted ∙ b.count;
        going = subst (λ (ps : List Sent). model.IsGoing z t shards n b.called b.calls (texts_in ps)
            (holds_paid ps) new.pass.list.told first.pass.seat new.pass.seat) (sym s.posted)
            (subst (λ (l : SessionList). model.IsGoing z t shards n b.called b.calls (texts_in old.posted)
            (holds_paid old.posted) l.told first.pass.seat new.pass.seat) (sym s.list)
            (going_rests z t shards n b.called b.calls (texts_in old.posted) (holds_paid old.posted) old.pass.list.told
            first.pass.seat old.pass.seat new.pass.seat s.claims s.seen b.going));
        same = same_stays first old new s b.same;
      }

  broken_stays : (given : List Command) (old new : SessionView) → Stays old new → IsBroken z shards first given old
      → IsBroken z shards first given new
  broken_stays given old new s b =
      let n = first.pass.list.number in
      let t = first.pass.threshold in
      record {
        called = b.called;
        command = b.command;
        given_is = b.given_is;
        calls = b.calls;
        behind = b.behind;
        count = ap (λ (list : List Sent). length list) s.posted ∙ b.count;
        short = b.short;
        after = b.after;
        claims = s.claims ∙ b.claims;
        seen = s.seen ∙ b.seen;
        ended = λ more looks end replies how.
            subst (λ (ps : List Sent). model.CallsNoMore z t shards n
            (record {
              commands = b.called ++ b.command ∷ more;
              calls = b.calls;
              behind = b.behind;
              looks = looks;
              end = end;
            }) (texts_in ps) (holds_paid ps) new.pass.list.told first.pass.seat b.after) (sym s.posted)
            (subst (λ (l : SessionList). model.CallsNoMore z t shards n
            (record {
              commands = b.called ++ b.command ∷ more;
              calls = b.calls;
              behind = b.behind;
              looks = looks;
              end = end;
            }) (texts_in old.posted) (holds_paid old.posted) l.told first.pass.seat b.after) (sym s.list)
            (b.ended more looks end replies how));
        same = same_stays first old new s b.same;
      }

  running_stays : (given : List Command) (end : Option End) (old new : SessionView) → Stays old new
      → IsRunning z shards first given end old → IsRunning z shards first given end new
  running_stays given end old new s (inl b) = inl (between_stays given old new s b)
  running_stays given end old new s (inr w) = inr (w.0, broken_stays given old new s w.1)

  -- before the first call
  pub running_starts : (pump : PumpState) (end : Option End) → IsFresh z first pump
      → IsRunning z shards first [] end first
  running_starts pump end fresh =
      let w = work-starts z shards first pump fresh in
      inl (record {
        called = [];
        rest = [];
        given_is = refl;
        calls = [];
        count = w.count;
        going = w.going;
        same = w.same;
      })

  module _ (origin : Origin) (before : ℕ) (given : List Command) (old : SessionView)
      (b : IsBetween z shards first given old) (command : Command) (pump : PumpState)
      (next : AsksNext origin before given (length old.posted) command pump) where
    called_is : b.called ≡ next.front
    called_is = called_front given b.called b.rest next.front command b.given_is next.given_is
        (sym b.count ∙ sym next.count)

    -- a reply more was posted
    between_posted : (new : SessionView) (call freed : ℕ) (sent stored : List Seg)
        → CallPosts z shards command old new call freed sent stored
        → IsBetween z shards first (next.front ++ command ∷ []) new
    between_posted new call freed sent stored posts =
        let n = first.pass.list.number in
        let t = first.pass.threshold in
        let reply = posts.parcel in
        let seat = first.pass.seat in
        let all = b.called ++ command ∷ [] in
        let done = b.calls ++ posts.outcomes ∷ [] in
        let executed : IsExecuted z t shards n (length b.called) command posts.outcomes reply.text reply.paid
        old.pass.list.told new.pass.list.told old.pass.seat new.pass.seat =
        subst (λ (k : ℕ). IsExecuted z t shards k (length b.called) command posts.outcomes reply.text reply.paid
        old.pass.list.told new.pass.list.told old.pass.seat new.pass.seat) b.same.number
        (subst (λ (k : ℕ). IsExecuted z t shards old.pass.list.number k command posts.outcomes reply.text reply.paid
        old.pass.list.told new.pass.list.told old.pass.seat new.pass.seat) b.count
        (subst (λ (k : ℕ). IsExecuted z k shards old.pass.list.number (length old.posted) command posts.outcomes
        reply.text reply.paid old.pass.list.told new.pass.list.told old.pass.seat new.pass.seat) b.same.threshold
        posts.executed)) in
        let going = going_on z t shards n b.called b.calls (texts_in old.posted) reply.text
        (holds_paid old.posted) reply.paid command posts.outcomes old.pass.list.told new.pass.list.told seat
        old.pass.seat
        new.pass.seat b.going executed in
        let texts : texts_in (old.posted ++ reply ∷ []) ≡ texts_in old.posted ++ reply.text ∷ [] =
        map-append (λ (p : Sent). p.text) old.posted (reply ∷ []) in
        let paid : holds_paid (old.posted ++ reply ∷ []) ≡ holds_paid old.posted + reply.paid =
        omega (arith, total-append (λ (p : Sent). p.paid) old.posted (reply ∷ [])) in
        record {
          called = all;
          rest = [];
          given_is = ap (λ (list : List Command). list ++ command ∷ []) (sym called_is) ∙ sym (append-nil all);
          calls = done;
          count = omega (
            arith,
            ap (λ (list : List Sent). length list) posts.posted,
            b.count,
            length-append old.posted
                (reply ∷ []),
            length-append b.called (command ∷ []),
          );
          going = subst (λ (ps : List Sent). model.IsGoing z t shards n all done (texts_in ps)
              (holds_paid ps) new.pass.list.told seat new.pass.seat) (sym posts.posted)
              (subst (λ (l : List (List ℕ)). model.IsGoing z t shards n all done l
              (holds_paid (old.posted ++ reply ∷ [])) new.pass.list.told seat new.pass.seat) (sym texts)
              (subst (λ (k : ℕ). model.IsGoing z t shards n all done (texts_in old.posted ++ reply.text ∷ []) k
              new.pass.list.told seat new.pass.seat) (sym paid) going));
          same = same_rests first old new posts.rest b.same;
        }

    -- there was no room for it, and it is kept back
    between_kept : (new : SessionView) → CallReaps old new → IsBetween z shards first (next.front ++ command ∷ []) new
    between_kept new reaps = between_stays (next.front ++ command ∷ []) old new (stays_all old new reaps.keeps)
        (record {
          called = b.called;
          rest = command ∷ [];
          given_is = ap (λ (list : List Command). list ++ command ∷ []) (sym called_is);
          calls = b.calls;
          count = b.count;
          going = b.going;
          same = b.same;
        })

    -- memory was wanting in its call
    broken_short : (new : SessionView) → CallRefused z shards command old new
        → IsBroken z shards first (next.front ++ command ∷ []) new
    broken_short new r =
        let n = first.pass.list.number in
        let t = first.pass.threshold in
        let seat = first.pass.seat in
        let cut : IsCutShort z shards n (length b.called) command r.outcomes old.pass.list.told new.pass.list.told
        old.pass.seat new.pass.seat =
        subst (λ (k : ℕ). IsCutShort z shards k (length b.called) command r.outcomes old.pass.list.told
        new.pass.list.told old.pass.seat new.pass.seat) b.same.number
        (subst (λ (k : ℕ). IsCutShort z shards old.pass.list.number k command r.outcomes old.pass.list.told
        new.pass.list.told old.pass.seat new.pass.seat) b.count r.cut) in
        record {
          called = b.called;
          command = command;
          given_is = ap (λ (list : List Command). list ++ command ∷ []) (sym called_is);
          calls = b.calls;
          behind = r.outcomes;
          count = ap (λ (list : List Sent). length list) r.posted ∙ b.count;
          short = r.cut.short;
          after = new.pass.seat;
          claims = refl;
          seen = refl;
          ended = λ more looks end replies how.
              subst (λ (ps : List Sent). model.CallsNoMore z t shards n
              (record {
                commands = b.called ++ command ∷ more;
                calls = b.calls;
                behind = r.outcomes;
                looks = looks;
                end = end;
              }) (texts_in ps) (holds_paid ps) new.pass.list.told seat new.pass.seat) (sym r.posted)
              (going_breaks z t shards n b.called more b.calls (texts_in old.posted) (holds_paid old.posted) command
              r.outcomes old.pass.list.told new.pass.list.told seat old.pass.seat new.pass.seat looks end b.going
              cut replies how);
          same = same_rests first old new r.rest b.same;
        }

  -- no end was said yet
  open_yet : (given : List Command) (said : Option End) (s : SessionView) → is_some said ≡ false
      → IsRunning z shards first given said s → IsBetween z shards first given s
  open_yet given said s none (inl b) = b
  open_yet given None s none (inr w) = absurd (cc (w.0))
  open_yet given (Some end) s none (inr w) = absurd (cc none)

  -- the session says its end
  pub running_ends : (given : List Command) (said end : Option End) (s : SessionView) → is_some said ≡ false
      → IsRunning z shards first given said s → IsRunning z shards first given end s
  running_ends given said end s none r = inl (open_yet given said s none r)

  module _ (origin : Origin) (before : ℕ) (given : List Command) (old between new : SessionView) (told : ℕ)
      (told_is : new ≡ record between { told = told }) (command : Command) (pump : PumpState)
      (next : AsksNext origin before given (length old.posted) command pump) (said end : Option End)
      (none : is_some said ≡ false) where
    pub running_posted : (call freed : ℕ) (sent stored : List Seg)
        → CallPosts z shards command old between call freed sent stored → IsRunning z shards first given said old
        → IsRunning z shards first (next.front ++ command ∷ []) end new
    running_posted call freed sent stored posts r =
        let b = open_yet given said old none r in
        inl (between_stays (next.front ++ command ∷ []) between new (stays_told between new told told_is)
        (between_posted origin before given old b command pump next between call freed sent stored posts))

    pub running_refused : (error : CallError) → end ≡ ended_by error said
        → WhyCallRefused z shards command old between error → IsRunning z shards first given said old
        → IsRunning z shards first (next.front ++ command ∷ []) end new
    running_refused (RingFull need room) end_is why r =
        inl (between_stays (next.front ++ command ∷ []) between new (stays_told between new told told_is)
        (between_kept origin before given old (open_yet given said old none r) command pump next between why.reaps))
    running_refused (StageFull need free) end_is why r =
        inl (between_stays (next.front ++ command ∷ []) between new (stays_told between new told told_is)
        (between_kept origin before given old (open_yet given said old none r) command pump next between why.reaps))
    running_refused Memory end_is why r =
        inr (
          end_is,
          broken_stays (next.front ++ command ∷ []) between new (stays_told between new told told_is)
              (broken_short origin before given old (open_yet given said old none r) command pump next between why),
        )

  -- a look at the device
  pub running_told : (given : List Command) (end : Option End) (old new : SessionView) (told : ℕ)
      → new ≡ record old { told = told } → IsRunning z shards first given end old
      → IsRunning z shards first given end new
  running_told given end old new told is = running_stays given end old new (stays_told old new told is)

  -- a reap, and a look at the device
  pub running_reaped : (given : List Command) (end : Option End) (old between new : SessionView)
      (call recycled told : ℕ) → ReapsOne old between call recycled → new ≡ record between { told = told }
      → IsRunning z shards first given end old → IsRunning z shards first given end new
  running_reaped given end old between new call recycled told reaps is =
      running_stays given end old new
      (stays_on old between new (stays_all old between reaps.keeps) (stays_told between new told is))

  pub running_none : (given : List Command) (end : Option End) (old between new : SessionView) (told : ℕ)
      → ReapsNone old between → new ≡ record between { told = told } → IsRunning z shards first given end old
      → IsRunning z shards first given end new
  running_none given end old between new told reaps is =
      running_stays given end old new
      (stays_on old between new (stays_missed old between between.misses reaps.new_is)
      (stays_told between new told is))
