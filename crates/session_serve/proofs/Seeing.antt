-- A session that has seen more between its calls.
use Rattle.std.proofs.Common.{◌≡◌, ℕ, Bool, List, [], ◌∷◌, ◌++◌, length, refl, ap, sym, ◌∙◌, subst, append-nil}
use Rattle.pin_core.specs.declared.sizes.Sizes.{Sizes}
use Rattle.pinned_pool.specs.declared.view.View.{View}
use Rattle.flake_base.specs.declared.segment.Seg.{Seg}
use Rattle.flake_base.specs.declared.session.End.{End}
use Rattle.flake_base.specs.declared.session.End.TheVariants.{Memory}
use Rattle.flake_model.specs.Command.{Command}
use Rattle.flake_model.specs.Session.{IsSession}
use Rattle.command_pump.specs.Pump.{Origin, PumpState, IsPump, HasEnded}
use Rattle.order_book.specs.Pages.{SessionList}
use Rattle.tx_descriptor.specs.declared.framed.Framed.{Ghosts}
use Rattle.tx_ring.specs.declared.device.DeviceEnd.{DeviceEnd}
use Rattle.reply_planner.specs.Parcels.{Sent, texts_in}
use Rattle.shard_core.specs.Outcomes.{Outcomes, SessionDeeds}
use Rattle.serve_model.specs.Going as model
use Rattle.serve_model.specs.Runs.{Run, session_of}
use Rattle.dump_model.specs.Seen.{ShardSeen}
use Rattle.session_pass.specs.Calls.{CallPosts, CallRefused}
use Rattle.session_pass.specs.Kept.{holds_paid}
use Rattle.session_pass.specs.Views.{SessionView}
use Rattle.session_serve.specs.Dumps.{IsSeeing, as_seeing}
use Rattle.session_serve.specs.Forms.{AreNumberedByPlace}
use Rattle.session_serve.specs.Working.{IsGathered, HasOneMore, IsWorking, CallsMore, HasStopped, run_of}
use Rattle.session_pass.specs.Fresh.{IsFresh}
use Rattle.session_serve.proofs.Calling.{work-ends, work-breaks, work-goes-on}

-- a session that has seen more works on
pub work-sees : (z : Sizes) (shards : ℕ) (first : SessionView) (origin : Origin) (before : ℕ)
    (given : List Command) (calls : List Outcomes) (old new : SessionView) (pump : PumpState)
    → IsSeeing old new → IsWorking z shards first origin before given calls old pump
    → IsWorking z shards (as_seeing new.pass.list first) origin before given calls new pump
work-sees z shards first origin before given calls old new pump sees w =
    let n = first.pass.list.number in
    let t = first.pass.threshold in
    record {
      pump_is = w.pump_is;
      count = ap (λ (s : SessionView). length s.posted) sees.rest ∙ w.count;
      numbered = subst (λ (s : SessionView). AreNumberedByPlace s.posted) (sym sees.rest) w.numbered;
      going = subst (λ (told : SessionDeeds). model.IsGoing z t shards n given calls (texts_in new.posted)
          (holds_paid new.posted) told first.pass.seat new.pass.seat) (sym sees.deeds.told)
          (subst (λ (s : SessionView). model.IsGoing z t shards n given calls (texts_in s.posted)
          (holds_paid s.posted) old.pass.list.told first.pass.seat s.pass.seat) (sym sees.rest) w.going);
      same = record {
        number = sees.deeds.number ∙ w.same.number;
        looks = refl;
        stage = ap (λ (s : SessionView). s.pass.stage) sees.rest ∙ w.same.stage;
        threshold = ap (λ (s : SessionView). s.pass.threshold) sees.rest ∙ w.same.threshold;
        opened = ap (λ (s : SessionView). s.opened) sees.rest ∙ w.same.opened;
      };
    }

-- what it has seen doesn't matter
no_more-looks : (z : Sizes) (t shards n : ℕ) (commands : List Command) (calls : List Outcomes) (behind : Outcomes)
    (looks more : List ShardSeen) (how : End) (taken replies : ℕ) (failed : Bool) (texts : List (List ℕ)) (pins : ℕ)
    (told : SessionDeeds) (opened seat : View)
    → model.CallsNoMore z t shards n (run_of commands calls behind looks how taken replies failed) texts pins told
    opened seat
    → model.CallsNoMore z t shards n (run_of commands calls behind more how taken replies failed) texts pins told
    opened seat
no_more-looks z t shards n commands calls behind looks more how taken replies failed texts pins told opened seat c =
    record {
      is_run = record {
        replies_are = c.is_run.replies_are;
        calls_are = c.is_run.calls_are;
        behind_are = c.is_run.behind_are;
        begun_is = c.is_run.begun_is;
      };
      told_is = c.told_is;
      texts_are = c.texts_are;
      sought = record { sought = c.sought.sought; whole = c.sought.whole };
      pinned = c.pinned;
    }

-- one that has stopped may see more
pub stopped-sees : (z : Sizes) (shards : ℕ) (first : SessionView) (origin : Origin) (before : ℕ) (how : End)
    (old new : SessionView) (pump : PumpState)
    → IsSeeing old new → HasStopped z shards first origin before how old pump
    → HasStopped z shards (as_seeing new.pass.list first) origin before how new pump
stopped-sees z shards first origin before how old new pump sees s =
    let n = first.pass.list.number in
    let t = first.pass.threshold in
    let opened = first.pass.seat in
    let run : SessionView → Bool → Run = λ v failed. run_of s.commands s.calls s.behind new.pass.list.looks how
    pump.taken (length v.posted) failed in
    record {
      origin_is = s.origin_is;
      faults_are = s.faults_are;
      to_the_end = s.to_the_end;
      commands = s.commands;
      calls = s.calls;
      behind = s.behind;
      ended = λ failed. subst (λ (told : SessionDeeds). model.CallsNoMore z t shards n (run new failed)
          (texts_in new.posted) (holds_paid new.posted) told opened new.pass.seat) (sym sees.deeds.told)
          (subst (λ (v : SessionView). model.CallsNoMore z t shards n (run v failed) (texts_in v.posted)
          (holds_paid v.posted) old.pass.list.told opened v.pass.seat) (sym sees.rest)
          (no_more-looks z t shards n s.commands s.calls s.behind old.pass.list.looks new.pass.list.looks how pump.taken
          (length old.posted) failed (texts_in old.posted) (holds_paid old.posted) old.pass.list.told opened
          old.pass.seat (s.ended failed)));
      is_session = λ failed. subst (λ (v : SessionView). IsSession (session_of pump.given pump.ended (run v failed)))
          (sym sees.rest) (s.is_session failed);
      numbered = subst (λ (v : SessionView). AreNumberedByPlace v.posted) (sym sees.rest) s.numbered;
      same = record {
        number = sees.deeds.number ∙ s.same.number;
        looks = refl;
        stage = ap (λ (v : SessionView). v.pass.stage) sees.rest ∙ s.same.stage;
        threshold = ap (λ (v : SessionView). v.pass.threshold) sees.rest ∙ s.same.threshold;
        opened = ap (λ (v : SessionView). v.opened) sees.rest ∙ s.same.opened;
      };
    }

-- at its first call nothing of what it has seen matters
pub fresh-as_seeing : (z : Sizes) (list : SessionList) (first : SessionView) (pump : PumpState) → IsFresh z first pump
    → IsFresh z (as_seeing list first) pump
fresh-as_seeing z list first pump f = record {
  none_posted = f.none_posted;
  none_told = f.none_told;
  opened = f.opened;
  claimed = f.claimed;
  stage = f.stage;
  unstopped = f.unstopped;
  none_given = f.none_given;
  unread = f.unread;
}

pub sees-none : (s : SessionView) → IsSeeing s s
sees-none s = record {
  rest = refl;
  deeds = record { number = refl; told = refl; looks = ([], sym (append-nil s.pass.list.looks)) };
}

module _ {g : Ghosts Sent} where
  pub gathered-sees : (old new : SessionView) (device : DeviceEnd Sent g) → IsSeeing old new → IsGathered old device
      → IsGathered new device
  gathered-sees old new device sees gathered = record {
    ring = gathered.ring ∙ ap (λ (s : SessionView). s.ring) (sym sees.rest);
    all = gathered.all ∙ ap (λ (s : SessionView). s.posted) (sym sees.rest);
    told = ap (λ (s : SessionView). s.told) sees.rest ∙ gathered.told
        ∙ ap (λ (s : SessionView). length s.posted) (sym sees.rest);
  }

  -- a call posts one reply more
  pub one-more-seen : (z : Sizes) (shards : ℕ) (command : Command) (old seen new : SessionView)
      (device : DeviceEnd Sent g) (call freed : ℕ) (sent stored : List Seg) → IsSeeing old seen → IsGathered old device
      → CallPosts z shards command seen new call freed sent stored → HasOneMore new device
  one-more-seen z shards command old seen new device call freed sent stored sees gathered posts =
      let same = gathered-sees old seen device sees gathered in
      record {
        ring = same.ring ∙ sym posts.rest.ring;
        reply = posts.parcel;
        posted = posts.posted ∙ ap (λ (replies : List Sent). replies ++ posts.parcel ∷ []) (sym same.all);
      }

  -- one that is refused posts none
  pub none-more-seen : (z : Sizes) (shards : ℕ) (command : Command) (old seen new : SessionView)
      (device : DeviceEnd Sent g) → IsSeeing old seen → IsGathered old device
      → CallRefused z shards command seen new → IsGathered new device
  none-more-seen z shards command old seen new device sees gathered r =
      let same = gathered-sees old seen device sees gathered in
      record {
        ring = same.ring ∙ sym r.rest.ring;
        all = same.all ∙ sym r.posted;
        told = r.rest.told ∙ same.told ∙ ap length (sym r.posted);
      }

-- what a session has seen is all that matters
pub as_seeing-as : (first : SessionView) (list other : SessionList) → list.looks ≡ other.looks
    → as_seeing list first ≡ as_seeing other first
as_seeing-as first list other looks =
    ap (λ (l : List ShardSeen). as_seeing (record list { looks = l }) first) looks

pub more-as_seen : (z : Sizes) (shards : ℕ) (first : SessionView) (origin : Origin) (before : ℕ)
    (given : List Command) (calls : List Outcomes) (list : SessionList) (new : SessionView) (pump : PumpState)
    → list.looks ≡ new.pass.list.looks
    → CallsMore z shards (as_seeing list first) origin before given calls new pump
    → CallsMore z shards (as_seeing new.pass.list first) origin before given calls new pump
more-as_seen z shards first origin before given calls list new pump looks c =
    subst (λ (v : SessionView). CallsMore z shards v origin before given calls new pump)
    (as_seeing-as first list new.pass.list looks) c

pub stopped-as_seen : (z : Sizes) (shards : ℕ) (first : SessionView) (origin : Origin) (before : ℕ) (how : End)
    (list : SessionList) (new : SessionView) (pump : PumpState) → list.looks ≡ new.pass.list.looks
    → HasStopped z shards (as_seeing list first) origin before how new pump
    → HasStopped z shards (as_seeing new.pass.list first) origin before how new pump
stopped-as_seen z shards first origin before how list new pump looks s =
    subst (λ (v : SessionView). HasStopped z shards v origin before how new pump)
    (as_seeing-as first list new.pass.list looks) s

-- no command more was given
pub ends-seen : (z : Sizes) (shards : ℕ) (first : SessionView) (origin : Origin) (before : ℕ)
    (given : List Command) (calls : List Outcomes) (how : End) (session : SessionView) (old new : PumpState)
    → IsWorking z shards first origin before given calls session old → HasEnded origin before given how new
    → HasStopped z shards (as_seeing session.pass.list first) origin before how session new
ends-seen z shards first origin before given calls how session old new w e =
    stopped-sees z shards first origin before how session session new (sees-none session)
    (work-ends z shards first origin before given calls how session old new w e)

-- it has seen more, and then memory was wanting in a call
pub breaks-seen : (z : Sizes) (shards : ℕ) (first : SessionView) (origin : Origin) (before : ℕ)
    (given : List Command) (calls : List Outcomes) (command : Command) (old seen new : SessionView)
    (pump after : PumpState) → IsSeeing old seen
    → IsWorking z shards first origin before given calls old pump
    → IsPump origin before (given ++ command ∷ []) after × (after.faults ≡ before)
    → CallRefused z shards command seen new
    → HasStopped z shards (as_seeing new.pass.list first) origin before Memory new after
breaks-seen z shards first origin before given calls command old seen new pump after sees w p r =
    stopped-as_seen z shards first origin before Memory seen.pass.list new after (sym r.rest.looks)
    (work-breaks z shards (as_seeing seen.pass.list first) origin before given calls command seen new pump after
    (work-sees z shards first origin before given calls old seen pump sees w) p r)

-- or it made a call
pub goes-on-seen : (z : Sizes) (shards : ℕ) (first : SessionView) (origin : Origin) (before : ℕ)
    (given : List Command) (calls : List Outcomes) (command : Command) (old seen new : SessionView)
    (pump after : PumpState) (call freed : ℕ) (sent stored : List Seg) → IsSeeing old seen
    → IsWorking z shards first origin before given calls old pump → IsPump origin before (given ++ command ∷ []) after
    → CallPosts z shards command seen new call freed sent stored
    → CallsMore z shards (as_seeing new.pass.list first) origin before given calls new after
goes-on-seen z shards first origin before given calls command old seen new pump after call freed sent stored sees w p
    posts =
    more-as_seen z shards first origin before given calls seen.pass.list new after (sym posts.rest.looks)
    (work-goes-on z shards (as_seeing seen.pass.list first) origin before given calls command seen new pump after call
    freed sent stored (work-sees z shards first origin before given calls old seen pump sees w) p posts)
