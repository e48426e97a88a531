-- A call, behind the reaps that made room for it.
use Rattle.std.proofs.Common.{◌≡◌, ℕ, ◌+◌, ◌≤◌, ⊎_elim, List, [], ◌∷◌, ◌++◌, length, true, sym, refl, ap, ◌∙◌, subst}
use Rattle.std.proofs.Common.{append_assoc, append-nil, length-append, arith}
use Rattle.std.proofs.lemmas.Bool.{cases_lt}
use Rattle.flake_base.specs.declared.segment.Seg.{Seg}
use Rattle.flake_model.specs.Command.{Command, parts}
use Rattle.pin_core.specs.declared.class.Class.{Class}
use Rattle.pin_core.specs.declared.sizes.Sizes.{Sizes}
use Rattle.pinned_pool.specs.Classes.{buffers_in}
use Rattle.pinned_pool.specs.Sought.{Sought}
use Rattle.pinned_pool.specs.Views.{looked_at}
use Rattle.pinned_pool.specs.declared.view.View.{View}
use Rattle.order_book.specs.Pages.{SessionList}
use Rattle.reply_layout.specs.Frames.{frame_from}
use Rattle.reply_layout.specs.Need.{need_of}
use Rattle.reply_layout.specs.declared.need.Need.{Need}
use Rattle.reply_planner.specs.Parcels.{Sent}
use Rattle.reply_planner.specs.Places.{buffer_addresses}
use Rattle.shard_core.specs.Calls.{IsExecuted, IsCutShort}
use Rattle.shard_core.specs.Outcomes.{Outcomes, call_deeds}
use Rattle.shard_core.proofs.Needed.{for_moved}
use Rattle.session_pass.specs.Views.{SessionView}
use Rattle.session_pass.specs.Waiting.{waiting, room_left, free_of, FitsBeside}
use Rattle.session_pass.specs.Calls.{CallPosts, CallRefused, KeepsAll}
use Rattle.session_pass.specs.Refused.{HasReaped, MakesRoom, TellsNothing}
use Rattle.session_pass.specs.declared.error.CallError.{CallError}
use Rattle.session_pass.proofs.Nothing.{not_begun}
use Rattle.session_pass.proofs.Rooms.{rest_same, rest_then, waits_behind}

sought_earlier : (z : Sizes) (rows : Class → ℕ) (n : ℕ) (u v w : View) → v.claims ≡ u.claims → v.looks ≡ u.looks
    → Sought z rows n v w → Sought z rows n u w
sought_earlier z rows n u v w claims looks sought = record {
  missed = sought.missed;
  missed_are = sought.missed_are;
  claims = λ class. subst (λ (l : List ℕ). buffers_in z class w.claims + sought.missed class ≤ buffers_in z class l
      + rows class) claims (sought.claims class);
  looks = λ b below. omega (arith, sought.looks b below, ap (looked_at b) looks);
}

fits_before : {n : ℕ} {old mid : SessionView} (needed : Need) → HasReaped n old mid → FitsBeside mid.ring mid.pass.stage
    (waiting mid 0) needed
    → FitsBeside old.ring old.pass.stage (waiting old n) needed
fits_before {n} {old} {mid} needed reaps fits = record {
  in_ring = omega (
    arith,
    fits.in_ring,
    ap (λ r. room_left r (waiting mid 0)) reaps.keeps.rest.ring,
    ap
        (room_left old.ring) (waits_behind reaps),
  );
  in_stage = omega (
    arith,
    fits.in_stage,
    ap (λ (l : List ℕ). length (free_of l (waiting mid 0))) reaps.keeps.rest.stage,
    ap (λ (l : List Sent). length (free_of old.pass.stage l)) (waits_behind reaps),
  );
}

module _ {z : Sizes} {shards : ℕ} {command : Command} where
  -- the same call, from the state before the reaps
  executed_earlier : (old mid new : SessionView) (outcomes : Outcomes) (text : List ℕ) (paid : ℕ) → KeepsAll old mid
      → IsExecuted z mid.pass.threshold shards mid.pass.list.number (length mid.posted) command outcomes text paid
      mid.pass.list.told new.pass.list.told mid.pass.seat new.pass.seat
      → IsExecuted z old.pass.threshold shards old.pass.list.number (length old.posted) command outcomes text paid
      old.pass.list.told new.pass.list.told old.pass.seat new.pass.seat
  executed_earlier old mid new outcomes text paid keeps ran =
      let t = old.pass.threshold in
      let moved = subst (λ (l : SessionList). IsExecuted z t shards l.number (length old.posted) command outcomes text
      paid l.told new.pass.list.told mid.pass.seat new.pass.seat) keeps.list
      (subst (λ (l : List Sent). IsExecuted z t shards mid.pass.list.number (length l) command outcomes text paid
      mid.pass.list.told new.pass.list.told mid.pass.seat new.pass.seat) keeps.posted
      (subst (λ (n : ℕ). IsExecuted z n shards mid.pass.list.number (length mid.posted) command outcomes text paid
      mid.pass.list.told new.pass.list.told mid.pass.seat new.pass.seat) keeps.rest.threshold ran)) in
      record {
        running = record {
          are = moved.running.are;
          told = moved.running.told;
          sought = for_moved z _ _ _ mid.pass.seat new.pass.seat old.pass.seat new.pass.seat moved.running.sought
              keeps.claims keeps.looks refl refl;
          free = λ none. let before = moved.running.free none in (before.0 ∙ keeps.claims, before.1 ∙ keeps.looks);
        };
        whole = moved.whole;
        text_is = moved.text_is;
        pinned = moved.pinned;
      }

  cut_earlier : (old mid new : SessionView) (outcomes : Outcomes) → KeepsAll old mid
      → IsCutShort z shards mid.pass.list.number (length mid.posted) command outcomes mid.pass.list.told
      new.pass.list.told mid.pass.seat new.pass.seat
      → IsCutShort z shards old.pass.list.number (length old.posted) command outcomes old.pass.list.told
      new.pass.list.told old.pass.seat new.pass.seat
  cut_earlier old mid new outcomes keeps cut =
      let moved = subst (λ (l : SessionList). IsCutShort z shards l.number (length old.posted) command outcomes l.told
      new.pass.list.told mid.pass.seat new.pass.seat) keeps.list
      (subst (λ (l : List Sent). IsCutShort z shards mid.pass.list.number (length l) command outcomes mid.pass.list.told
      new.pass.list.told mid.pass.seat new.pass.seat) keeps.posted cut) in
      record {
        are = moved.are;
        short = moved.short;
        told = moved.told;
        sought = sought_earlier z _ _ old.pass.seat mid.pass.seat new.pass.seat keeps.claims keeps.looks moved.sought;
      }

  pub posts_behind : {freed call : ℕ} {old mid new : SessionView} {sent stored : List Seg}
      → MakesRoom command freed old mid
      → CallPosts z shards command mid new call 0 sent stored
      → CallPosts z shards command old new call freed sent stored
  posts_behind {freed} {call} {old} {mid} {new} room posts =
      let reaps = room.reaps in
      let keeps = reaps.keeps in
      let waits : waiting mid 0 ≡ waiting old freed = waits_behind reaps in
      record {
        outcomes = posts.outcomes;
        parcel = posts.parcel;
        executed = executed_earlier old mid new posts.outcomes posts.parcel.text posts.parcel.paid keeps posts.executed;
        gone = reaps.gone ++ posts.gone;
        freed_is = omega (arith, length-append reaps.gone posts.gone, reaps.freed_is, posts.freed_is);
        reaped = posts.reaped ∙ ap (λ (l : List Sent). l ++ posts.gone) reaps.reaped
            ∙ append_assoc old.reaped reaps.gone posts.gone;
        fits = fits_before (need_of command) reaps room.fits;
        least = room.least;
        posted = posts.posted ∙ ap (λ (l : List Sent). l ++ posts.parcel ∷ []) keeps.posted;
        call_is = posts.call_is ∙ ap length keeps.posted;
        numbered = posts.numbered;
        laid_out = posts.laid_out
            ∙ (λ i. frame_from (keeps.rest.threshold i) (buffer_addresses z (free_of (keeps.rest.stage i) (waits i)))
            command
            (call_deeds (keeps.rest.number i) (length (keeps.posted i)) 0 (parts command) posts.outcomes));
        sent_is = posts.sent_is;
        stored_is = posts.stored_is;
        in_buffers = posts.in_buffers;
        rest = rest_then keeps.rest posts.rest;
        misses = posts.misses ∙ reaps.misses;
        stopped = posts.stopped ∙ keeps.stopped;
      }

  pub refused_behind : {freed : ℕ} {old mid new : SessionView} → MakesRoom command freed old mid
      → CallRefused z shards command mid new → CallRefused z shards command old new
  refused_behind {freed} {old} {mid} {new} room refused =
      let reaps = room.reaps in
      record {
        outcomes = refused.outcomes;
        cut = cut_earlier old mid new refused.outcomes reaps.keeps refused.cut;
        gone = reaps.gone ++ refused.gone;
        reaped = refused.reaped ∙ ap (λ (l : List Sent). l ++ refused.gone) reaps.reaped
            ∙ append_assoc old.reaped reaps.gone refused.gone;
        least = λ fewer less fits. ⊎_elim
            (λ few. room.least fewer few fits)
            (λ all. refused.least 0
            (omega (arith, all, less, length-append reaps.gone refused.gone, reaps.freed_is)) room.fits)
            (cases_lt fewer freed);
        posted = refused.posted ∙ reaps.keeps.posted;
        rest = rest_then reaps.keeps.rest refused.rest;
        misses = refused.misses ∙ reaps.misses;
        stopped = refused.stopped;
      }

-- want of memory again
pub refused_again : (z : Sizes) (shards : ℕ) (command : Command) (s : SessionView) → s.stopped ≡ true
    → CallRefused z shards command s s
refused_again z shards command s stopped = record {
  outcomes = [];
  cut = not_begun z shards s.pass.list.number (length s.posted) command s.pass.list.told s.pass.seat;
  gone = [];
  reaped = sym (append-nil s.reaped);
  least = λ fewer less fits. absurd (omega (arith, less));
  posted = refl;
  rest = rest_same s;
  misses = refl;
  stopped = stopped;
}

-- a call that found no room has told nothing
pub tells_nothing : (error : CallError) (list : List Seg) → TellsNothing error list list
tells_nothing (CallError.RingFull need room) list = refl
tells_nothing (CallError.StageFull need free) list = refl
tells_nothing CallError.Memory list = tt
