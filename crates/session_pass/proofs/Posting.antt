-- A reply more is posted.
use Rattle.std.proofs.Common.{◌≡◌, ℕ, ◌+◌, ◌-◌, ◌^◌, ◌<◌, ◌≤◌, ⊎_elim, List, [], ◌∷◌, ◌++◌, length, take, drop, Bool}
use Rattle.std.proofs.Common.{true, false, not, cond, ◌||◌, sym, refl, ap, ◌∙◌, subst, append_assoc, append-nil}
use Rattle.std.proofs.Common.{length-append, length-take, length-drop, arith}
use Rattle.std.specs.List.{filter, list_any}
use Rattle.std.proofs.lemmas.List.{take-append-drop}
use Rattle.std.proofs.lemmas.List.Folds.{list_any-append}
use Rattle.atomic_table.specs.Seated.{TableId}
use Rattle.view_sums.specs.Total.{total, Each}
use Rattle.view_sums.proofs.Eachs.{each-append}
use Rattle.pin_core.specs.declared.sizes.Sizes.{Sizes}
use Rattle.pinned_pool.specs.Named.{IsSeat}
use Rattle.pinned_pool.specs.declared.view.View.{View}
use Rattle.flake_base.specs.declared.segment.Seg.{Seg}
use Rattle.flake_model.specs.Command.{Command, parts}
use Rattle.shard_core.specs.Calls.{IsExecuted, IsCutShort}
use Rattle.shard_core.specs.Outcomes.{call_deeds}
use Rattle.shard_core.specs.Parts.{IsInBuffer}
use Rattle.reply_layout.specs.Frames.{frame_from}
use Rattle.reply_layout.specs.Need.{need_of}
use Rattle.reply_planner.specs.Owned.{AreOwn}
use Rattle.reply_planner.specs.Parcels.{Sent}
use Rattle.reply_planner.specs.Places.{buffer_addresses}
use Rattle.reply_planner.specs.Stages.{IsRising}
use Rattle.reply_planner.proofs.Owned.{own_front}
use Rattle.tx_ring.specs.Changes.{IsPosted}
use Rattle.tx_ring.specs.declared.view.DriverView.{DriverView}
use Rattle.command_exec.specs.Passes.{PassView, IsPass}
use Rattle.command_exec.specs.Executed.{Executes, FallsShort}
use Rattle.session_pass.specs.Views.{SessionView, whole_view}
use Rattle.session_pass.specs.Waiting.{waiting, is_staged_by, free_of, FitsBeside}
use Rattle.session_pass.specs.Calls.{CallPosts, CallRefused}
use Rattle.session_pass.specs.Kept.{IsSessionSound, IsSessionOf, IsWaiting, users}
use Rattle.session_pass.proofs.Filters.{has, filter_same, each_all, each-take, each-passes, has-passes, take-filter}
use Rattle.session_pass.proofs.Filters.{drop-filter, same_or_not}
use Rattle.session_pass.proofs.Sums.{credits_few, users_none, users_one, credits_one, staged_one, descriptors_one}
use Rattle.session_pass.proofs.Sums.{weight_one}
use Rattle.session_pass.proofs.Weights.{own_gone}
use Rattle.session_pass.proofs.With.{With, with_waits, session_with}

used_or_not : (used taken : Bool) → cond taken false (not used) ≡ not (used || (taken || false))
used_or_not true true = refl
used_or_not true false = refl
used_or_not false true = refl
used_or_not false false = refl

unused_true : (t : Bool) → not t ≡ true → t ≡ false
unused_true true e = cc
unused_true false e = refl

-- a reply that takes the first free buffers of a stage
module _ (stage : List ℕ) (waits : List Sent) (p : Sent) (rises : IsRising stage)
    (staged : p.staged ≡ take (length p.staged) (free_of stage waits)) where
  -- has them in order
  pub staged_in_order : p.staged ≡ filter (λ b. is_staged_by b p) stage
  staged_in_order =
      staged ∙ take-filter (λ b. not (list_any (is_staged_by b) waits)) (length p.staged) stage rises
      ∙ ap (λ l. filter (has l) stage) (sym staged)

  -- leaves the others
  pub others_free : drop (length p.staged) (free_of stage waits) ≡ free_of stage (waits ++ p ∷ [])
  others_free =
      drop-filter (λ b. not (list_any (is_staged_by b) waits)) (length p.staged) stage rises
      ∙ ap (λ l. filter (λ b. cond (has l b) false (not (list_any (is_staged_by b) waits))) stage) (sym staged)
      ∙ filter_same
      (λ b. cond (is_staged_by b p) false (not (list_any (is_staged_by b) waits)))
      (λ b. not (list_any (is_staged_by b) (waits ++ p ∷ [])))
      stage
      (each_all
      (λ b. cond (is_staged_by b p) false (not (list_any (is_staged_by b) waits))
      ≡ not (list_any (is_staged_by b) (waits ++ p ∷ [])))
      (λ b. used_or_not (list_any (is_staged_by b) waits) (is_staged_by b p)
      ∙ ap not (sym (list_any-append (is_staged_by b) waits (p ∷ []))))
      stage)

  -- and uses none that another one uses
  pub used_once : (b : ℕ) → users b waits ≤ 1 → users b (waits ++ p ∷ []) ≤ 1
  used_once b once =
      ⊎_elim
      (λ used.
      let was_free : not (list_any (is_staged_by b) waits) ≡ true =
      has-passes (λ c. not (list_any (is_staged_by c) waits)) b (take (length p.staged) (free_of stage waits))
      (each-take (λ c. not (list_any (is_staged_by c) waits) ≡ true) (length p.staged) (free_of stage waits)
      (each-passes (λ c. not (list_any (is_staged_by c) waits)) stage))
      (ap (λ l. has l b) (sym staged) ∙ used) in
      omega (
        arith,
        users_one b waits p,
        users_none b waits (unused_true (list_any (is_staged_by b) waits) was_free),
        ap {B = ℕ} (λ (t : Bool). cond t 1 0) used,
      ))
      (λ unused. omega (arith, once, users_one b waits p, ap {B = ℕ} (λ (t : Bool). cond t 1 0) unused))
      (same_or_not (is_staged_by b p))

module _ (z : Sizes) (shards call : ℕ) (command : Command) (pass pass' : PassView) (opened : View)
    (ring ring' : TableId) (d d' : DriverView Sent) (stopped : Bool) (p : Sent) where
  pub post_keeps : (before behind : List Seg) (calls number : ℕ) → IsPass z pass → IsSeat z pass.seat
      → Executes z shards command call pass pass' p before behind
      → ring' ≡ ring → IsPosted p d d'
      → (let s = whole_view pass opened ring d stopped in FitsBeside ring pass.stage (waiting s 0) (need_of command))
      → length d.posted < 2 ^ 32 - 1
      → IsSessionOf calls number (whole_view pass opened ring d stopped)
      → IsSessionOf (calls + 1) number (whole_view pass' opened ring' d' stopped)
  post_keeps before behind calls number valid live ran same_ring posts room few is =
      let s = whole_view pass opened ring d stopped in
      let s' = whole_view pass' opened ring' d' stopped in
      let waits = waiting s 0 in
      let now : With s waits = with_waits s is.is in
      let n = length p.staged in
      let staged : p.staged ≡ take n (free_of pass.stage waits) = ran.staged ∙ ap (take n) now.free_is in
      let enough : n ≤ length pass.free = omega (arith, ap length ran.staged, length-take n pass.free) in
      let free : pass'.free ≡ free_of pass.stage (waits ++ p ∷ []) =
      ran.free ∙ ap (drop n) now.free_is ∙ others_free pass.stage waits p valid.rising staged in
      let own : AreOwn pass.seat.holds p.staged =
      subst (AreOwn pass.seat.holds) (sym ran.staged)
      (own_front pass.seat.holds (take n pass.free) (drop n pass.free)
      (subst (AreOwn pass.seat.holds) (sym (take-append-drop n pass.free)) valid.own)) in
      record {
        calls_are = omega (arith, is.calls_are, ap length posts.posted, length-append d.posted (p ∷ []));
        number_is = is.number_is ∙ sym ran.number;
        is = session_with s' (waits ++ p ∷ []) (record {
          least = subst (λ (r : TableId). 1160 ≤ r.slots) (sym same_ring) now.least;
          greatest = subst (λ (r : TableId). r.slots ≤ 4096) (sym same_ring) now.greatest;
          front = posts.posted ∙ ap (λ l. l ++ p ∷ []) now.front ∙ append_assoc d.reaped waits (p ∷ [])
              ∙ ap (λ l. l ++ (waits ++ p ∷ [])) (sym posts.reaped);
          each = subst (λ l. Each (IsWaiting l) (waits ++ p ∷ [])) (sym ran.stage)
              (each-append (IsWaiting pass.stage) waits (p ∷ []) now.each (
                record {
                  some = ran.some;
                  staged = staged_in_order pass.stage waits p valid.rising staged;
                  few = ran.few;
                },
                tt,
              ));
          free_is = free ∙ ap (λ l. free_of l (waits ++ p ∷ [])) (sym ran.stage);
          all = omega (arith, now.all, staged_one waits p, ap length ran.free, length-drop n pass.free, enough);
          once = λ b. used_once pass.stage waits p valid.rising staged b (now.once b);
          fits = omega (
            arith,
            now.least,
            now.fits,
            room.in_ring,
            ran.in_ring,
            descriptors_one waits p,
            ap
                (λ (r : TableId). r.slots) same_ring,
          );
          rich = now.rich;
          count = omega (arith, few, ap length posts.posted, length-append d.posted (p ∷ []));
          credits = omega (arith, now.credits, ran.credits, credits_one waits p);
          returns = omega (
            arith,
            now.returns,
            ran.returns,
            ap (λ (l : List Sent). total (λ (q : Sent). q.paid) l)
                posts.reaped,
          );
          holds = λ weight.
              omega (
                arith,
                now.holds weight,
                weight_one weight waits p,
                ap (total weight) ran.holds,
                own_gone weight p.staged pass.seat.holds live.loose own,
              );
        });
      }

  pub call_posts : (sent stored : List Seg) → Executes z shards command call pass pass' p [] stored → sent ≡ p.segments
      → ring' ≡ ring → IsPosted p d d' → call ≡ length d.posted
      → (let s = whole_view pass opened ring d stopped in FitsBeside ring pass.stage (waiting s 0) (need_of command))
      → IsSessionSound (whole_view pass opened ring d stopped)
      → CallPosts z shards command (whole_view pass opened ring d stopped)
      (whole_view pass' opened ring' d' stopped) call 0 sent stored
  call_posts sent stored ran told same_ring posts call_is room is =
      let s = whole_view pass opened ring d stopped in
      record {
        outcomes = ran.outcomes;
        parcel = p;
        executed = subst (λ (k : ℕ). IsExecuted z pass.threshold shards pass.list.number k command ran.outcomes p.text
            p.paid pass.list.told pass'.list.told pass.seat pass'.seat)
            call_is ran.executed;
        gone = [];
        freed_is = refl;
        reaped = posts.reaped ∙ sym (append-nil d.reaped);
        fits = room;
        least = λ fewer below fits. absurd (omega arith);
        posted = posts.posted;
        call_is = call_is;
        numbered = ran.call_is;
        laid_out = ran.frame
            ∙ ap (λ l. frame_from pass.threshold (buffer_addresses z l) command
            (call_deeds pass.list.number call 0 (parts command) ran.outcomes)) is.free_is
            ∙ ap (λ (k : ℕ). frame_from pass.threshold (buffer_addresses z (free_of pass.stage (waiting s 0))) command
            (call_deeds pass.list.number k 0 (parts command) ran.outcomes)) call_is;
        sent_is = told;
        stored_is = ran.stored;
        in_buffers = subst (Each (IsInBuffer z)) (sym ran.stored) ran.in_buffers;
        rest = record {
          number = ran.number;
          looks = ran.looks;
          stage = ran.stage;
          threshold = ran.threshold;
          opened = refl;
          ring = same_ring;
          told = posts.told;
        };
        misses = posts.misses;
        stopped = refl;
      }

-- a call for which memory was wanting
module _ (z : Sizes) (shards call : ℕ) (command : Command) (pass pass' : PassView) (opened : View)
    (ring : TableId) (d : DriverView Sent) (stopped : Bool) where
  pub refuse_keeps : (calls number : ℕ) → FallsShort z shards command call pass pass'
      → IsSessionOf calls number (whole_view pass opened ring d stopped)
      → IsSessionOf calls number (whole_view pass' opened ring d true)
  refuse_keeps calls number short is =
      let s = whole_view pass opened ring d stopped in
      let now = is.is in
      record {
        calls_are = is.calls_are;
        number_is = is.number_is ∙ sym short.number;
        is = record {
          least = now.least;
          greatest = now.greatest;
          front = now.front;
          each = subst (λ l. Each (IsWaiting l) (waiting s 0)) (sym short.stage) now.each;
          free_is = short.free ∙ now.free_is ∙ ap (λ l. free_of l (waiting s 0)) (sym short.stage);
          all = omega (arith, now.all, ap length short.free);
          once = now.once;
          fits = now.fits;
          rich = now.rich;
          count = now.count;
          credits = omega (arith, now.credits, short.credits);
          returns = omega (arith, now.returns, short.returns);
          holds = λ weight. omega (arith, now.holds weight, ap (total weight) short.holds);
        };
      }

  pub call_refused : FallsShort z shards command call pass pass' → call ≡ length d.posted
      → CallRefused z shards command (whole_view pass opened ring d stopped) (whole_view pass' opened ring d true)
  call_refused short call_is = record {
    outcomes = short.outcomes;
    cut = subst (λ (k : ℕ). IsCutShort z shards pass.list.number k command short.outcomes pass.list.told pass'.list.told
        pass.seat pass'.seat)
        call_is short.cut;
    gone = [];
    reaped = sym (append-nil d.reaped);
    least = λ fewer less fits. absurd (omega (arith, less));
    posted = refl;
    rest = record {
      number = short.number;
      looks = short.looks;
      stage = short.stage;
      threshold = short.threshold;
      opened = refl;
      ring = refl;
      told = refl;
    };
    misses = refl;
    stopped = refl;
  }

-- whatever a command needs, the pass can pay for it
pub credits_enough : (command : Command) (s : SessionView) → IsSessionSound s
    → FitsBeside s.ring s.pass.stage (waiting s 0) (need_of command)
    → (need_of command).descriptors + 5 ≤ s.pass.seat.credits
credits_enough command s is room =
    omega (
      arith,
      is.least,
      is.greatest,
      is.rich,
      is.credits,
      is.all,
      is.fits,
      room.in_ring,
      credits_few s.pass.stage
          (waiting s 0) is.each,
    )
