-- A dump between two calls of a session: what it changes, and what the calls behind it leave of it.
use Rattle.std.proofs.Common.{◌≡◌, ℕ, ◌+◌, ◌<◌, ◌≤◌, List, [], ◌∷◌, ◌++◌, length, refl, ap, sym, ◌∙◌, subst}
use Rattle.std.proofs.Common.{Option, Some, None, Result, Ok, Err, append_assoc, append-nil, arith, length-append}
use Rattle.view_sums.specs.Total.{Each}
use Rattle.view_sums.proofs.Eachs.{each-imp, each-append}
use Rattle.pin_core.specs.declared.sizes.Sizes.{Sizes}
use Rattle.pinned_pool.specs.declared.view.View.{View}
use Rattle.flake_base.specs.declared.segment.Seg.{Seg}
use Rattle.flake_model.specs.Store.{Operation}
use Rattle.flake_model.specs.Command.{Command, parts}
use Rattle.flake_model.specs.Deed.{Deed}
use Rattle.order_book.specs.Closed.{deeds_by, session_deeds_in}
use Rattle.order_book.specs.Pages.{SessionList}
use Rattle.reply_planner.specs.Parcels.{Sent}
use Rattle.shard_core.specs.Outcomes.{Outcomes, SessionDeeds, call_told}
use Rattle.dump_model.specs.Seen.{ShardSeen, HasSeen, list_seen, list_with}
use Rattle.pin_dump.specs.Dumps.{DumpView, TookDump, HasTakenHolds, IsSameSeat}
use Rattle.pin_dump.proofs.SeenTaken.{is_seen}
use Rattle.session_pass.specs.Calls.{CallPosts, CallRefused}
use Rattle.session_pass.specs.Views.{SessionView}
use Rattle.session_serve.specs.Beside.{HasWaited, CallsAtLast, BreaksAtLast}
use Rattle.session_serve.specs.Dumps.{DumpCame, Stands, IsInTime, MayCall}
use Rattle.session_serve.specs.declared.dump.DumpPlan.{DumpPlan}

-- what a call tells is of that call
told-of : (shards session call part : ℕ) (operations : List Operation) (outcomes : Outcomes)
    → Each (λ (own : ℕ × Deed). own.1.entry.call ≡ call) (call_told shards session call part operations outcomes)
told-of shards session call part operations [] = tt
told-of shards session call part [] (outcome ∷ outcomes) = tt
told-of shards session call part (operation ∷ operations) (None ∷ outcomes) =
    told-of shards session call (part + 1) operations outcomes
told-of shards session call part (operation ∷ operations) (Some done ∷ outcomes) =
    (refl, told-of shards session call (part + 1) operations outcomes)

-- deeds of its call and of calls behind it leave a dump what it was
seen-later : (shards before : ℕ) (old new : SessionList) (more : SessionDeeds) (points text : List ℕ)
    → new.number ≡ old.number → new.looks ≡ old.looks → new.told ≡ old.told ++ more
    → Each (λ (own : ℕ × Deed). before ≤ own.1.entry.call) more
    → HasSeen shards before old points text → HasSeen shards before new points text
seen-later shards before old new more points text number looks told behind s = record {
  front = s.front;
  seen = s.seen;
  looks_are = looks ∙ s.looks_are;
  numbered = s.numbered;
  points_are = s.points_are;
  text_is = s.text_is;
  earlier = s.earlier;
  later = s.later ++ more;
  deeds_are = told ∙ ap (λ (deeds : SessionDeeds). deeds ++ more) s.deeds_are ∙ append_assoc s.earlier s.later more;
  calls_before = s.calls_before;
  calls_behind = each-append (λ (own : ℕ × Deed). before ≤ own.1.entry.call) s.later more s.calls_behind behind;
  shared = subst (λ (n : ℕ). Each (λ (look : ShardSeen). deeds_by n (list_seen look)
      ≡ session_deeds_in look.0 (list_with old s.earlier)) s.seen) (sym number) s.shared;
}

module _ {P : Type 0} (shards : ℕ) where
  -- a call's deeds more
  stands-more : (asked plan : Option (DumpPlan P)) (taken : Option (Result DumpView View)) (first old new : SessionList)
      (calls : ℕ) (more : SessionDeeds)
      → new.number ≡ old.number → new.looks ≡ old.looks → new.told ≡ old.told ++ more
      → Each (λ (own : ℕ × Deed). own.1.entry.call ≡ calls) more → MayCall asked plan calls
      → Stands shards asked plan taken first old → Stands shards asked plan taken first new
  stands-more None None None first old new calls more number looks told of may stands = looks ∙ stands
  stands-more None None (Some taken) first old new calls more number looks told of may stands = absurd stands
  stands-more (Some plan) None None first old new calls more number looks told of may stands = absurd stands
  stands-more (Some plan) None (Some (Ok dump)) first old new calls more number looks told of may stands = record {
    seen = seen-later shards plan.before old new more dump.points dump.text number looks told
        (each-imp (λ (own : ℕ × Deed). own.1.entry.call ≡ calls) (λ (own : ℕ × Deed). plan.before ≤ own.1.entry.call)
        (λ own is. subst (λ (call : ℕ). plan.before ≤ call) (sym is) may) more of) stands.seen;
    holds = stands.holds;
  }
  stands-more (Some plan) None (Some (Err seat)) first old new calls more number looks told of may stands = stands
  stands-more asked (Some plan) None first old new calls more number looks told of may stands = (
    stands.0,
    subst (Each (λ (own : ℕ × Deed). own.1.entry.call < plan.before)) (sym told)
        (each-append (λ (own : ℕ × Deed). own.1.entry.call < plan.before) old.told more stands.1
        (each-imp (λ (own : ℕ × Deed). own.1.entry.call ≡ calls) (λ (own : ℕ × Deed). own.1.entry.call < plan.before)
        (λ own is. subst (λ (call : ℕ). call < plan.before) (sym is) may) more of)),
  )
  stands-more asked (Some plan) (Some taken) first old new calls more number looks told of may stands = absurd stands

  pub stands-posted : (z : Sizes) (asked plan : Option (DumpPlan P)) (taken : Option (Result DumpView View))
      (first : SessionList) (command : Command) (old new : SessionView) (call freed : ℕ) (sent stored : List Seg)
      → MayCall asked plan (length old.posted) → CallPosts z shards command old new call freed sent stored
      → Stands shards asked plan taken first old.pass.list → Stands shards asked plan taken first new.pass.list
  stands-posted z asked plan taken first command old new call freed sent stored may posts stands =
      stands-more asked plan taken first old.pass.list new.pass.list (length old.posted)
      (call_told shards old.pass.list.number (length old.posted) 0 (parts command) posts.outcomes)
      posts.rest.number posts.rest.looks posts.executed.running.told
      (told-of shards old.pass.list.number (length old.posted) 0 (parts command) posts.outcomes) may stands

  pub stands-refused : (z : Sizes) (asked plan : Option (DumpPlan P)) (taken : Option (Result DumpView View))
      (first : SessionList) (command : Command) (old new : SessionView)
      → MayCall asked plan (length old.posted) → CallRefused z shards command old new
      → Stands shards asked plan taken first old.pass.list → Stands shards asked plan taken first new.pass.list
  stands-refused z asked plan taken first command old new may refused stands =
      stands-more asked plan taken first old.pass.list new.pass.list (length old.posted)
      (call_told shards old.pass.list.number (length old.posted) 0 (parts command) refused.outcomes)
      refused.rest.number refused.rest.looks refused.cut.told
      (told-of shards old.pass.list.number (length old.posted) 0 (parts command) refused.outcomes) may stands

  -- replies that are given back first leave its calls and its list
  stands-waited : (asked plan : Option (DumpPlan P)) (taken : Option (Result DumpView View)) (first : SessionList)
      (old new : SessionView) → HasWaited old new
      → Stands shards asked plan taken first old.pass.list → Stands shards asked plan taken first new.pass.list
  stands-waited asked plan taken first old new waited stands =
      subst (Stands shards asked plan taken first) (sym waited.keeps.list) stands

  may-waited : (asked plan : Option (DumpPlan P)) (old new : SessionView) → HasWaited old new
      → MayCall asked plan (length old.posted) → MayCall asked plan (length new.posted)
  may-waited asked plan old new waited may =
      subst (λ (posted : List Sent). MayCall asked plan (length posted)) (sym waited.keeps.posted) may

  pub stands-at_last : (z : Sizes) (asked plan : Option (DumpPlan P)) (taken : Option (Result DumpView View))
      (first : SessionList) (command : Command) (old new : SessionView)
      → MayCall asked plan (length old.posted) → CallsAtLast z shards command old new
      → Stands shards asked plan taken first old.pass.list → Stands shards asked plan taken first new.pass.list
  stands-at_last z asked plan taken first command old new may c stands =
      stands-posted z asked plan taken first command c.rested new c.call c.freed c.posts.0 c.posts.1
      (may-waited asked plan old c.rested c.waited may) c.posts.2
      (stands-waited asked plan taken first old c.rested c.waited stands)

  pub stands-broken : (z : Sizes) (asked plan : Option (DumpPlan P)) (taken : Option (Result DumpView View))
      (first : SessionList) (command : Command) (old new : SessionView)
      → MayCall asked plan (length old.posted) → BreaksAtLast z shards command old new
      → Stands shards asked plan taken first old.pass.list → Stands shards asked plan taken first new.pass.list
  stands-broken z asked plan taken first command old new may b stands =
      stands-refused z asked plan taken first command b.rested new
      (may-waited asked plan old b.rested b.waited may) b.refused
      (stands-waited asked plan taken first old b.rested b.waited stands)

  -- a call more is in time
  in_time-more : (asked plan : Option (DumpPlan P)) (calls : ℕ) → MayCall asked plan calls
      → IsInTime asked plan (calls + 1)
  in_time-more asked (Some plan) calls may = omega (arith, may)
  in_time-more None None calls may = tt
  in_time-more (Some plan) None calls may = omega (arith, may)

  pub in_time-posted : (z : Sizes) (asked plan : Option (DumpPlan P)) (command : Command) (old new : SessionView)
      (call freed : ℕ) (sent stored : List Seg) → MayCall asked plan (length old.posted)
      → CallPosts z shards command old new call freed sent stored → IsInTime asked plan (length new.posted)
  in_time-posted z asked plan command old new call freed sent stored may posts =
      subst (IsInTime asked plan)
      (sym (ap length posts.posted ∙ length-append old.posted (posts.parcel ∷ [])))
      (in_time-more asked plan (length old.posted) may)

  pub in_time-at_last : (z : Sizes) (asked plan : Option (DumpPlan P)) (command : Command) (old new : SessionView)
      → MayCall asked plan (length old.posted) → CallsAtLast z shards command old new
      → IsInTime asked plan (length new.posted)
  in_time-at_last z asked plan command old new may c =
      in_time-posted z asked plan command c.rested new c.call c.freed c.posts.0 c.posts.1
      (may-waited asked plan old c.rested c.waited may) c.posts.2

  -- a dump that waits for its turn, at the last call before it or behind all
  pub came-taken : (asked : Option (DumpPlan P)) (plan : DumpPlan P) (taken : Option (Result DumpView View))
      (first old new : SessionList) (dump : DumpView) → TookDump shards old new dump.points dump.text
      → HasTakenHolds plan.seat dump.seat → Stands shards asked (Some plan) taken first old
      → DumpCame shards asked (Some (Ok dump)) first new
  came-taken asked plan (Some taken) first old new dump took holds stands = absurd stands
  came-taken asked plan None first old new dump took holds stands =
      subst (λ (a : Option (DumpPlan P)). DumpCame shards a (Some (Ok dump)) first new) (sym stands.0) (record {
        seen = is_seen shards plan.before old new new dump.points dump.text [] took refl refl
            (sym (append-nil new.told))
            (subst (Each (λ (own : ℕ × Deed). own.1.entry.call < plan.before)) (sym took.told_is) stands.1) tt;
        holds = holds;
      })

  pub came-refused : (asked : Option (DumpPlan P)) (plan : DumpPlan P) (taken : Option (Result DumpView View))
      (first old new : SessionList) (seat : View) → IsSameSeat plan.seat seat
      → Stands shards asked (Some plan) taken first old → DumpCame shards asked (Some (Err seat)) first new
  came-refused asked plan (Some taken) first old new seat same stands = absurd stands
  came-refused asked plan None first old new seat same stands =
      subst (λ (a : Option (DumpPlan P)). DumpCame shards a (Some (Err seat)) first new) (sym stands.0) same

  -- before its first call
  pub stands-first : (asked : Option (DumpPlan P)) (first : SessionList) → first.told ≡ []
      → Stands shards asked asked None first first
  stands-first None first none = refl
  stands-first (Some plan) first none =
      (refl, subst (Each (λ (own : ℕ × Deed). own.1.entry.call < plan.before)) (sym none) tt)

  pub in_time-first : (asked : Option (DumpPlan P)) (calls : ℕ) → calls ≡ 0 → IsInTime asked asked calls
  in_time-first None calls none = tt
  in_time-first (Some plan) calls none = omega (arith, none)
