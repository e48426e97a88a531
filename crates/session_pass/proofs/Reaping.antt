-- The oldest reply is given back.
use Rattle.std.proofs.Common.{◌≡◌, ℕ, ◌^◌, ◌<◌, ◌≤◌, inl, inr, ⊎_elim, List, [], ◌∷◌, ◌++◌, length, Bool, not, cond}
use Rattle.std.proofs.Common.{◌||◌, sym, refl, ap, ◌∙◌, subst, arith}
use Rattle.std.specs.Prelude.{slice_get, Some}
use Rattle.std.specs.List.{list_any}
use Rattle.atomic_table.specs.Seated.{TableId}
use Rattle.view_sums.specs.Total.{total, Each}
use Rattle.view_sums.proofs.Sums.{total-append}
use Rattle.pin_core.specs.declared.sizes.Sizes.{Sizes}
use Rattle.pinned_pool.specs.declared.view.View.{View}
use Rattle.reply_planner.specs.Owned.{bare_all, fresh_all}
use Rattle.reply_planner.specs.Parcels.{Sent, TakesBack}
use Rattle.reply_planner.specs.Stages.{IsRising, merged}
use Rattle.reply_planner.proofs.Merged.{length-merged}
use Rattle.order_book.specs.Pages.{SessionList}
use Rattle.tx_ring.specs.Changes.{IsReaped}
use Rattle.tx_ring.specs.declared.view.DriverView.{DriverView}
use Rattle.command_exec.specs.Passes.{PassView, IsPass, pass_of}
use Rattle.session_pass.specs.Views.{whole_view}
use Rattle.session_pass.specs.Waiting.{is_staged_by, free_of}
use Rattle.session_pass.specs.Calls.{ReapsOne}
use Rattle.session_pass.specs.Kept.{IsSessionOf, IsWaiting, users}
use Rattle.session_pass.proofs.Filters.{Splits, merged-filters, each_all, same_or_not}
use Rattle.session_pass.proofs.Sums.{unused, paid_one}
use Rattle.session_pass.proofs.With.{With, with_front, session_with}

-- its staging buffers are free again
pub freed_buffers : (stage : List ℕ) (p : Sent) (more : List Sent) → IsRising stage → IsWaiting stage p
    → ((b : ℕ) → users b (p ∷ more) ≤ 1) → merged p.staged (free_of stage (p ∷ more)) ≡ free_of stage more
freed_buffers stage p more rises is once =
    ap (λ l. merged l (free_of stage (p ∷ more))) is.staged
    ∙ merged-filters
    (λ b. is_staged_by b p)
    (λ b. not (list_any (is_staged_by b) (p ∷ more)))
    (λ b. not (list_any (is_staged_by b) more))
    stage rises
    (λ b used. ap (λ t. not (t || list_any (is_staged_by b) more)) used)
    (each_all (Splits (λ b. is_staged_by b p) (λ b. not (list_any (is_staged_by b) (p ∷ more)))
    (λ b. not (list_any (is_staged_by b) more))) splits stage)
  where
    splits : (b : ℕ) → Splits (λ b. is_staged_by b p) (λ b. not (list_any (is_staged_by b) (p ∷ more)))
        (λ b. not (list_any (is_staged_by b) more)) b
    splits b =
        ⊎_elim
        (λ used.
        let alone : users b more ≡ 0 = omega (arith, once b, ap {B = ℕ} (λ (t : Bool). cond t 1 0) used) in
        inl (used, ap not (unused b more alone)))
        (λ free. inr (free, ap (λ t. not (t || list_any (is_staged_by b) more)) free))
        (same_or_not (is_staged_by b p))

at_length : (xs ys : List Sent) (x : Sent) → slice_get (xs ++ x ∷ ys) (length xs) ≡ Some x
at_length [] ys x = refl
at_length (y ∷ xs) ys x = at_length xs ys x

pub reaps_one : (p : Sent) (n : ℕ) (pass pass' : PassView) (opened : View) (ring ring' : TableId)
    (d d' : DriverView Sent) (stopped : Bool) (call : ℕ) → ring' ≡ ring → IsReaped p d d'
    → TakesBack p n pass.seat pass'.seat
    → pass' ≡ pass_of pass.list pass'.seat pass.stage (merged p.staged pass.free) pass.threshold
    → call ≡ p.call
    → ReapsOne (whole_view pass opened ring d stopped) (whole_view pass' opened ring' d' stopped) call n
reaps_one p n pass pass' opened ring ring' d d' stopped call same_ring reaps back change call_is =
    let list : pass'.list ≡ pass.list = ap (λ (q : PassView). q.list) change in
    record {
      parcel = p;
      oldest = ap (λ l. slice_get l (length d.reaped)) reaps.oldest ∙ at_length d.reaped reaps.more p;
      reaped = reaps.reaped;
      call_is = call_is;
      recycles = back.few;
      ended = back.ended;
      lasts = back.lasts;
      counts = back.count;
      holds = back.holds;
      credits = back.credits;
      returns = back.returns;
      keeps = record {
        rest = record {
          number = ap (λ (l : SessionList). l.number) list;
          looks = ap (λ (l : SessionList). l.looks) list;
          stage = ap (λ (q : PassView). q.stage) change;
          threshold = ap (λ (q : PassView). q.threshold) change;
          opened = refl;
          ring = same_ring;
          told = reaps.told;
        };
        list = list;
        claims = back.claims;
        looks = back.looks;
        posted = reaps.posted;
        stopped = refl;
      };
      misses = reaps.misses;
    }

module _ (z : Sizes) (p : Sent) (n : ℕ) (pass pass' : PassView) (opened : View) (ring ring' : TableId)
    (d d' : DriverView Sent) (stopped : Bool) where
  pub reap_keeps : (calls number : ℕ) → IsPass z pass → ring' ≡ ring → IsReaped p d d'
      → TakesBack p n pass.seat pass'.seat
      → pass' ≡ pass_of pass.list pass'.seat pass.stage (merged p.staged pass.free) pass.threshold
      → IsSessionOf calls number (whole_view pass opened ring d stopped)
      → IsSessionOf calls number (whole_view pass' opened ring' d' stopped)
  reap_keeps calls number valid same_ring reaps back change is =
      let s = whole_view pass opened ring d stopped in
      let s' = whole_view pass' opened ring' d' stopped in
      let before : With s (p ∷ reaps.more) = with_front s (p ∷ reaps.more) reaps.oldest is.is in
      let stage : pass'.stage ≡ pass.stage = ap (λ (q : PassView). q.stage) change in
      let free : pass'.free ≡ merged p.staged pass.free = ap (λ (q : PassView). q.free) change in
      let list : pass'.list ≡ pass.list = ap (λ (q : PassView). q.list) change in
      let ours : pass'.free ≡ free_of pass.stage reaps.more =
      free ∙ ap (merged p.staged) before.free_is ∙ freed_buffers pass.stage p reaps.more valid.rising before.each.0
      before.once in
      record {
        calls_are = is.calls_are ∙ ap length (sym reaps.posted);
        number_is = is.number_is ∙ ap (λ (l : SessionList). l.number) (sym list);
        is = session_with s' reaps.more (record {
          least = subst (λ (r : TableId). 1160 ≤ r.slots) (sym same_ring) before.least;
          greatest = subst (λ (r : TableId). r.slots ≤ 4096) (sym same_ring) before.greatest;
          front = reaps.posted ∙ reaps.oldest ∙ regroup d.reaped reaps.more
              ∙ ap (λ l. l ++ reaps.more) (sym reaps.reaped);
          each = subst (λ l. Each (IsWaiting l) reaps.more) (sym stage) before.each.1;
          free_is = ours ∙ ap (λ l. free_of l reaps.more) (sym stage);
          all = omega (arith, before.all, ap length free, length-merged p.staged pass.free);
          once = λ b. omega (arith, before.once b);
          fits = omega (arith, before.fits, ap (λ (r : TableId). r.slots) same_ring);
          rich = before.rich;
          count = subst (λ (l : List Sent). length l < 2 ^ 32) (sym reaps.posted) before.count;
          credits = omega (arith, before.credits, back.credits);
          returns = omega (
            arith,
            before.returns,
            back.returns,
            paid_one d.reaped p,
            ap
                (λ (l : List Sent). total (λ (q : Sent). q.paid) l) reaps.reaped,
          );
          holds = λ weight.
              omega (
                arith,
                before.holds weight,
                ap (total weight) back.holds,
                total-append weight (bare_all pass.seat.holds) (fresh_all p.staged),
              );
        });
      }
    where
      regroup : (xs ys : List Sent) → xs ++ p ∷ ys ≡ (xs ++ p ∷ []) ++ ys
      regroup [] ys = refl
      regroup (x ∷ xs) ys = ap (λ l. x ∷ l) (regroup xs ys)
