-- Passes that are opened one after another.
use Rattle.std.proofs.Common.{◌≡◌, ℕ, List, [], ◌∷◌, ◌++◌, All, map, reverse, refl, ap, sym, ◌∙◌, subst, append_assoc}
use Rattle.std.proofs.Common.{arith}
use Rattle.std.proofs.lemmas.List.{map-append, reverse-append}
use Rattle.order_book.specs.Pages.{SessionList}
use Rattle.std.proofs.lemmas.List.Elements.{All-head, All-tail}
use Rattle.view_sums.specs.Total.{Each}
use Rattle.pin_core.specs.declared.sizes.Sizes.{Sizes}
use Rattle.pinned_pool.specs.Classes.{buffers_in}
use Rattle.pinned_pool.specs.Views.{looked_at}
use Rattle.reply_planner.specs.Owned.{own_at}
use Rattle.reply_planner.specs.Stages.{NoneInBoth, StagesAreApart, IsReordered}
use Rattle.reply_planner.proofs.Compared.{apart_more}
use Rattle.command_exec.specs.Passes.{PassView, pass_of}
use Rattle.run_resources.specs.Opened.{IsNewPass}

-- one list less, and one pass more
pub lists_on : (all new old : List SessionList) (mine : SessionList) (passes more : List PassView) (pass : PassView)
    → map (λ (p : PassView). p.list) passes ++ reverse old ≡ all → old ≡ new ++ mine ∷ [] → pass.list ≡ mine
    → more ≡ passes ++ pass ∷ [] → map (λ (p : PassView). p.list) more ++ reverse new ≡ all
lists_on all new old mine passes more pass is split list_is more_is =
    let own : List SessionList = map (λ (p : PassView). p.list) passes in
    ap (λ (ps : List PassView). map (λ (p : PassView). p.list) ps ++ reverse new) more_is
    ∙ ap (λ (ls : List SessionList). ls ++ reverse new) (map-append (λ (p : PassView). p.list) passes (pass ∷ []))
    ∙ append_assoc own (pass.list ∷ []) (reverse new) ∙ ap (λ (l : SessionList). own ++ (l ∷ reverse new)) list_is
    ∙ ap (λ (ls : List SessionList). own ++ ls) (sym (reverse-append new (mine ∷ [])))
    ∙ ap (λ (ls : List SessionList). own ++ reverse ls) (sym split) ∙ is

-- one list less, and one more that is turned
pub turned_on : (all new old : List SessionList) (mine : SessionList) (turned more : List SessionList)
    → old ++ reverse turned ≡ all → old ≡ new ++ mine ∷ [] → more ≡ turned ++ mine ∷ [] → new ++ reverse more ≡ all
turned_on all new old mine turned more is split more_is =
    ap (λ (ls : List SessionList). new ++ reverse ls) more_is
    ∙ ap (λ (ls : List SessionList). new ++ ls) (reverse-append turned (mine ∷ []))
    ∙ sym (append_assoc new (mine ∷ []) (reverse turned))
    ∙ ap (λ (ls : List SessionList). ls ++ reverse turned) (sym split) ∙ is

-- a pass whose seat has its holds in another order is as new
pub new_again : (z : Sizes) (old new : PassView) → IsNewPass z old
    → new ≡ pass_of old.list new.seat old.stage old.free old.threshold → IsReordered old.seat new.seat → IsNewPass z new
new_again z old new is new_is same = subst (IsNewPass z) (sym new_is) (record {
  untold = is.untold;
  all_free = is.all_free;
  opened = record {
    count = is.opened.count;
    rising = is.opened.rising;
    small = is.opened.small;
    own = λ b. omega (arith, is.opened.own b, same.holds (own_at b));
    holds = λ weight. same.holds weight ∙ is.opened.holds weight;
    apart = is.opened.apart;
    keeps = record {
      credits = same.credits ∙ is.opened.keeps.credits;
      returns = same.returns ∙ is.opened.keeps.returns;
      looks = (is.opened.keeps.looks.0, same.looks ∙ is.opened.keeps.looks.1);
    };
    lasts = same.lasts ∙ is.opened.lasts;
  };
  sought = record {
    missed = is.sought.missed;
    missed_are = is.sought.missed_are;
    claims = λ class. omega (arith, is.sought.claims class, ap (buffers_in z class) same.claims);
    looks = λ b near. omega (arith, is.sought.looks b near, ap (looked_at b) same.looks);
  };
})

each_stage : (P : List ℕ → Type 0) (passes : List PassView) → All (λ (p : PassView). P p.stage) passes
    → Each P (map (λ (p : PassView). p.stage) passes)
each_stage P [] all = tt
each_stage P (p ∷ passes) all = (
  All-head (λ (q : PassView). P q.stage) p passes all,
  each_stage P passes (All-tail (λ (q : PassView). P q.stage) p passes all),
)

-- one pass more, whose stage is apart from the others'
pub stages_on : (passes more : List PassView) (pass : PassView) → StagesAreApart (map (λ (p : PassView). p.stage)
    passes)
    → All (λ (p : PassView). NoneInBoth pass.stage p.stage) passes → more ≡ passes ++ pass ∷ []
    → StagesAreApart (map (λ (p : PassView). p.stage) more)
stages_on passes more pass apart from_it is =
    subst StagesAreApart
    (sym (ap (map (λ (p : PassView). p.stage)) is ∙ map-append (λ (p : PassView). p.stage) passes (pass ∷ [])))
    (apart_more (map (λ (p : PassView). p.stage) passes) pass.stage apart (each_stage (NoneInBoth pass.stage) passes
    from_it))

-- the stages of what has these passes
stages_in : {K : Type 0} (own : K → PassView) (slots : List K)
    → map (λ (p : PassView). p.stage) (map own slots) ≡ map (λ (k : K). (own k).stage) slots
stages_in own [] = refl
stages_in own (k ∷ slots) = ap (λ (more : List (List ℕ)). (own k).stage ∷ more) (stages_in own slots)

pub slots_apart : {K : Type 0} (own : K → PassView) (slots : List K) (passes : List PassView) → map own slots ≡ passes
    → StagesAreApart (map (λ (p : PassView). p.stage) passes) → StagesAreApart (map (λ (k : K). (own k).stage) slots)
slots_apart own slots passes is apart =
    subst StagesAreApart (sym (ap (map (λ (p : PassView). p.stage)) is) ∙ stages_in own slots) apart
