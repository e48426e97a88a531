use Rattle.std.proofs.Common.{◌≡◌, ◌<◌, All, List, ℕ, length, get_or, set, ap, sym, ◌∙◌, subst, arith}
use Rattle.std.proofs.lemmas.List.{take_all, set-get_or}
use Rattle.std.proofs.lemmas.List.Elements.{All-more, All-get_or}
use Rattle.command_exec.specs.Passes.{PassView}
use Rattle.reply_planner.specs.Stages.{NoneInBoth}
use Rattle.run_resources.specs.Opened.{IsNewPass}
use Rattle.run_resources.proofs.Passes.{new_again}
use Rattle.run_resources.proofs.passing.compare_with.Goals as goal

pub compare-requires : goal.compare-requires
compare-requires g c = record { credits = omega (arith, c.loop-i.invariant.new.opened.keeps.credits) }

pub loop-i-preserved : goal.loop-i-preserved
loop-i-preserved g c =
    let before = c.loop-i.invariant in
    let others : List PassView = c.args.others.now.items in
    let other : PassView = c.index_mut.result.now in
    let pass : PassView = c.compare.new.self in
    let near : c.loop-i.i < length others = omega (arith, c.loop-i-test.true, c.loop-i.auto.i-end, c.len-i-end.ensures)
    in
    let here : other ≡ get_or others c.loop-i.i other =
    c.index_mut.ensures.value ∙ ap (λ (l : List PassView). get_or l c.loop-i.i other) before.others in
    let fresh = subst (IsNewPass g.P.PoolName.sizes) (sym here)
    (All-get_or (IsNewPass g.P.PoolName.sizes) others c.loop-i.i other near c.requires.others) in
    let same = c.compare.ensures.pass in
    record {
      new = new_again g.P.PoolName.sizes c.loop-i.pass pass before.new same c.compare.ensures.seat;
      stage = ap (λ (p : PassView). p.stage) same ∙ before.stage;
      list = ap (λ (p : PassView). p.list) same ∙ before.list;
      threshold = ap (λ (p : PassView). p.threshold) same ∙ before.threshold;
      others = ap (λ (p : PassView). set c.loop-i.others.items c.loop-i.i p)
          (c.compare.ensures.other ∙ c.index_mut.ensures.value)
          ∙ set-get_or c.loop-i.others.items c.loop-i.i other ∙ before.others;
      capacity = before.capacity;
      apart = All-more (λ (p : PassView). NoneInBoth c.args.pass.now.stage p.stage) others c.loop-i.i other near
          before.apart
          (subst (λ (p : PassView). NoneInBoth c.args.pass.now.stage p.stage) here
          (subst (λ (stage : List ℕ). NoneInBoth c.args.pass.now.stage stage) fresh.all_free
          (subst (λ (stage : List ℕ). NoneInBoth stage other.free) (before.new.all_free ∙ before.stage)
          c.compare.ensures.apart)));
    }

pub returns-clause-apart : goal.returns-clause-apart
returns-clause-apart g c =
    let all = take_all c.loop-i.i c.args.others.now.items
    (omega (arith, c.loop-i-test.false, c.loop-i.auto.i-end, c.len-i-end.ensures)) in
    subst (All (λ (p : PassView). NoneInBoth c.args.pass.now.stage p.stage)) all c.loop-i.invariant.apart
