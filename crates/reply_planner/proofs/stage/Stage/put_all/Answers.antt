use Rattle.std.proofs.Common.{◌≡◌, ◌++◌, [], ◌∷◌, length, sym, ap, ◌∙◌, subst, length-append, arith}
use Rattle.std.proofs.lemmas.List.{append-nil, nil_from_length}
use Rattle.view_sums.specs.Total.{Each}
use Rattle.view_sums.proofs.Eachs.{each-front, each-back}
use Rattle.reply_planner.specs.Owned.{IsStaging, key_buffers}
use Rattle.reply_planner.specs.Stages.{merged}
use Rattle.reply_planner.proofs.Kept.{buffers-append}
use Rattle.reply_planner.proofs.Merged.{merged-append, length-inserted}
use Rattle.reply_planner.proofs.stage.Stage.put_all.Goals as goal

pub put-requires : goal.put-requires
put-requires g c =
    let i = c.loop-hold.invariant in
    let rest = c.pop.new.self.items in
    let last : c.loop-hold.holds.items ≡ rest ++ c.in-Some.hold ∷ [] = c.in-Some.ensures.items in
    record {
      staging = (each-back (IsStaging g.N.PoolName.sizes) rest (c.in-Some.hold ∷ [])
          (subst (Each (IsStaging g.N.PoolName.sizes)) last i.staging)).0;
      room = omega (arith, i.room, ap length last, length-append rest (c.in-Some.hold ∷ []));
    }

pub loop-hold-preserved : goal.loop-hold-preserved
loop-hold-preserved g c =
    let i = c.loop-hold.invariant in
    let rest = c.pop.new.self.items in
    let hold = c.in-Some.hold in
    let last : c.loop-hold.holds.items ≡ rest ++ hold ∷ [] = c.in-Some.ensures.items in
    record {
      staging = each-front (IsStaging g.N.PoolName.sizes) rest (hold ∷ [])
          (subst (Each (IsStaging g.N.PoolName.sizes)) last i.staging);
      merged_so_far = i.merged_so_far ∙ ap (λ ks. merged (key_buffers ks) c.loop-hold.self) last
          ∙ ap (λ bs. merged bs c.loop-hold.self) (buffers-append rest (hold ∷ []))
          ∙ merged-append (key_buffers rest) (hold.buffer ∷ []) c.loop-hold.self ∙ ap (merged (key_buffers rest))
          (sym c.put.ensures);
      room = omega (
        arith,
        i.room,
        ap length last,
        length-append rest (hold ∷ []),
        ap length c.put.ensures,
        length-inserted hold.buffer c.loop-hold.self,
      );
    }

pub returns : goal.returns
returns g c =
    let i = c.loop-hold.invariant in
    let none : c.pop.new.self.items ≡ [] = nil_from_length c.pop.new.self.items
    (omega (arith, c.in_default.ensures.cases, c.in_default.ensures.len)) in
    let before : c.loop-hold.holds.items ≡ c.pop.new.self.items ++ [] = c.in_default.ensures.items in
    record {
      stage = sym (i.merged_so_far ∙ ap (λ ks. merged (key_buffers ks) c.loop-hold.self)
          (before ∙ append-nil c.pop.new.self.items ∙ none));
      none = none;
    }
