use Rattle.std.proofs.Common.{◌+◌, ◌∷◌, ◌++◌, [], refl, sym, ap, ◌∙◌, arith}
use Rattle.session_pass.proofs.Telling.{taken_more}
use Rattle.session_pass.proofs.ready.copy.Goals as goal

pub loop-i-preserved : goal.loop-i-preserved
loop-i-preserved c = record {
  told = c.push_reserved.ensures.items ∙ ap (λ l. l ++ c.get.result.now ∷ []) c.loop-i.invariant.told
      ∙ sym (taken_more c.args.list.now.items c.loop-i.i (c.loop-i.i + 1) c.get.result.now refl c.get.ensures.item);
  count = omega (arith, c.push_reserved.ensures.len, c.loop-i.invariant.count);
  room = omega (arith, c.push_reserved.ensures.capacity, c.loop-i.invariant.room);
}
