use Rattle.std.proofs.Common.{◌≡◌, ℕ, List, Some, length, refl, sym, ap, ◌∙◌, subst, arith}
use Rattle.std.specs.List.{slice_get}
use Rattle.std.proofs.lemmas.Option.{slice_get_read}
use Rattle.any_wire.proofs.Sending.{sends-on, sends-same}
use Rattle.pinned_pool.specs.declared.view.View.{View}
use Rattle.dump_model.specs.Dump.{set_text}
use Rattle.frag_value.specs.Values.{value_bytes}
use Rattle.frag_value.specs.Pins.{KeyFrags, IsPinned}
use Rattle.pin_dump.proofs.Texts.{pairs_more, part_pinned}
use Rattle.pin_dump.proofs.pairs.put_pairs.Goals as goal

pub put_pair-after-requires-clause-value : goal.put_pair-after-requires-clause-value
put_pair-after-requires-clause-value g c =
    let x = c.index-pairs-i.result in
    let at : slice_get c.args.pairs.now c.loop-i.i ≡ Some x =
    slice_get_read c.args.pairs.now (length c.args.pairs.now) c.loop-i.i x refl (omega (arith, c.loop-i-test.true))
    c.index-pairs-i.is in
    subst (λ (v : View). IsPinned v.holds x.1) (sym c.loop-i.invariant.seat)
    (part_pinned c.args.seat.now.holds c.args.pairs.now c.loop-i.i x at c.requires.values)

pub loop-i-preserved : goal.loop-i-preserved
loop-i-preserved g c =
    let before = c.loop-i.invariant in
    let hs = c.args.seat.now.holds in
    let x = c.index-pairs-i.result in
    let shows : KeyFrags → List ℕ × List ℕ = λ p. (p.0, value_bytes hs p.1) in
    let at : slice_get c.args.pairs.now c.loop-i.i ≡ Some x =
    slice_get_read c.args.pairs.now (length c.args.pairs.now) c.loop-i.i x refl (omega (arith, c.loop-i-test.true))
    c.index-pairs-i.is in
    let text = ap (λ (v : View). set_text (x.0, value_bytes v.holds x.1)) before.seat in
    record {
      seat = c.put_pair-after.ensures.seat ∙ before.seat;
      puts = sends-same _ _ _ _ _ _ _ _ (pairs_more shows c.args.pairs.now c.loop-i.i x at)
          (sends-on _ _ _ _ _ _ _ _ _ _ before.puts
          (sends-same _ _ _ _ _ _ _ _ text c.put_pair-after.ensures.puts));
    }
