use Rattle.std.proofs.Common.{◌≡◌, [], ◌∷◌, ◌+◌, Some, length, take, refl, ap, ◌∙◌, arith}
use Rattle.std.specs.List.{slice_get}
use Rattle.std.proofs.lemmas.Option.{slice_get_read}
use Rattle.view_sums.proofs.Sums.{total-append}
use Rattle.frag_value.proofs.Lists.{take-more}
use Rattle.pin_dump.specs.Dumps.{pair_length, pairs_length}
use Rattle.pin_dump.proofs.sizes.pairs_size.Goals as goal

pub loop-i-preserved : goal.loop-i-preserved
loop-i-preserved g c =
    let pairs = c.args.pairs.now in
    let k = c.loop-i.i in
    let x = c.index-pairs-i.result in
    let at : slice_get pairs k ≡ Some x =
    slice_get_read pairs (length pairs) k x refl (omega (arith, c.loop-i-test.true)) c.index-pairs-i.is in
    let more : pairs_length (take (k + 1) pairs) ≡ pairs_length (take k pairs) + (pair_length x + 0) =
    ap pairs_length (take-more pairs k x at) ∙ total-append pair_length (take k pairs) (x ∷ []) in
    omega (arith, more, c.loop-i.invariant, c.pair_size.ensures, c.saturating_add-size.ensures)
