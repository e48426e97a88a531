use Rattle.std.proofs.Common.{rules, ◌≡◌, ◌<◌, length, take, drop, sym, ap, ◌∙◌, subst, arith}
use Rattle.std.proofs.lemmas.List.{length-take}
use Rattle.any_wire.proofs.Sending.{sends-on, sends-same}
use Rattle.view_sums.specs.Total.{total}
use Rattle.pin_core.specs.Holding.{at}
use Rattle.pinned_pool.specs.Bytes.{bytes_of_words}
use Rattle.pinned_pool.specs.Moves.{front_of}
use Rattle.pinned_pool.specs.declared.view.View.{View}
use Rattle.pin_dump.proofs.PutSteps.{piece-more}
use Rattle.pin_dump.proofs.values.put_frag.Goals as goal

pub put_piece-after-requires-clause-held : goal.put_piece-after-requires-clause-held
put_piece-after-requires-clause-held g c = subst (λ (v : View). 0 < total (at c.args.buffer) v.holds) (sym
    c.loop-done.invariant.seat) c.requires.held

pub put_piece-after-requires-clause-inside : goal.put_piece-after-requires-clause-inside
put_piece-after-requires-clause-inside g c =
    let size : length (take c.min-count.result c.loop-done.room) ≡ c.min-count.result = search (rules, length-take) in
    omega (
      arith,
      size,
      c.min-count.ensures,
      c.loop-done-test.true,
      c.requires.filled,
      ap (λ (v : View). length (front_of c.args.buffer v.holds)) c.loop-done.invariant.seat,
    )

pub loop-done-preserved : goal.loop-done-preserved
loop-done-preserved g c =
    let before = c.loop-done.invariant in
    let hs = c.args.seat.now.holds in
    let b = c.args.buffer in
    let done = c.loop-done.done in
    let n = c.min-count.result in
    let size : length (take n c.loop-done.room) ≡ n = search (rules, length-take) in
    let bytes : take (length (take n c.loop-done.room)) (drop done (bytes_of_words (front_of b
    c.loop-done.seat.holds))) ≡ take n (drop done (bytes_of_words (front_of b hs))) =
    λ i. take (size i) (drop done (bytes_of_words (front_of b (let s : View = before.seat i in s.holds)))) in
    record {
      seat = c.put_piece-after.ensures.seat ∙ before.seat;
      within = omega (arith, c.min-count.ensures, c.loop-done-test.true);
      puts = sends-same _ _ _ _ _ _ _ _ (piece-more (bytes_of_words (front_of b hs)) done n)
          (sends-on _ _ _ _ _ _ _ _ _ _ before.puts (sends-same _ _ _ _ _ _ _ _ bytes c.put_piece-after.ensures.puts));
    }
