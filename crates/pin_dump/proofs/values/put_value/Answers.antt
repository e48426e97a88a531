use Rattle.std.proofs.Common.{◌≡◌, ℕ, ◌≤◌, length, sym, ap, ◌∙◌, arith}
use Rattle.std.proofs.lemmas.List.{take_all}
use Rattle.any_wire.proofs.Sending.{sends-on, sends-same}
use Rattle.view_sums.specs.Total.{total}
use Rattle.pin_core.specs.Holding.{at}
use Rattle.pinned_pool.specs.Moves.{front_of}
use Rattle.pinned_pool.specs.declared.view.View.{View}
use Rattle.frag_value.specs.Values.{frag_bytes, value_bytes}
use Rattle.frag_value.proofs.PinSteps.{bytes_more}
use Rattle.pin_dump.proofs.PutSteps.{pinned-held, pinned-filled}
use Rattle.pin_dump.proofs.values.put_value.Goals as goal

pub put_frag-after-requires-clause-held : goal.put_frag-after-requires-clause-held
put_frag-after-requires-clause-held g c =
    let hs = c.args.seat.now.holds in
    omega (
      arith,
      pinned-held hs c.args.value.now c.loop-i.i _ c.requires.value c.frag-frag.ensures.part,
      ap (λ (v : View). total (at c.buffer-buffer.result) v.holds) c.loop-i.invariant.seat,
      ap (λ (k : ℕ). total (at k) hs) c.buffer-buffer.ensures.buffer,
    )

pub put_frag-after-requires-clause-filled : goal.put_frag-after-requires-clause-filled
put_frag-after-requires-clause-filled g c =
    let hs = c.args.seat.now.holds in
    omega (
      arith,
      pinned-filled hs c.args.value.now c.loop-i.i _ c.requires.value c.frag-frag.ensures.part,
      ap (λ (v : View). length (front_of c.buffer-buffer.result v.holds)) c.loop-i.invariant.seat,
      ap (λ (k : ℕ). length (front_of k hs)) c.buffer-buffer.ensures.buffer,
    )

pub loop-i-preserved : goal.loop-i-preserved
loop-i-preserved g c =
    let before = c.loop-i.invariant in
    let hs = c.args.seat.now.holds in
    let n = c.frag-frag.result.now.len in
    let bytes : frag_bytes c.loop-i.seat.holds (c.buffer-buffer.result, n) ≡ frag_bytes hs
    (c.frag-frag.result.now.hold.buffer, n) =
    λ i. frag_bytes (let s : View = before.seat i in s.holds) (c.buffer-buffer.ensures.buffer i, n) in
    record {
      seat = c.put_frag-after.ensures.seat ∙ before.seat;
      puts = sends-same _ _ _ _ _ _ _ _ (sym (bytes_more hs c.args.value.now c.loop-i.i _ c.frag-frag.ensures.part))
          (sends-on _ _ _ _ _ _ _ _ _ _ before.puts (sends-same _ _ _ _ _ _ _ _ bytes c.put_frag-after.ensures.puts));
    }

pub returns-clause-puts : goal.returns-clause-puts
returns-clause-puts g c =
    let all : length c.args.value.now ≤ c.loop-i.i = omega (arith, c.loop-i-test.false, c.count-i-end.ensures) in
    sends-same _ _ _ _ _ _ _ _ (ap (value_bytes c.args.seat.now.holds) (take_all c.loop-i.i c.args.value.now all))
    c.loop-i.invariant.puts
