use Rattle.std.proofs.Common.{◌≡◌, ℕ, ◌+◌, ◌-◌, ◌≤◌, length, take, drop, subst, arith}
use Rattle.std.proofs.lemmas.List.{length-take, length-drop, take_all}
use Rattle.any_wire.specs.Sends.{Puts}
use Rattle.any_wire.proofs.Sending.{sends-put, sends-on, sends-same}
use Rattle.pin_dump.proofs.Texts.{piece_more}
use Rattle.pin_dump.proofs.putting.put_bytes.Goals as goal

pub loop-done-preserved : goal.loop-done-preserved
loop-done-preserved g c =
    let before = c.loop-done.invariant in
    let bytes = c.args.bytes.now in
    let done = c.loop-done.done in
    let n = c.min-count.result in
    let size : done + n - done ≡ n = omega arith in
    let piece = take n (drop done bytes) in
    let long : length piece ≡ n = omega (
      arith,
      length-take n (drop done bytes),
      length-drop done bytes,
      c.min-count.ensures,
      c.loop-done-test.true,
    ) in
    let put = subst (λ (k : ℕ). Puts (g.C.WireCalls.put_may c.args.calls.now) c.loop-done.has_failed
    c.put_unless_failed-after.result.1 (take k (drop done bytes)) c.loop-done.wire c.put_unless_failed-after.result.0)
    size c.put_unless_failed-after.ensures in
    record {
      within = omega (arith, c.min-count.ensures, c.loop-done-test.true);
      puts = sends-same _ _ _ _ _ _ _ _ (piece_more bytes done n)
          (sends-on _ _ _ _ _ _ _ _ _ _ before.puts
          (sends-put (g.C.WireCalls.put_may c.args.calls.now) (λ w r. ⊥) c.loop-done.has_failed
          c.put_unless_failed-after.result.1 piece c.loop-done.wire c.put_unless_failed-after.result.0 (
            omega (arith, long, c.min-count.ensures, c.loop-done-test.true),
            omega (
              arith,
              long,
              c.min-count.ensures,
            ),
          ) put));
    }

pub returns : goal.returns
returns g c =
    let all : length c.args.bytes.now ≤ c.loop-done.done = omega (arith, c.loop-done-test.false) in
    sends-same _ _ _ _ _ _ _ _ (take_all c.loop-done.done c.args.bytes.now all) c.loop-done.invariant.puts
