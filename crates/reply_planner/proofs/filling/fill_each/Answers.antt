use Rattle.std.proofs.Common.{◌≡◌, ℕ, ◌-◌, ◌*◌, ◌<◌, min, length, take, drop, get_or, sym, ap, ◌∙◌, subst, arith}
use Rattle.std.proofs.lemmas.List.{length-map, length-take, length-drop, get_or-map, take_min}
use Rattle.view_sums.specs.Total.{total}
use Rattle.pin_core.specs.Holding.{Key, sole_at}
use Rattle.pinned_pool.specs.Bytes.{PutsBytes}
use Rattle.reply_planner.specs.Owned.{key_buffers}
use Rattle.reply_planner.proofs.FilledEach.{piece, among-at, own_now, filled_none, filled_more, filled_all}
use Rattle.reply_planner.proofs.Owned.{own_there}
use Rattle.reply_planner.proofs.filling.fill_each.Goals as goal

pub loop-i-init : goal.loop-i-init
loop-i-init g c = filled_none c.args.text.now (key_buffers c.args.staged.now) c.args.seat.now

pub put_bytes-requires-clause-exclusive : goal.put_bytes-requires-clause-exclusive
put_bytes-requires-clause-exclusive g c =
    let bs = key_buffers c.args.staged.now in
    let i = c.loop-i.i in
    let k = c.index-staged-i.result in
    let near : i < length c.args.staged.now =
    omega (arith, c.loop-i-test.true, c.requires.fits, c.div_ceil-used.ensures) in
    let here : get_or bs i 0 ≡ k.buffer = get_or-map (λ (j : Key). j.buffer) c.args.staged.now i k 0 near
    ∙ ap (λ (j : Key). j.buffer) (sym c.index-staged-i.is) in
    let mine = own_now c.args.text.now bs i c.args.seat.now c.loop-i.seat c.loop-i.invariant c.requires.own in
    subst (λ n. 0 < total (sole_at n) c.loop-i.seat.holds) here
    (own_there c.loop-i.seat.holds bs (get_or bs i 0) mine
    (among-at bs i (omega (arith, near, length-map {B = ℕ} c.args.staged.now (λ (j : Key). j.buffer)))))

pub loop-i-preserved : goal.loop-i-preserved
loop-i-preserved g c =
    let bs = key_buffers c.args.staged.now in
    let i = c.loop-i.i in
    let k = c.index-staged-i.result in
    let near : i < length c.args.staged.now =
    omega (arith, c.loop-i-test.true, c.requires.fits, c.div_ceil-used.ensures) in
    let here : get_or bs i 0 ≡ k.buffer = get_or-map (λ (j : Key). j.buffer) c.args.staged.now i k 0 near
    ∙ ap (λ (j : Key). j.buffer) (sym c.index-staged-i.is) in
    let text = c.args.text.now in
    let rest = drop (512 * i) text in
    let bytes = take (c.min-to.result - 512 * i) rest in
    let count : c.min-to.result - 512 * i ≡ min 512 (length rest) =
    omega (arith, c.min-to.ensures, length-drop (512 * i) text, c.loop-i-test.true, c.div_ceil-used.ensures) in
    let is : bytes ≡ piece text i = ap (λ n. take n rest) count ∙ take_min 512 rest in
    let some : 0 < length bytes =
    omega (
      arith,
      ap length is,
      length-take 512 rest,
      length-drop (512 * i) text,
      c.loop-i-test.true,
      c.div_ceil-used.ensures,
    ) in
    filled_more text bs i c.args.seat.now c.loop-i.seat c.put_bytes.new.seat c.loop-i.invariant
    (omega (arith, near, length-map {B = ℕ} c.args.staged.now (λ (j : Key). j.buffer))) c.requires.own
    c.is_seat.ensures.loose bytes is some
    (subst (λ b. PutsBytes b 0 bytes c.loop-i.seat c.put_bytes.new.seat) (sym here) c.put_bytes.ensures)

pub returns : goal.returns
returns g c = record {
  filled = filled_all c.args.text.now (key_buffers c.args.staged.now) c.loop-i.i c.args.seat.now
      c.loop-i.seat (omega (arith, c.loop-i-test.false, c.div_ceil-used.ensures)) c.loop-i.invariant;
}
