use Rattle.std.proofs.Common.{◌≡◌, ◌<◌, length, get_or, sym, ap, ◌∙◌, subst, arith}
use Rattle.std.proofs.lemmas.Bool.{eqb-false}
use Rattle.std.proofs.lemmas.List.{length-map, get_or-map, take_all}
use Rattle.view_sums.specs.Total.{total}
use Rattle.pin_core.specs.Holding.{Key, sole_at}
use Rattle.pinned_pool.specs.Bytes.{PutsBytes}
use Rattle.reply_planner.specs.Owned.{key_buffers}
use Rattle.reply_planner.proofs.FilledEach.{piece, among-at, filled_none, filled_more, filled_all}
use Rattle.reply_planner.proofs.Owned.{own_there}
use Rattle.reply_planner.proofs.filling.fill.Goals as goal

pub put_bytes-requires-clause-exclusive : goal.put_bytes-requires-clause-exclusive
put_bytes-requires-clause-exclusive g c =
    let bs = key_buffers c.args.staged.now in
    let k = c.index-staged-0.result in
    let filled = eqb-false (length c.args.text.now) 0 (sym c.is_empty.ensures ∙ c.if-is_empty.false) in
    let near : 0 < length c.args.staged.now = omega (arith, filled, c.requires.fits) in
    let here : get_or bs 0 0 ≡ k.buffer = get_or-map (λ (j : Key). j.buffer) c.args.staged.now 0 k 0 near
    ∙ ap (λ (j : Key). j.buffer) (sym c.index-staged-0.is) in
    subst (λ n. 0 < total (sole_at n) c.args.seat.now.holds) here
    (own_there c.args.seat.now.holds bs (get_or bs 0 0) c.requires.own
    (among-at bs 0 (omega (arith, near, length-map c.args.staged.now (λ (j : Key). j.buffer)))))

pub returns : goal.returns
returns g c =
    let bs = key_buffers c.args.staged.now in
    let text = c.args.text.now in
    let k = c.index-staged-0.result in
    let filled = eqb-false (length text) 0 (sym c.is_empty.ensures ∙ c.if-is_empty.false) in
    let some : 0 < length text = omega (arith, filled) in
    let near : 0 < length c.args.staged.now = omega (arith, some, c.requires.fits) in
    let here : get_or bs 0 0 ≡ k.buffer = get_or-map (λ (j : Key). j.buffer) c.args.staged.now 0 k 0 near
    ∙ ap (λ (j : Key). j.buffer) (sym c.index-staged-0.is) in
    let is : text ≡ piece text 0 = sym (take_all 512 text c.if-text-gt512.false) in
    record {
      filled = filled_all text bs 1 c.args.seat.now c.put_bytes.new.seat c.if-text-gt512.false
          (filled_more text bs 0 c.args.seat.now c.args.seat.now c.put_bytes.new.seat
          (filled_none text bs c.args.seat.now)
          (omega (arith, near, length-map c.args.staged.now (λ (j : Key). j.buffer))) c.requires.own
          c.is_seat.ensures.loose text is some
          (subst (λ b. PutsBytes b 0 text c.args.seat.now c.put_bytes.new.seat) (sym here) c.put_bytes.ensures));
    }
