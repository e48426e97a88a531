use Rattle.std.proofs.Common.{◌≡◌, ◌+◌, ◌-◌, ◌++◌, length, take, drop, rules, sym, ap, ◌∙◌, subst, arith}
use Rattle.std.proofs.lemmas.List.{length-take, length-drop, drop-drop}
use borrow.Rule.Slice.PartMut.{put_mid}
use Rattle.reply_planner.specs.Parcels.{Sent}
use Rattle.tx_ring.specs.Jobs.{frame_of}
use Rattle.device_model.specs.Framing.{text_behind, IsInText}
use Rattle.device_model.proofs.Framed.{filled-more}
use Rattle.device_model.proofs.framing.load_text.Goals as goal

pub loop-done-preserved : goal.loop-done-preserved
loop-done-preserved g c =
    let z = g.N.PoolName.sizes in
    let p = frame_of c.args.job.now in
    let behind = text_behind z p c.args.place.now.segment c.args.place.now.offset in
    let before = c.loop-done.invariant in
    let old = c.loop-done.place in
    let new = c.load_part-done.new.place in
    let room = c.loop-done.room in
    let done = c.loop-done.done in
    let n = c.load_part-done.result in
    let same : frame_of c.loop-done.job ≡ p = ap frame_of before.job in
    let here : text_behind z (frame_of c.loop-done.job) old.segment old.offset ≡ drop done behind =
    ap (λ (q : Sent). text_behind z q old.segment old.offset) same ∙ before.rest in
    let over = drop n (take (length room - done) (drop done room)) in
    let wrote : c.load_part-done.new.room ≡ take n (drop done behind) ++ over =
    c.load_part-done.ensures.bytes ∙ ap (λ t. take n t ++ over) here in
    record {
      within = search rules;
      job = search rules;
      place = subst (λ (q : Sent). IsInText q.segments new.segment new.offset) same c.load_part-done.ensures.place;
      rest = ap (λ (q : Sent). text_behind z q new.segment new.offset) (sym same)
          ∙ c.load_part-done.ensures.rest ∙ ap (drop n) here ∙ drop-drop n done behind;
      bytes = ap (λ t. take (done + n) (put_mid done (length room - done) room t)) wrote
          ∙ filled-more done n room over _ behind
          (omega (arith, c.loop-done-test.true))
          (omega (
            arith,
            length-drop done behind,
            c.load_part-done.ensures.count,
            c.requires.len,
            length-take (length room - done) (drop done room),
            length-drop done room,
            c.loop-done.auto.room,
            c.loop-done-test.true,
          ))
          before.bytes;
    }
