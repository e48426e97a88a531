use Rattle.std.proofs.Common.{◌≡◌, ◌+◌, ◌-◌, ◌++◌, length, take, drop, rules, sym, ap, ◌∙◌, subst, arith}
use Rattle.std.proofs.lemmas.List.{length-take, drop-drop, take-take}
use Rattle.any_wire.proofs.Sending.{sends-on, sends-same}
use Rattle.reply_planner.specs.Parcels.{Sent}
use Rattle.tx_ring.specs.Jobs.{frame_of}
use Rattle.device_model.specs.Framing.{text_behind, IsInText}
use Rattle.device_model.proofs.Framed.{cut-more}
use Rattle.device_model.proofs.framing.send_cut.Goals as goal

pub loop-done-init : goal.loop-done-init
loop-done-init g c =
    let p = frame_of c.args.job.now in
    let behind = text_behind g.N.PoolName.sizes p c.args.place.now.segment c.args.place.now.offset in
    let room = c.args.room.now in
    let first = c.first_piece_length-first.result in
    let size : length (take (16 + first) room) - 16 ≡ first =
    omega (arith, length-take (16 + first) room, c.told-room, c.first_piece_length-first.ensures.1) in
    record {
      within = c.first_piece_length-first.ensures.0;
      job = c.send_run-after.ensures.job;
      place = c.send_run-after.ensures.place;
      rest = c.send_run-after.ensures.rest ∙ ap (λ n. drop n behind) size;
      sends = sends-same _ _ _ _ _ _ _ _
          (ap (λ t. t ++ take (length (take (16 + first) room) - 16) behind)
          (take-take 16 (16 + first) room (omega arith))
          ∙ ap (λ n. take 16 room ++ take n behind) size)
          c.send_run-after.ensures.sends;
    }

pub loop-done-preserved : goal.loop-done-preserved
loop-done-preserved g c =
    let z = g.N.PoolName.sizes in
    let p = frame_of c.args.job.now in
    let behind = text_behind z p c.args.place.now.segment c.args.place.now.offset in
    let before = c.loop-done.invariant in
    let sent = c.send_run-after-in-loop-done in
    let old = c.loop-done.place in
    let new = sent.new.place in
    let done = c.loop-done.done in
    let n = c.min-count.result in
    let run = take n c.loop-done.room in
    let same : frame_of c.loop-done.job ≡ p = ap frame_of before.job in
    let here : text_behind z (frame_of c.loop-done.job) old.segment old.offset ≡ drop done behind =
    ap (λ (q : Sent). text_behind z q old.segment old.offset) same ∙ before.rest in
    let size : length run - 0 ≡ n = search (rules, length-take) in
    record {
      within = omega (arith, c.min-count.ensures, c.loop-done-test.true);
      job = sent.ensures.job ∙ before.job;
      place = subst (λ (q : Sent). IsInText q.segments new.segment new.offset) same sent.ensures.place;
      rest = ap (λ (q : Sent). text_behind z q new.segment new.offset) (sym same)
          ∙ sent.ensures.rest ∙ ap (drop (length run - 0)) here ∙ ap (λ k. drop k (drop done behind)) size
          ∙ drop-drop n done behind;
      sends = sends-same _ _ _ _ _ _ _ _ (cut-more (take 16 c.args.room.now) behind done n)
          (sends-on _ _ _ _ _ _ _ _ _ _ before.sends
          (sends-same _ _ _ _ _ _ _ _
          (ap (take (length run - 0)) here ∙ ap (λ k. take k (drop done behind)) size) sent.ensures.sends));
    }
