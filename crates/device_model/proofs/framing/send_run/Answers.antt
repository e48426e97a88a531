use Rattle.std.proofs.Common.{◌≡◌, ◌-◌, ◌++◌, length, take, ap, ◌∙◌, length-append, arith}
use Rattle.std.proofs.lemmas.List.{length-take, length-drop, take_rest}
use borrow.Rule.Slice.PartMut.{put_mid}
use Rattle.any_wire.proofs.Sending.{sends-put, sends-same}
use Rattle.tx_ring.specs.Jobs.{frame_of}
use Rattle.device_model.specs.Framing.{text_behind}
use Rattle.device_model.proofs.Framed.{filled-end}
use Rattle.device_model.proofs.framing.send_run.Goals as goal

pub returns-clause-sends : goal.returns-clause-sends
returns-clause-sends g c =
    let p = frame_of c.args.job.now in
    let behind = text_behind g.N.PoolName.sizes p c.args.place.now.segment c.args.place.now.offset in
    let room = c.args.room.now in
    let front = c.args.front in
    let piece = put_mid front (length room - front) room c.load_text.new.room in
    let wrote : c.load_text.new.room ≡ take (length room - front) behind =
    c.load_text.ensures.bytes ∙ ap (λ n. take n behind) (ap length (take_rest room front) ∙ length-drop front room) in
    let whole : piece ≡ take front room ++ take (length room - front) behind =
    filled-end front room c.load_text.new.room ∙ ap (λ t. take front room ++ t) wrote in
    let size : length piece ≡ length room = omega (
      arith,
      ap length whole,
      length-append (take front room) (take (length room - front) behind),
      length-take front room,
      length-take (length room - front) behind,
      c.requires.front,
      c.requires.len,
    ) in
    sends-same _ _ _ _ piece _ _ _ whole
    (sends-put _ _ _ _ piece _ _
    (omega (arith, size, c.requires.count.0), omega (arith, size, c.requires.count.1))
    c.put_unless_failed.ensures)
