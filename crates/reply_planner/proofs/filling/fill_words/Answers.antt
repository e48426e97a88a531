use Rattle.std.proofs.Common.{◌≡◌, ◌∙◌, ap, length, take}
use Rattle.std.proofs.lemmas.List.{take-take}
use Rattle.reply_planner.specs.Owned.{key_buffers}
use Rattle.reply_planner.proofs.FilledEach.{filled_front}
use Rattle.reply_planner.proofs.filling.fill_words.Goals as goal

pub returns : goal.returns
returns g c =
    let text = c.args.text.now.items in
    let end = c.pad-end.result in
    let more = c.deref.result.now in
    let front : take (length text) (take end more) ≡ text = take-take (length text) end more c.pad-end.ensures.end.0
    ∙ ap (take (length text)) c.deref.ensures.value ∙ c.pad-end.ensures.before in
    record {
      filled = filled_front text (take end more) (key_buffers c.args.staged.now) c.args.seat.now c.fill.new.seat front
          c.fill.ensures.filled;
    }
