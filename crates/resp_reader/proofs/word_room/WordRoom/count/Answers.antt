use Rattle.std.proofs.Common.{rules, ◌≡◌, length, sym, ap, ◌∙◌}
use Rattle.resp_reader.proofs.Rooms.{length-words_at}
use Rattle.resp_reader.proofs.word_room.WordRoom.count.Goals as goal

pub returns : goal.returns
returns c =
    let room = c.self.inside in
    let count : c.len.result ≡ length room.spans.items = search rules in
    count ∙ sym (length-words_at room.spans.items room.bytes.items) ∙ ap (λ r. length r.words) c.self.view_is
