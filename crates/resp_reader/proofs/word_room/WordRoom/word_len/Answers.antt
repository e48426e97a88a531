use Rattle.std.proofs.Common.{rules, ◌≡◌, ◌∙◌, ap, length, arith}
use Rattle.std.proofs.lemmas.List.{length-drop}
use Rattle.resp_reader.specs.WordRoom.{last_end}
use Rattle.resp_reader.proofs.Rooms.{last_end-le}
use Rattle.resp_reader.proofs.word_room.WordRoom.word_len.Goals as goal

pub overflow_sub-result : goal.overflow_sub-result
overflow_sub-result c =
    let room = c.self.inside in
    let len : c.len.result ≡ length room.bytes.items = search rules in
    let start : c.next_start.result ≡ last_end 0 room.spans.items = c.next_start.ensures
    ∙ ap (last_end 0) c.deref.ensures.value in
    omega (arith, last_end-le 0 room.spans.items (length room.bytes.items) c.self.invariant)

pub returns : goal.returns
returns c =
    let room = c.self.inside in
    let len : c.len.result ≡ length room.bytes.items = search rules in
    let start : c.next_start.result ≡ last_end 0 room.spans.items = c.next_start.ensures
    ∙ ap (last_end 0) c.deref.ensures.value in
    omega (arith, length-drop (last_end 0 room.spans.items) room.bytes.items, ap (λ r. length r.word) c.self.view_is)
