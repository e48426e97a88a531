use Rattle.std.proofs.Common.{length, ap, arith}
use Rattle.resp_reader.proofs.Rooms.{length-words_at}
use Rattle.resp_reader.proofs.word_room.WordRoom.word.Goals as goal

pub word_of-requires-clause-below : goal.word_of-requires-clause-below
word_of-requires-clause-below c =
    let room = c.self.inside in
    omega (
      arith,
      c.requires,
      ap (λ r. length r.words) c.self.view_is,
      length-words_at room.spans.items
          room.bytes.items,
      ap length c.deref-2.ensures.value,
    )
