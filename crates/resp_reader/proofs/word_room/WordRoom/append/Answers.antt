use Rattle.std.proofs.Common.{◌++◌, ◌∙◌, ap, sym, drop, length, subst}
use Rattle.resp_reader.specs.WordRoom.{AreSpans, words_at, last_end, held}
use Rattle.resp_reader.proofs.Rooms.{appended, spans_more}
use Rattle.resp_reader.proofs.word_room.WordRoom.append.Goals as goal

pub invariant_of-self-2 : goal.invariant_of-self-2
invariant_of-self-2 c =
    let room = c.self.inside in
    subst (λ b. AreSpans 0 room.spans.items (length b)) (sym c.in_ok-extend_from_slice.ensures.items)
    (spans_more room.spans.items room.bytes.items c.args.bytes.now c.self.invariant)

pub returns-clause-ok : goal.returns-clause-ok
returns-clause-ok c =
    let room = c.self.inside in
    ap (λ b. held (words_at room.spans.items b) (drop (last_end 0 room.spans.items) b))
    c.in_ok-extend_from_slice.ensures.items
    ∙ appended room.spans.items room.bytes.items c.args.bytes.now c.self.invariant
    ∙ ap (λ r. held r.words (r.word ++ c.args.bytes.now)) (c.self.view_is ∙ c.make_room.ensures)
