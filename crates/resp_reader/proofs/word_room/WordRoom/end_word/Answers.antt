use Rattle.std.proofs.Common.{rules, ◌≡◌, ◌++◌, ◌∷◌, [], ◌∙◌, ap, sym, drop, length, subst, arith}
use Rattle.resp_reader.specs.declared.word_room.Span.{Span}
use Rattle.resp_reader.specs.WordRoom.{AreSpans, words_at, last_end, held}
use Rattle.resp_reader.proofs.Rooms.{ended, spans_push, last_end-le}
use Rattle.resp_reader.proofs.word_room.WordRoom.end_word.Goals as goal

pub invariant_of-self-2 : goal.invariant_of-self-2
invariant_of-self-2 c =
    let room = c.self.inside in
    let end : c.len.result ≡ length room.bytes.items = search rules in
    let start : c.next_start.result ≡ last_end 0 room.spans.items = c.next_start.ensures
    ∙ ap (last_end 0) c.deref.ensures.value in
    let span : Span = record { start = c.next_start.result; end = c.len.result } in
    subst (λ es. AreSpans 0 es (length room.bytes.items)) (sym c.in_ok-push.ensures.items)
    (spans_push 0 room.spans.items span (length room.bytes.items) (length room.bytes.items) c.self.invariant
    (omega arith) (omega (arith, last_end-le 0 room.spans.items (length room.bytes.items) c.self.invariant))
    (omega arith))

pub returns-clause-ok : goal.returns-clause-ok
returns-clause-ok c =
    let room = c.self.inside in
    let end : c.len.result ≡ length room.bytes.items = search rules in
    let start : c.next_start.result ≡ last_end 0 room.spans.items = c.next_start.ensures
    ∙ ap (last_end 0) c.deref.ensures.value in
    let span : Span = record { start = c.next_start.result; end = c.len.result } in
    ap (λ es. held (words_at es room.bytes.items) (drop (last_end 0 es) room.bytes.items)) c.in_ok-push.ensures.items
    ∙ ended room.spans.items room.bytes.items span c.self.invariant start end
    ∙ ap (λ r. held (r.words ++ r.word ∷ []) []) c.self.view_is
