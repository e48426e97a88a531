use Rattle.std.proofs.Common.{◌≡◌, ◌≤◌, ◌+◌, ◌++◌, ◌∙◌, ap, sym, take, drop, length, subst, arith, List, ℕ}
use Rattle.std.proofs.Common.{length-append}
use Rattle.std.proofs.lemmas.List.{length-take-le}
use Rattle.resp_reader.specs.WordRoom.{AreSpans, GrowsFrom, words_at, last_end, word_start, held}
use Rattle.resp_reader.proofs.Rooms.{back_at, spans_back, kept_bytes, word_start-le}
use Rattle.resp_reader.proofs.word_room.WordRoom.back.Goals as goal

pub close-requires : goal.close-requires
close-requires c =
    let room = c.self.inside in
    let some = take c.args.count room.spans.items in
    let lies = word_start-le 0 room.spans.items (length room.bytes.items) c.args.count c.self.invariant in
    let word : c.start_of-word.result ≡ word_start 0 room.spans.items c.args.count = c.start_of-word.ensures
    ∙ ap (λ s. word_start 0 s c.args.count) c.deref.ensures.value in
    let start : c.next_start-start.result ≡ last_end 0 some = c.next_start-start.ensures
    ∙ ap (last_end 0) (c.deref-2.ensures.value ∙ c.truncate.ensures.items) in
    record { ordered = omega (arith, lies, word, start); within = omega (arith, lies, word) }

pub cut-requires : goal.cut-requires
cut-requires c =
    let room = c.self.inside in
    let some = take c.args.count room.spans.items in
    let lies = word_start-le 0 room.spans.items (length room.bytes.items) c.args.count c.self.invariant in
    let start : c.next_start-start.result ≡ last_end 0 some = c.next_start-start.ensures
    ∙ ap (last_end 0) (c.deref-2.ensures.value ∙ c.truncate.ensures.items) in
    let within : c.next_start-start.result ≤ length room.bytes.items = omega (arith, lies, start) in
    omega (
      arith,
      ap length c.close.ensures,
      length-append (take c.next_start-start.result room.bytes.items) (drop c.start_of-word.result room.bytes.items),
      length-take-le c.next_start-start.result room.bytes.items within,
    )

pub invariant_of-self : goal.invariant_of-self
invariant_of-self c =
    let room = c.self.inside in
    let some = take c.args.count room.spans.items in
    let word : c.start_of-word.result ≡ word_start 0 room.spans.items c.args.count = c.start_of-word.ensures
    ∙ ap (λ s. word_start 0 s c.args.count) c.deref.ensures.value in
    let start : c.next_start-start.result ≡ last_end 0 some = c.next_start-start.ensures
    ∙ ap (last_end 0) (c.deref-2.ensures.value ∙ c.truncate.ensures.items) in
    let b : List ℕ = room.bytes.items in
    let bytes : c.cut.new.bytes.items ≡ kept_bytes room.spans.items room.bytes.items c.args.count c.args.len =
    c.cut.ensures ∙ ap (take (c.next_start-start.result + c.args.len)) c.close.ensures
    ∙ ap (λ s. take (s + c.args.len) (take s b ++ drop c.start_of-word.result b)) start
    ∙ ap (λ w. take (last_end 0 some + c.args.len) (take (last_end 0 some) b ++ drop w b)) word in
    subst (λ es. AreSpans 0 es (length c.cut.new.bytes.items)) (sym c.truncate.ensures.items)
    (subst (λ (t : List ℕ). AreSpans 0 some (length t)) (sym bytes)
    (spans_back room.spans.items room.bytes.items c.args.count c.args.len c.self.invariant))

pub returns : goal.returns
returns c words word_now count len grows =
    let room = c.self.inside in
    let some = take c.args.count room.spans.items in
    let word : c.start_of-word.result ≡ word_start 0 room.spans.items c.args.count = c.start_of-word.ensures
    ∙ ap (λ s. word_start 0 s c.args.count) c.deref.ensures.value in
    let start : c.next_start-start.result ≡ last_end 0 some = c.next_start-start.ensures
    ∙ ap (last_end 0) (c.deref-2.ensures.value ∙ c.truncate.ensures.items) in
    let b : List ℕ = room.bytes.items in
    let bytes : c.cut.new.bytes.items ≡ kept_bytes room.spans.items room.bytes.items c.args.count c.args.len =
    c.cut.ensures ∙ ap (take (c.next_start-start.result + c.args.len)) c.close.ensures
    ∙ ap (λ s. take (s + c.args.len) (take s b ++ drop c.start_of-word.result b)) start
    ∙ ap (λ w. take (last_end 0 some + c.args.len) (take (last_end 0 some) b ++ drop w b)) word in
    let grown : GrowsFrom words word_now (words_at room.spans.items room.bytes.items)
    (drop (last_end 0 room.spans.items) room.bytes.items)
    = subst (λ r. GrowsFrom words word_now r.words r.word) (sym c.self.view_is) grows in
    let Back : ℕ → ℕ → Type 0 = λ n m.
    held (words_at (take n room.spans.items) (kept_bytes room.spans.items b n m))
    (drop (last_end 0 (take n room.spans.items)) (kept_bytes room.spans.items b n m)) ≡ held words word_now in
    ap (λ es. held (words_at es c.cut.new.bytes.items) (drop (last_end 0 es) c.cut.new.bytes.items))
    c.truncate.ensures.items
    ∙ ap (λ (t : List ℕ). held (words_at some t) (drop (last_end 0 some) t)) bytes
    ∙ subst (λ m. Back c.args.count m) len
    (subst (λ n. Back n (length word_now)) count
    (back_at room.spans.items room.bytes.items words word_now c.self.invariant grown))
