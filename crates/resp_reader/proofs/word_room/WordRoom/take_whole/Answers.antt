use Rattle.std.proofs.Common.{rules, ◌≡◌, ◌++◌, ◌∙◌, [], ap, sym, drop, length, subst, arith}
use Rattle.std.proofs.lemmas.List.{drop_all}
use Rattle.flake_model.specs.Fronts.{array_front}
use Rattle.resp_reader.specs.WordRoom.{AreSpans, AreWordsOf, Finds, words_at, last_end}
use Rattle.resp_reader.proofs.Rooms.{same_grows, no_word}
use Rattle.resp_reader.proofs.word_room.WordRoom.take_whole.Goals as goal

pub invariant_of-self-in_default : goal.invariant_of-self-in_default
invariant_of-self-in_default c =
    let room = c.self.inside in
    let n = c.len.result in
    let long : n ≡ length room.bytes.items = search rules in
    let none : drop (last_end 0 room.spans.items) room.bytes.items ≡ [] = ap (λ r. r.word) c.self.view_is
    ∙ c.requires.word in
    let found : Finds c.args.count room.bytes.items room.spans.items c.find_words.new.spans.items c.args.bytes.now
    c.in-Ok.found.0.now c.in-Ok.found.1.now = c.in-Ok.ensures.ok room.bytes.items (sym long)
    (subst (λ m. AreSpans 0 room.spans.items m) (sym long) c.self.invariant)
    (no_word room.spans.items room.bytes.items n c.self.invariant none long)
    (subst (λ r. AreWordsOf c.args.count r.words) (sym c.self.view_is) c.requires.words) in
    let bytes : c.copy.new.bytes.items ≡ room.bytes.items ++ c.in-Ok.found.0.now = c.in_default.ensures.ok in
    subst (λ b. AreSpans 0 c.find_words.new.spans.items (length b)) (sym bytes) found.spans

pub returns-clause-words : goal.returns-clause-words
returns-clause-words c =
    let room = c.self.inside in
    let n = c.len.result in
    let long : n ≡ length room.bytes.items = search rules in
    let none : drop (last_end 0 room.spans.items) room.bytes.items ≡ [] = ap (λ r. r.word) c.self.view_is
    ∙ c.requires.word in
    let found : Finds c.args.count room.bytes.items room.spans.items c.find_words.new.spans.items c.args.bytes.now
    c.in-Ok.found.0.now c.in-Ok.found.1.now = c.in-Ok.ensures.ok room.bytes.items (sym long)
    (subst (λ m. AreSpans 0 room.spans.items m) (sym long) c.self.invariant)
    (no_word room.spans.items room.bytes.items n c.self.invariant none long)
    (subst (λ r. AreWordsOf c.args.count r.words) (sym c.self.view_is) c.requires.words) in
    let bytes : c.copy.new.bytes.items ≡ room.bytes.items ++ c.in-Ok.found.0.now = c.in_default.ensures.ok in
    subst (λ b. AreWordsOf c.args.count (words_at c.find_words.new.spans.items b)) (sym bytes) found.words

pub returns-clause-word : goal.returns-clause-word
returns-clause-word c =
    let room = c.self.inside in
    let n = c.len.result in
    let long : n ≡ length room.bytes.items = search rules in
    let none : drop (last_end 0 room.spans.items) room.bytes.items ≡ [] = ap (λ r. r.word) c.self.view_is
    ∙ c.requires.word in
    let found : Finds c.args.count room.bytes.items room.spans.items c.find_words.new.spans.items c.args.bytes.now
    c.in-Ok.found.0.now c.in-Ok.found.1.now = c.in-Ok.ensures.ok room.bytes.items (sym long)
    (subst (λ m. AreSpans 0 room.spans.items m) (sym long) c.self.invariant)
    (no_word room.spans.items room.bytes.items n c.self.invariant none long)
    (subst (λ r. AreWordsOf c.args.count r.words) (sym c.self.view_is) c.requires.words) in
    let bytes : c.copy.new.bytes.items ≡ room.bytes.items ++ c.in-Ok.found.0.now = c.in_default.ensures.ok in
    ap (drop (last_end 0 c.find_words.new.spans.items)) bytes
    ∙ drop_all (last_end 0 c.find_words.new.spans.items) (room.bytes.items ++ c.in-Ok.found.0.now) (omega (
      arith,
      found.last,
    ))

pub returns-clause-ok : goal.returns-clause-ok
returns-clause-ok c =
    let room = c.self.inside in
    let n = c.len.result in
    let long : n ≡ length room.bytes.items = search rules in
    let none : drop (last_end 0 room.spans.items) room.bytes.items ≡ [] = ap (λ r. r.word) c.self.view_is
    ∙ c.requires.word in
    let found : Finds c.args.count room.bytes.items room.spans.items c.find_words.new.spans.items c.args.bytes.now
    c.in-Ok.found.0.now c.in-Ok.found.1.now = c.in-Ok.ensures.ok room.bytes.items (sym long)
    (subst (λ m. AreSpans 0 room.spans.items m) (sym long) c.self.invariant)
    (no_word room.spans.items room.bytes.items n c.self.invariant none long)
    (subst (λ r. AreWordsOf c.args.count r.words) (sym c.self.view_is) c.requires.words) in
    let bytes : c.copy.new.bytes.items ≡ room.bytes.items ++ c.in-Ok.found.0.now = c.in_default.ensures.ok in
    ap (λ r. array_front c.args.count r.words ++ c.args.bytes.now) (sym c.self.view_is) ∙ found.front
    ∙ ap (λ b. array_front c.args.count (words_at c.find_words.new.spans.items b) ++ c.in-Ok.found.1.now) (sym bytes)

pub returns-clause-grows : goal.returns-clause-grows
returns-clause-grows c =
    let room = c.self.inside in
    let n = c.len.result in
    let long : n ≡ length room.bytes.items = search rules in
    let none : drop (last_end 0 room.spans.items) room.bytes.items ≡ [] = ap (λ r. r.word) c.self.view_is
    ∙ c.requires.word in
    let found : Finds c.args.count room.bytes.items room.spans.items c.find_words.new.spans.items c.args.bytes.now
    c.in-Ok.found.0.now c.in-Ok.found.1.now = c.in-Ok.ensures.ok room.bytes.items (sym long)
    (subst (λ m. AreSpans 0 room.spans.items m) (sym long) c.self.invariant)
    (no_word room.spans.items room.bytes.items n c.self.invariant none long)
    (subst (λ r. AreWordsOf c.args.count r.words) (sym c.self.view_is) c.requires.words) in
    let bytes : c.copy.new.bytes.items ≡ room.bytes.items ++ c.in-Ok.found.0.now = c.in_default.ensures.ok in
    same_grows _ _ _ _ _ _ _ _ (ap (λ r. r.words) c.self.view_is) (sym c.requires.word)
    (ap (words_at c.find_words.new.spans.items) (sym bytes)) (sym (ap (drop (last_end 0 c.find_words.new.spans.items))
    bytes
    ∙ drop_all (last_end 0 c.find_words.new.spans.items) (room.bytes.items ++ c.in-Ok.found.0.now) (omega (
      arith,
      found.last,
    )))) found.grows
