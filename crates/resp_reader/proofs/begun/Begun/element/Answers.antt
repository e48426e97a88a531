use Rattle.std.proofs.Common.{◌≡◌, ◌++◌, ◌∙◌, ap, sym, subst, List, ℕ}
use Rattle.flake_model.specs.Fronts.{array_front}
use Rattle.resp_reader.specs.declared.begun.State.TheVariants.{Start, AtWord}
use Rattle.resp_reader.specs.Begun.{state_front, IsState}
use Rattle.resp_reader.proofs.WholeWords.{words_sound, words_front}
use Rattle.resp_reader.proofs.begun.Begun.element.Goals as goal

pub returns-clause-sound : goal.returns-clause-sound
returns-clause-sound c =
    let words = c.args.self.now.room.words in
    let word = c.args.self.now.room.word in
    let moved = c.in_ok-state.ensures.ok words word (subst (λ s. IsState s words word) c.requires.state
    c.requires.sound) in
    let at : IsState (AtWord c.in-AtWord.count) words word = subst (λ s. IsState s words word) c.in-AtWord.is moved.0
    in
    words_sound c.in-AtWord.count c.count.result c.behind_words-self.result c.take_whole.new.self.words
    c.take_whole.new.self.word c.in_ok-rest.ensures.words c.in_ok-rest.ensures.word at.0.most c.count.ensures
    c.behind_words-self.ensures.whole c.behind_words-self.ensures.more

pub returns-clause-ok : goal.returns-clause-ok
returns-clause-ok c =
    let words = c.args.self.now.room.words in
    let word = c.args.self.now.room.word in
    let behind = c.in_ok-state.rest.now in
    let moved = c.in_ok-state.ensures.ok words word (subst (λ s. IsState s words word) c.requires.state
    c.requires.sound) in
    let front : state_front Start words word ++ c.args.bytes.now ≡ array_front c.in-AtWord.count words ++ behind =
    moved.1 ∙ ap (λ s. state_front s words word ++ behind) c.in-AtWord.is in
    ap (λ s. state_front s words word ++ c.args.bytes.now) c.requires.state ∙ front ∙ c.in_ok-rest.ensures.ok
    ∙ ap (λ (f : List ℕ). f ++ c.in_ok-rest.rest.now)
    (sym (words_front c.in-AtWord.count c.count.result c.behind_words-self.result c.take_whole.new.self.words
    c.take_whole.new.self.word c.in_ok-rest.ensures.words c.count.ensures c.behind_words-self.ensures.whole
    c.behind_words-self.ensures.more))
