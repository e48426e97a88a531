use Rattle.std.proofs.Common.{◌++◌, [], ◌+◌, length, subst, sym, arith}
use Rattle.flake_model.specs.Resp.{IsFaulty}
use Rattle.resp_reader.specs.Begun.{state_front, IsState}
use Rattle.resp_reader.proofs.Moves.{word_stops}
use Rattle.resp_reader.proofs.begun.Begun.in_word.Goals as goal

pub returns-in_default-clause-err : goal.returns-in_default-clause-err
returns-in_default-clause-err c =
    let words = c.args.self.now.room.words in
    let word = c.args.self.now.room.word in
    let sound = subst (λ s. IsState s words word) c.requires.state c.requires.sound in
    subst (λ s. IsFaulty (state_front s words word ++ c.args.bytes.now) [] 3 (length (state_front s words word) + 0))
    (sym c.requires.state)
    (word_stops c.args.count c.args.len words word c.args.bytes.now sound (omega (arith, sound.1)) c.requires.some
    c.in_default.ensures.none)
