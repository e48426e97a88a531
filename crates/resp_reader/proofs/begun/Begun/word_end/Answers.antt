use Rattle.std.proofs.Common.{◌++◌, [], ◌+◌, length, subst, sym}
use Rattle.flake_model.specs.Resp.{IsFaulty}
use Rattle.resp_reader.specs.Begun.{state_front, IsState}
use Rattle.resp_reader.proofs.Moves.{word_end_stops}
use Rattle.resp_reader.proofs.begun.Begun.word_end.Goals as goal

pub returns-in_default-clause-err : goal.returns-in_default-clause-err
returns-in_default-clause-err c =
    let words = c.args.self.now.room.words in
    let word = c.args.self.now.room.word in
    subst (λ s. IsFaulty (state_front s words word ++ c.args.bytes.now) [] 3 (length (state_front s words word) + 0))
    (sym c.requires.state)
    (word_end_stops c.args.count words word c.args.bytes.now
    (subst (λ s. IsState s words word) c.requires.state c.requires.sound) c.requires.some c.in_default.ensures.none)
