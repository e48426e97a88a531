use Rattle.resp_reader.specs.declared.begun.State.TheVariants.{InCount, CountEnd, AtWord, InLength, LengthEnd}
use Rattle.resp_reader.proofs.Moves.{breaks}
use Rattle.resp_reader.proofs.begun.Begun.step.Goals as goal

pub returns-in-InCount-clause-err : goal.returns-in-InCount-clause-err
returns-in-InCount-clause-err c = breaks c.in_count.result c.go.result c.args.self.now
    (InCount c.in-InCount.digits) c.args.bytes.now c.in-InCount.is c.requires.sound c.in_count.ensures.err
    c.go.ensures.failed

pub returns-in-CountEnd-clause-err : goal.returns-in-CountEnd-clause-err
returns-in-CountEnd-clause-err c = breaks c.count_end.result c.go-in-CountEnd.result c.args.self.now
    (CountEnd c.in-CountEnd.digits) c.args.bytes.now c.in-CountEnd.is c.requires.sound c.count_end.ensures.err
    c.go-in-CountEnd.ensures.failed

pub returns-in-AtWord-clause-err : goal.returns-in-AtWord-clause-err
returns-in-AtWord-clause-err c = breaks c.at_word.result c.go-in-AtWord.result c.args.self.now
    (AtWord c.in-AtWord.count) c.args.bytes.now c.in-AtWord.is c.requires.sound c.at_word.ensures.err
    c.go-in-AtWord.ensures.failed

pub returns-in-InLength-clause-err : goal.returns-in-InLength-clause-err
returns-in-InLength-clause-err c = breaks c.in_length.result c.go-in-InLength.result c.args.self.now
    (InLength c.in-InLength.count c.in-InLength.digits) c.args.bytes.now c.in-InLength.is c.requires.sound
    c.in_length.ensures.err c.go-in-InLength.ensures.failed

pub returns-in-LengthEnd-clause-err : goal.returns-in-LengthEnd-clause-err
returns-in-LengthEnd-clause-err c = breaks c.length_end.result c.go-in-LengthEnd.result c.args.self.now
    (LengthEnd c.in-LengthEnd.count c.in-LengthEnd.len) c.args.bytes.now c.in-LengthEnd.is c.requires.sound
    c.length_end.ensures.err c.go-in-LengthEnd.ensures.failed
