use Rattle.std.proofs.Common.{◌+◌, ◌∙◌, refl, length, arith}
use Rattle.resp_reader.proofs.Parsers.{still_kept}
use Rattle.resp_reader.proofs.parser.Parser.take.Goals as goal

pub returns-in-Ok-clause-kept : goal.returns-in-Ok-clause-kept
returns-in-Ok-clause-kept c =
    still_kept c.args.self.now c.run.new.self c.args.bytes.now (c.run.new.self.taken + length c.args.bytes.now)
    c.requires.kept c.in-Ok.ensures.ok c.in-Ok.ensures.sound c.in-Ok.ensures.open
    (omega (arith, c.run.ensures.taken)) (omega (arith, c.run.ensures.taken, c.requires.judged))

pub returns-in-Err-Memory-clause-memory : goal.returns-in-Err-Memory-clause-memory
returns-in-Err-Memory-clause-memory c same =
    c.back.ensures c.args.self.now (c.len-held.ensures ∙ c.args.self.now.ready.ok.0)
    (record { state = c.mark-mark.ensures.state; words = c.mark-mark.ensures.words; len = c.mark-mark.ensures.len })
    refl c.run.ensures.taken c.in-Err-Memory.ensures.back
