use Rattle.std.proofs.Common.{take, drop, sym}
use Rattle.std.proofs.lemmas.List.{take-append-drop}
use Rattle.file_outside.proofs.host.FileHostHost.say.Goals as goal

-- what was written is a front of the piece
pub returns-then-count-piece-clause-failed : goal.returns-then-count-piece-clause-failed
returns-then-count-piece-clause-failed g c =
    let piece = c.args.piece.now in
    let count = c.write_front-count.result in
    (take count piece, (drop count piece, sym (take-append-drop count piece)), c.add.ensures)
