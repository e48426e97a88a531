use Rattle.std.proofs.Common.{sym, ◌∙◌, arith, length, ◌+◌, ◌-◌, subst, List, ◌≡◌, ◌<◌}
use Rattle.range_pick.proofs.Fragments.{next_piece, bytes_here, fewer, span_at}
use Rattle.range_pick.specs.Pieces.{span_pieces}
use Rattle.range_pick.specs.declared.pieces.Piece.{Piece}
use Rattle.range_pick.proofs.pieces.PiecesIterator.next.Goals as goal

pub returns-clause-steps : goal.returns-clause-steps
returns-clause-steps c =
    let rest = c.self.inside.rest in
    let some : 0 < rest.len = omega arith in
    let here : c.min-here.result ≡ bytes_here rest.from rest.len = c.min-here.ensures in
    sym c.self.view_is ∙ (rw here (next_piece rest.from rest.len some))

pub returns-clause-goes : goal.returns-clause-goes
returns-clause-goes c =
    let rest = c.self.inside.rest in
    let some : 0 < rest.len = omega arith in
    let here : c.min-here.result ≡ bytes_here rest.from rest.len = c.min-here.ensures in
    let step : length (span_pieces (span_at (rest.from + c.min-here.result) (rest.len - c.min-here.result)))
    < length c.args.self.now =
    subst (λ (list : List Piece). length
    (span_pieces (span_at (rest.from + c.min-here.result) (rest.len - c.min-here.result))) < length list)
    c.self.view_is
    (rw here (fewer rest.from rest.len some)) in
    record { on = λ finite. (tt, tt, step); keeps = tt; rests = λ finite. tt }
