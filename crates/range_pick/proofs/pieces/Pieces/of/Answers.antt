use Rattle.range_pick.proofs.Fragments.{are_pieces}
use Rattle.range_pick.proofs.pieces.Pieces.of.Goals as goal

pub returns-clause-parts : goal.returns-clause-parts
returns-clause-parts c = are_pieces c.args.span
