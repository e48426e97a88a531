use Rattle.std.proofs.Common.{◌∙◌, ap, map}
use Rattle.pinned_pool.specs.Moves.{hold_key}
use Rattle.pinned_pool.specs.declared.view.View.{View}
use Rattle.pinned_pool.proofs.Keys.{taken_by-keys}
use Rattle.pinned_pool.proofs.pool.Pool.split.Goals as goal

pub returns-clause-exactly : goal.returns-clause-exactly
returns-clause-exactly g c = ap (λ (v : View). map hold_key v.holds) c.cut.ensures.new
    ∙ taken_by-keys _ _ c.requires.held
