use Rattle.std.proofs.Common.{refl, arith}
use Rattle.flake_base.specs.declared.session.End.TheVariants.{ReadFault}
use Rattle.flake_model.specs.Refused.{refused_end}
use Rattle.flake_model.proofs.Refused.{takes_all_given}
use Rattle.flake_model.proofs.laws.no_read_is_thrown_away.Goals as goal

pub returns : goal.returns
returns c given at_end replies journal some served =
    omega (arith, some, takes_all_given given at_end (refused_end ReadFault 0 replies) journal refl served)
