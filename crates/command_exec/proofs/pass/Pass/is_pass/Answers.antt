use Rattle.std.proofs.Common.{subst}
use Rattle.command_exec.specs.Passes.{IsPass}
use Rattle.command_exec.proofs.pass.Pass.is_pass.Goals as goal

pub returns-clause-pass : goal.returns-clause-pass
returns-clause-pass g c = subst (IsPass g.P.PoolName.sizes) c.self.view_is c.self.invariant
