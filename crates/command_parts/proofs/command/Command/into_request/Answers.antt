use Rattle.std.proofs.Common.{sym}
use Rattle.command_parts.proofs.command.Command.into_request.Goals as goal

pub returns : goal.returns
returns c = (c.self.inside.op, sym c.self.view_is)
