-- The commands of an input.
use Rattle.std.specs.Prelude.{ℕ, ◌==◌, if◌then◌else◌, List, [], ◌∷◌, ◌++◌, map}
use Rattle.flake_base.specs.declared.reply.ErrorKind.{ErrorKind}
use Rattle.flake_base.specs.declared.reply.ErrorKind.TheVariants.{ProtocolCount, ProtocolBulk, ProtocolLength}
use Rattle.flake_base.specs.declared.reply.ErrorKind.TheVariants.{ProtocolInline}
use Rattle.flake_base.specs.declared.session.End.{End}
use Rattle.flake_base.specs.declared.session.End.TheVariants.{Protocol}
use Rattle.flake_model.specs.Resp.{Words}
use Rattle.flake_model.specs.Command.{Command, fault, command_of}

-- the error that a protocol error is answered by
abbrev pub protocol_error : ℕ → ErrorKind
protocol_error kind =
    if kind == 1 then ProtocolCount else
    if kind == 2 then ProtocolBulk else
    if kind == 3 then ProtocolLength else ProtocolInline

-- the commands of an input: its requests', and behind them one for a protocol error
abbrev pub commands_in : List Words → End → List Command
commands_in requests (Protocol kind place) = map command_of requests ++ fault (protocol_error kind) ∷ []
commands_in requests end = map command_of requests
