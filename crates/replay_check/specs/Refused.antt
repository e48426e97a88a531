-- What a protocol error is answered by.
use Rattle.std.specs.Prelude.{ℕ, Option, Some, None}
use Rattle.flake_base.specs.declared.reply.ErrorKind.{ErrorKind}
use Rattle.flake_base.specs.declared.reply.ErrorKind.TheVariants.{ProtocolCount, ProtocolBulk, ProtocolLength}
use Rattle.flake_base.specs.declared.reply.ErrorKind.TheVariants.{ProtocolInline}
use Rattle.resp_reader.specs.declared.error.ReadError.{ReadError}
use Rattle.resp_reader.specs.declared.error.ReadError.TheVariants.{BadCount, ExpectedBulk, BadLength}
use Rattle.resp_reader.specs.declared.error.ReadError.TheVariants.{Inline, TooLong, Memory}

-- what is too long has no error
abbrev pub error_kind_of : ReadError → Option ErrorKind
error_kind_of (BadCount place) = Some ProtocolCount
error_kind_of (ExpectedBulk place) = Some ProtocolBulk
error_kind_of (BadLength place) = Some ProtocolLength
error_kind_of (Inline place) = Some ProtocolInline
error_kind_of (TooLong taken) = None
error_kind_of Memory = None
