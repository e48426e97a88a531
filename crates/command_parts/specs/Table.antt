-- What a request of a row of the table asks for: the one rule of all commands.
use Rattle.std.specs.Prelude.{◌≡◌, ℕ, ℤ, ◌-◌, ◌≤◌, nat_le, Bool, true, if◌then◌else◌, List, [], ◌∷◌, length, is_some}
use Rattle.std.specs.Prelude.{Option, Some, None, slice_index_or}
use Rattle.std.specs.Option.{option_map}
use Rattle.flake_base.specs.declared.reply.ErrorKind.TheVariants.{UnknownCommand, NotInteger}
use Rattle.flake_model.specs.Resp.{Words}
use Rattle.flake_model.specs.Range.{signed_of}
use Rattle.flake_model.specs.Command.{Command, Options, tested, ping, fault, set_options, is_value, message_limit}
use Rattle.flake_model.specs.Command.{arguments, first, second}
use Rattle.shard_part.specs.declared.part.PartOp.{PartOp}
use Rattle.shard_part.specs.declared.part.PartOp.TheVariants as part
use Rattle.shard_part.specs.Parts.{takes_value}
use Rattle.shard_part.specs.Settings.{when_by, set_part}
use Rattle.command_parts.specs.declared.op.Op.{Op}
use Rattle.command_parts.specs.declared.op.Op.TheVariants.{Ping, PingWith, One, MGet, Del, Exists, Fault}
use Rattle.command_parts.specs.declared.table.Row.{Row}
use Rattle.command_parts.specs.Meaning.{command_by, RepliesAlone}

abbrev pub key_count : Op → ℕ → ℕ
key_count (One op) count = 1
key_count MGet count = count - 1
key_count Del count = count - 1
key_count Exists count = count - 1
key_count op count = 0

abbrev pub keys_by : Op → Words → List (List ℕ)
keys_by (One op) words = first words ∷ []
keys_by MGet words = arguments words
keys_by Del words = arguments words
keys_by Exists words = arguments words
keys_by op words = []

-- the word that may be long is as short as it has to be
abbrev pub argument_fits : Op → Words → Bool
argument_fits Ping words = nat_le (length (first words)) message_limit
argument_fits PingWith words = nat_le (length (first words)) message_limit
argument_fits (One op) words = if takes_value op then is_value (second words) else true
argument_fits op words = true

-- with the options, which SET alone can have
abbrev pub optioned : Op → Words → Option Op
optioned (One part.Set) words = option_map set_op (set_options words) where
  set_op : Options → Op
  set_op options = One (set_part (when_by options.0) options.1)
optioned op words = Some op

-- a range, if both places are numbers
abbrev pub range_op : Option ℤ → Option ℤ → Op
range_op None last = Fault NotInteger
range_op (Some start) None = Fault NotInteger
range_op (Some start) (Some end) = One (part.GetRange start end)

-- with the places, which GETRANGE alone has
abbrev pub placed : Op → Words → Op
placed (One (part.GetRange start end)) words =
    range_op (signed_of (second words)) (signed_of (slice_index_or words 3 []))
placed op words = op

abbrev pub command_placed : Option Op → Words → Command
command_placed None words = ping
command_placed (Some op) words = command_by (placed op words) words

-- the tests in their order
abbrev pub asked_by : Row → Words → Command
asked_by row words = tested row.fits (is_some (optioned row.op words)) (keys_by row.op words)
    (argument_fits row.op words) (command_placed (optioned row.op words) words)

-- an unknown name asks for nothing
abbrev pub command_named : Option Row → Words → Command
command_named None words = fault UnknownCommand
command_named (Some row) words = asked_by row words

-- so many words has a request that asks for this, at least
abbrev pub least : Op → ℕ
least Ping = 1
least (One (part.GetRange start end)) = 4
least (One op) = if takes_value op then 3 else 2
least (Fault kind) = 1
least op = 2

-- a row whose test leaves the words that its command needs
pub record HasWords (row : Row) (words : Words) : Type 0 where
  pub enough : row.fits ≡ true → least row.op ≤ length words
  pub few : row.fits ≡ true → row.op ≡ PingWith → length words ≤ 2
  pub replies : (op : PartOp) → row.op ≡ One op → RepliesAlone op
