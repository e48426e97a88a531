-- What a command of the code stands for.
use Rattle.std.specs.Prelude.{◌≡◌, ℕ, ◌≤◌, nat_le, Bool, true, if◌then◌else◌, List, [], ◌∷◌, Option, Some, None, length}
use Rattle.std.specs.List.{list_all}
use Rattle.std.specs.Prelude.{⊤}
use Rattle.flake_base.specs.Limits.{value_limit}
use Rattle.flake_model.specs.Resp.{Words}
use Rattle.flake_model.specs.Store.{Operation}
use Rattle.flake_model.specs.Command as model
use Rattle.flake_model.specs.Command.{alone, parts, arguments, first, second, message_limit}
use Rattle.resp_reader.specs.declared.request.Request.{Request}
use Rattle.shard_part.specs.declared.part.PartOp.{PartOp}
use Rattle.shard_part.specs.declared.part.PartOp.TheVariants as part
use Rattle.shard_part.specs.Parts.{operation_by, part_by, takes_value}
use Rattle.command_parts.specs.declared.op.Op.{Op}
use Rattle.command_parts.specs.declared.op.Op.TheVariants.{Ping, PingWith, One, MGet, Del, Exists, Fault}

-- what is done to the only key; a command without parts has none, and a PING stands for that
abbrev pub op_of_parts : List Operation → Op
op_of_parts [] = Ping
op_of_parts (operation ∷ operations) = One (part_by operation)

abbrev pub op_of : model.Command → Op
op_of model.ping = Ping
op_of (model.ping_with bytes) = PingWith
op_of (model.mget keys) = MGet
op_of (model.del keys) = Del
op_of (model.exists keys) = Exists
op_of (model.fault kind) = Fault kind
op_of command = op_of_parts (parts command)

-- PING's argument; nothing for any other command
abbrev pub argument_of : model.Command → List ℕ
argument_of (model.ping_with bytes) = bytes
argument_of command = []

-- the words of a request, if there is one
abbrev pub request_words : Option Request → Words
request_words None = []
request_words (Some request) = request

-- the value of a part of the only key, where it takes one
abbrev pub value_by : PartOp → Words → List ℕ
value_by op words = if takes_value op then second words else []

abbrev pub command_by : Op → Words → model.Command
command_by Ping words = model.ping
command_by PingWith words = model.ping_with (first words)
command_by (One op) words = alone (operation_by op (first words) (value_by op words))
command_by MGet words = model.mget (arguments words)
command_by Del words = model.del (arguments words)
command_by Exists words = model.exists (arguments words)
command_by (Fault kind) words = model.fault kind

-- each key has at most 512 bytes
abbrev pub are_keys : List (List ℕ) → Bool
are_keys keys = list_all (λ key. nat_le (length key) 512) keys

-- so many words at least and at most
abbrev pub Between : ℕ → ℕ → Words → Type 0
Between least most words = (least ≤ length words) × (length words ≤ most)

-- a part whose answer is a reply; keys that are removed, or there, are counted
abbrev pub RepliesAlone : PartOp → Type 0
RepliesAlone part.Del = ⊥
RepliesAlone part.Exists = ⊥
RepliesAlone op = ⊤

-- the words of a command of one key
pub record FitsOne (op : PartOp) (words : Words) : Type 0 where
  pub replies : RepliesAlone op
  pub key : 2 ≤ length words
  pub short : are_keys (first words ∷ []) ≡ true
  pub value : takes_value op ≡ true → (3 ≤ length words) × (length (second words) ≤ value_limit)

-- what the tests leave: the number of words, and the lengths of keys, values and PING's argument; a fault may have any
-- words
abbrev pub FitsWords : Op → Words → Type 0
FitsWords Ping words = ⊤
FitsWords PingWith words = Between 2 2 words × (length (first words) ≤ message_limit)
FitsWords (One op) words = FitsOne op words
FitsWords MGet words = Between 2 65 words × (are_keys (arguments words) ≡ true)
FitsWords Del words = Between 2 65 words × (are_keys (arguments words) ≡ true)
FitsWords Exists words = Between 2 65 words × (are_keys (arguments words) ≡ true)
FitsWords (Fault kind) words = ⊤

-- the keys and values of a command stand among these words
abbrev pub IsAmong : model.Command → Words → Type 0
IsAmong command words = (op : Op) × (command ≡ command_by op words)
