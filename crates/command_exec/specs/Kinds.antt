-- Commands by how they are answered.
use Rattle.std.specs.Prelude.{ℕ, [], slice_index_or, ⊤}
use Rattle.flake_model.specs.Store as part
use Rattle.flake_model.specs.Store.{Operation}
use Rattle.flake_model.specs.Command.{Command, ping, ping_with, mget, del, exists, fault, parts}

-- a command without parts
abbrev pub HasNoParts : Command → Type 0
HasNoParts ping = ⊤
HasNoParts (ping_with bytes) = ⊤
HasNoParts (fault kind) = ⊤
HasNoParts command = ⊥

-- one whose only part's answer is the reply
abbrev pub HasOnePart : Command → Type 0
HasOnePart ping = ⊥
HasOnePart (ping_with bytes) = ⊥
HasOnePart (mget keys) = ⊥
HasOnePart (del keys) = ⊥
HasOnePart (exists keys) = ⊥
HasOnePart (fault kind) = ⊥
HasOnePart command = ⊤

-- one that answers the values of keys
abbrev pub AsksValues : Command → Type 0
AsksValues (mget keys) = ⊤
AsksValues command = ⊥

-- one that counts keys
abbrev pub Counts : Command → Type 0
Counts (del keys) = ⊤
Counts (exists keys) = ⊤
Counts command = ⊥

-- the part of this number
abbrev pub part_at : Command → ℕ → Operation
part_at command j = slice_index_or (parts command) j (part.get [])
