-- A table of values by key, and what an operation does at its key.
use Rattle.std.specs.Prelude.{◌≡◌, ℕ, ◌++◌, Bool, if◌then◌else◌, List, Option, Some, None, nat_eq, length}
use Rattle.std.specs.Global.{Vec}
use Rattle.std.specs.Map.{lookup}
use Rattle.std.specs.Option.{option_map}
use Rattle.std.specs.Cmp.Lexicographic.{pointwise}
use Rattle.flake_model.specs.Store.{Operation, Change, keeps, puts, removes, bytes_of, has_room, change_on}

abbrev pub TableEntries : Type 0
TableEntries = List (Vec ℕ × Vec ℕ)

abbrev pub equal_bytes : List ℕ → List ℕ → Bool
equal_bytes = pointwise nat_eq

-- the bytes at a key
abbrev pub table_bytes : List ℕ → TableEntries → Option (List ℕ)
table_bytes key entries =
    option_map (λ (value : Vec ℕ). value.items) (lookup (λ (name : Vec ℕ). equal_bytes key name.items) entries)

-- the new entries have this at the key, and at each other key what the old ones have
abbrev pub HasChanged : List ℕ → Option (List ℕ) → TableEntries → TableEntries → Type 0
HasChanged key value old new = (other : List ℕ)
    → table_bytes other new ≡ (if equal_bytes key other then value else table_bytes other old)

-- the new entries have at each key what the old ones have
abbrev pub HasKept : TableEntries → TableEntries → Type 0
HasKept old new = (key : List ℕ) → table_bytes key new ≡ table_bytes key old

-- the length of a value once bytes are put behind it, where it isn't too long
abbrev pub appended_length : Option (List ℕ) → List ℕ → Option ℕ
appended_length old bytes = if has_room old bytes then Some (length (bytes_of old ++ bytes)) else None

-- and what the key has then
abbrev pub after_append : Option (List ℕ) → List ℕ → Option (List ℕ)
after_append old bytes = if has_room old bytes then Some (bytes_of old ++ bytes) else old

-- what a key has that a change was made to
abbrev pub value_left : Change → Option (List ℕ) → Option (List ℕ)
value_left keeps old = old
value_left (puts bytes) old = Some bytes
value_left removes old = None

abbrev pub value_after : Option (List ℕ) → Operation → Option (List ℕ)
value_after old operation = value_left (change_on old operation) old

-- the entries after an operation at its key
abbrev pub HasDone : List ℕ → Operation → TableEntries → TableEntries → Type 0
HasDone key operation old new = HasChanged key (value_after (table_bytes key old) operation) old new
