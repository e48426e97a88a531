-- What a part of the code stands for.
use Rattle.std.specs.Prelude.{◌≡◌, List, [], ℕ, Bool, true, false, is_some, ⊤}
use Rattle.flake_model.specs.Store as store
use Rattle.flake_model.specs.Store.{Operation}
use Rattle.shard_part.specs.declared.part.Part.{Part}
use Rattle.shard_part.specs.declared.part.PartOp.{PartOp}
use Rattle.shard_part.specs.declared.part.PartOp.TheVariants.{Set, SetNx, SetXx, SetGet, SetNxGet, SetXxGet}
use Rattle.shard_part.specs.declared.part.PartOp.TheVariants.{Get, Append, Del, Exists, StrLen, GetRange}
use Rattle.shard_part.specs.Settings.{when_by, set_part, setting_of}

-- the operation on a key, with a value where it takes one
abbrev pub operation_by : PartOp → List ℕ → List ℕ → Operation
operation_by Get key value = store.get key
operation_by Set key value = store.set store.always false key value
operation_by SetNx key value = store.set store.if_missing false key value
operation_by SetXx key value = store.set store.if_present false key value
operation_by SetGet key value = store.set store.always true key value
operation_by SetNxGet key value = store.set store.if_missing true key value
operation_by SetXxGet key value = store.set store.if_present true key value
operation_by Append key value = store.append key value
operation_by Del key value = store.del key
operation_by Exists key value = store.exists key
operation_by StrLen key value = store.str_len key
operation_by (GetRange start end) key value = store.get_range key start end

abbrev pub operation_of : Part → Operation
operation_of part = operation_by part.op part.key.now part.value.now

-- the part that does an operation
abbrev pub part_by : Operation → PartOp
part_by (store.get key) = Get
part_by (store.set when asks key bytes) = set_part (when_by when) asks
part_by (store.append key bytes) = Append
part_by (store.del key) = Del
part_by (store.exists key) = Exists
part_by (store.str_len key) = StrLen
part_by (store.get_range key first last) = GetRange first last

abbrev pub takes_value : PartOp → Bool
takes_value Append = true
takes_value part = is_some (setting_of part)

-- a part that takes no value has none
abbrev pub HasOwnValue : PartOp → List ℕ → Type 0
HasOwnValue Set value = ⊤
HasOwnValue SetNx value = ⊤
HasOwnValue SetXx value = ⊤
HasOwnValue SetGet value = ⊤
HasOwnValue SetNxGet value = ⊤
HasOwnValue SetXxGet value = ⊤
HasOwnValue Append value = ⊤
HasOwnValue part value = value ≡ []
