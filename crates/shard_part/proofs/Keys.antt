-- What a part and its operation have of each other.
use Rattle.std.proofs.Common.{◌≡◌, ℕ, List, refl}
use Rattle.flake_model.specs.Store.{key_of}
use Rattle.shard_part.specs.declared.part.PartOp.{PartOp}
use Rattle.shard_part.specs.declared.part.PartOp.TheVariants.{Get}
use Rattle.shard_part.specs.Parts.{operation_by, part_by}

-- the key of a part is that of its operation
pub key_is : (op : PartOp) (key value : List ℕ) → key_of (operation_by op key value) ≡ key
key_is Get key value = refl
key_is op key value = refl

-- a part does the operation of which it is the part
pub part_is : (op : PartOp) (key value : List ℕ) → part_by (operation_by op key value) ≡ op
part_is Get key value = refl
part_is op key value = refl
