use Rattle.std.proofs.Common.{◌≡◌, ℕ, zero, suc, ◌+◌, length, map, refl, ap}
use Rattle.std.specs.List.{range_with_len}
use Rattle.order_book.specs.Pages.{new_shard}

pub length-new : (first shards : ℕ) → length (map new_shard (range_with_len first shards)) ≡ shards
length-new first zero = refl
length-new first (suc shards) = ap suc (length-new (first + 1) shards)
