use Rattle.std.proofs.Common.{◌≡◌, ◌+◌, length}
use Rattle.std.specs.Fmt.{decimal}
use Rattle.resp_text.specs.Sizes.{fitted}
use Rattle.resp_text.proofs.Arrays.{first_items}
use Rattle.resp_text.proofs.sizes.array_size.Given as goal

-- the size of the head and of the items so far
abbrev pub invariant-loop-item : goal.invariant-loop-item
invariant-loop-item l = l.size
    ≡ fitted (length (decimal (length l.items.items)) + 3 + length (first_items l.item-index l.items.items))
