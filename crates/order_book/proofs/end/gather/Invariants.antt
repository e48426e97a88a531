use Rattle.std.proofs.Common.{◌≡◌, [], length}
use Rattle.view_sums.specs.Total.{Each}
use Rattle.order_book.specs.Named.{IsLive, all_before}
use Rattle.order_book.proofs.end.gather.Given as goal

abbrev pub invariant-loop-place : goal.invariant-loop-place
invariant-loop-place l =
    (l.all.table_id ≡ l.table.shared.table_id)
    × (all_before l.places.items l.all.me.0 ≡ all_before l.fn.places.items l.fn.seat.me.0)
    × (l.all.me.1 ≡ [])
    × Each (IsLive l.table.shared.table_id) l.places.items

abbrev pub decreases-loop-place : goal.decreases-loop-place
decreases-loop-place l = length l.places.items
