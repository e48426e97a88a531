-- What stands behind a shard's lock.
use Rattle.std.specs.Prelude.{◌≡◌, ℕ, List, map, None, Result, IfOk, ⊤}
use Rattle.pin_core.specs.declared.sizes.Sizes.{Sizes}
use Rattle.flake_base.specs.declared.journal.Entry.{Entry}
use Rattle.flake_base.specs.declared.segment.Seg.{Seg}
use Rattle.flake_base.specs.declared.fault.Memory.{Memory}
use Rattle.pinned_pool.specs.declared.view.View.{View}
use Rattle.flake_model.specs.Store.{Operation, Answer, key_of, answer, first_at, stored_value}
use Rattle.flake_model.specs.Deed.{Deed, entries_of, IsLegal, final_store, final_places, places_at, found_at}
use Rattle.order_book.specs.Pages.{ShardList}
use Rattle.shard_core.specs.Kept.{Agrees}
use Rattle.shard_core.specs.ShardMaps.{ShardMapView}
use Rattle.shard_core.specs.declared.answer.PartAnswer.{PartAnswer}
use Rattle.shard_core.specs.declared.answer.PartAnswer.TheVariants as say

-- The seat of the book has the lock's number. Its deeds are legal, the journal is their entries, and the shard map has
-- the
-- values that they leave, at the places that they leave.
pub record IsShard (z : Sizes) (number : ℕ) (shard_map : ShardMapView) (list : ShardList) (journal : List Entry) : Type
    0 where
  pub number_is : list.number ≡ number
  pub journal_is : journal ≡ entries_of list.told
  pub legal : IsLegal list.told
  pub agrees : Agrees z shard_map.entries shard_map.seat.holds (final_store list.told) (final_places list.told)

-- the part was answered
abbrev pub HasAnswer : PartAnswer → Type 0
HasAnswer say.Bulk = ⊤
HasAnswer say.Null = ⊤
HasAnswer say.Done = ⊤
HasAnswer (say.Length n) = ⊤
HasAnswer (say.Did happened) = ⊤
HasAnswer say.TooLong = ⊤
HasAnswer (say.NoBuffer none) = ⊥

-- A part that puts nothing on what these deeds leave finds its buffers, and nothing is claimed or looked at for it.
abbrev pub IsFreeAfter : List Deed → Operation → Result PartAnswer Memory → View → View → Type 0
IsFreeAfter deeds operation result old new = stored_value (final_store deeds) operation ≡ None
    → IfOk result HasAnswer × (new.claims ≡ old.claims) × (new.looks ≡ old.looks)

-- what a part answers after these deeds, where the value lies that it answers from, and the place in it of the first
-- byte that it answers
abbrev pub answer_after : List Deed → Operation → Answer
answer_after deeds operation = answer (final_store deeds) operation

abbrev pub found_after : List Deed → Operation → List ℕ
found_after deeds operation =
    found_at (places_at (final_places deeds) (key_of operation)) (answer_after deeds operation)

abbrev pub first_after : List Deed → Operation → ℕ
first_after deeds operation = first_at (final_store deeds) operation

abbrev pub segment_addresses : List Seg → List ℕ
segment_addresses segs = map (λ (seg : Seg). seg.address) segs
