-- What a shard keeps, as contracts see it.
use Rattle.std.specs.Prelude.{List}
use Rattle.pinned_pool.specs.declared.view.View.{View}
use Rattle.flake_base.specs.declared.segment.Seg.{Seg}
use Rattle.frag_value.specs.Taken.{TakenPiece}
use Rattle.shard_core.specs.ShardMaps.{ShardMapView, ShardState}
use Rattle.shard_core.specs.declared.kept.Kept.{Kept}

module _ {P : Type 0} where
  abbrev pub kept_view : Kept P → ShardMapView
  kept_view kept = record { entries = kept.values.entries; seat = kept.own }

  -- what is kept, the seat that pays, the segments that were stored, and the pieces that were taken
  abbrev pub kept_state : Kept P → View → List Seg → List TakenPiece → ShardState
  kept_state kept payer stored taken =
      record { shard = kept_view kept; payer = payer; stored = stored; taken = taken }
