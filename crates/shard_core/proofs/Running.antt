-- The parts of a call, one more at a time, and a call that memory cuts short.
use Rattle.std.proofs.Common.{inl, inr, ◌++◌, length, take}
use Rattle.std.proofs.Common.{refl, ap, sym, ◌∙◌, append-nil, arith}
use Rattle.std.proofs.lemmas.List.{append_assoc}
use Rattle.pin_core.specs.declared.class.Class.{Class}
use Rattle.pinned_pool.proofs.SoughtLaws.{sought_then, sought_nothing, sought_still}
use Rattle.flake_model.specs.Command.{parts}
use Rattle.shard_core.specs.Demand.{part_row}
use Rattle.shard_core.specs.Outcomes.{SessionDeeds, entry_at, part_told, call_told, missed_in}
use Rattle.shard_core.specs.CallDemand.{parts_row}
use Rattle.shard_core.specs.Steps.{RunningStarts, PartStep, RunningRests, CutsBefore, CutsBehind, CutsRest}
use Rattle.shard_core.proofs.Growing.{parts_add, nothing_more}
use Rattle.shard_core.proofs.Needed.{for_then, for_within, for_moved, for_nothing, needing_more}
use Rattle.shard_core.proofs.Rows.{row_more, missed_more, front_row, below_end, sought_as}

pub running_starts : RunningStarts
running_starts z shards session call operations told seat after claims looks = record {
  are = tt;
  told = sym (append-nil told);
  sought = for_nothing z _ _ seat after claims looks;
  free = λ none. (claims, looks);
}

pub part_step : PartStep
part_step z shards session call operations outcomes operation outcome old mid new seat later after is running done =
    let one = parts_add shards session call operations outcomes operation outcome is in
    let here = call_told shards session call 0 operations outcomes in
    let next = part_told shards (entry_at session call (length outcomes)) operation outcome in
    record {
      are = one.are running.are done.is;
      told = done.told ∙ ap (λ (told : SessionDeeds). told ++ next) running.told ∙ append_assoc old here next
          ∙ ap (λ (told : SessionDeeds). old ++ told) (sym one.told);
      sought = for_within z _ _ _ _ _ _ seat after
          (for_then z _ _ _ _ _ _ seat later after running.sought done.sought)
          (λ class. omega (arith, row_more class operations outcomes outcome operation is))
          (λ class. omega (arith, needing_more class operations outcomes outcome operation is))
          (sym (missed_more outcomes outcome));
      free = λ none.
          let each = nothing_more operations outcomes operation outcome is none in
          let before = running.free each.0 in
          let here = done.free each.1 in
          (here.0 ∙ before.0, here.1 ∙ before.1);
    }

pub running_rests : RunningRests
running_rests z shards session call operations outcomes old new seat later after claims looks running = record {
  are = running.are;
  told = running.told;
  sought = for_moved z _ _ _ seat later seat after running.sought refl refl claims looks;
  free = λ none. let before = running.free none in (claims ∙ before.0, looks ∙ before.1);
}

pub cuts_before : CutsBefore
cuts_before z shards session call command told seat after claims looks = record {
  are = tt;
  short = inl refl;
  told = sym (append-nil told);
  sought = sought_as z (λ class. 0) _ 0 _ seat after (sought_nothing z seat after claims looks)
      (λ class. omega arith) refl;
}

pub cuts_behind : CutsBehind
cuts_behind z shards session call command outcomes operation old new seat later after is running sought =
    let operations = parts command in
    let rows = λ (class : Class). parts_row class (take (length outcomes) operations) in
    record {
      are = running.are;
      short = inr (below_end operations (length outcomes) operation is);
      told = running.told;
      sought = sought_as z _ _ _ _ seat after
          (sought_then z rows (λ class. part_row class operation) (missed_in outcomes) 0 seat later after
          running.sought.sought sought)
          (λ class. omega (arith, front_row class operations (length outcomes) operation is)) (omega arith);
    }

pub cuts_rest : CutsRest
cuts_rest z shards session call command outcomes old new seat later after claims looks cut = record {
  are = cut.are;
  short = cut.short;
  told = cut.told;
  sought = sought_still z (λ (class : Class). parts_row class (parts command)) (missed_in outcomes)
      seat later after cut.sought claims looks;
}
