use Rattle.std.proofs.Common.{◌≡◌, ◌+◌, ◌≤◌, ◌++◌, [], All, Some, length, map, vec_len, vec_capacity}
use Rattle.std.specs.Vec.Iter.{into_iter_items, into_iter_len}
use Rattle.command_pump.specs.Pump.{origin_of}
use Rattle.session_pass.specs.Fresh.{IsFresh}
use Rattle.drive_script.specs.Driving.{driving_of, IsNew}
use Rattle.run_resources.specs.Opened.{IsSessionSlot}
use Rattle.drive_inputs.proofs.pairing.pair_up.Given as goal

abbrev pub invariant-loop-slot : goal.invariant-loop-slot
invariant-loop-slot g l = record {
  fresh : All (λ d. IsNew g.P.PoolName.sizes (driving_of d.connection.session d.connection.device.failed
      d.connection.device.end
      d.asking.kept d.asking.end d.asking.pump d.wire) × IsFresh g.P.PoolName.sizes d.connection.session d.asking.pump)
      l.drivings.items;
  sessions : map (λ d. d.connection.session) l.drivings.items ≡ map (λ d. d.session) l.yielded;
  origins : map (λ d. d.asking.pump.origin) l.drivings.items
      ++ map (λ s. origin_of (g.S.Source.name s) (g.S.Source.whole s)) (into_iter_items l.more_sources)
      ≡ map (λ s. origin_of (g.S.Source.name s) (g.S.Source.whole s)) l.fn.sources.items;
  unread : All (λ s. g.S.Source.given s ≡ []) (into_iter_items l.more_sources);
  faults : map (λ d. d.asking.pump.faults) l.drivings.items
      ++ map (λ s. g.S.Source.read_faults s) (into_iter_items l.more_sources)
      ≡ map (λ s. g.S.Source.read_faults s) l.fn.sources.items;
  wires : map (λ d. d.wire) l.drivings.items ++ map Some (into_iter_items l.more_wires) ≡ map Some l.fn.wires.items;
  rest : All (λ d. IsSessionSlot g.P.PoolName.sizes d.session d.device.end d.device.failed)
      (into_iter_items l.slot-iterator);
  all : l.yielded ++ into_iter_items l.slot-iterator ≡ l.fn.slots.items;
  left : into_iter_len l.slot-iterator ≡ length (into_iter_items l.slot-iterator);
  source_count : length (into_iter_items l.more_sources) ≡ length (into_iter_items l.slot-iterator);
  wire_count : length (into_iter_items l.slot-iterator) ≤ length (into_iter_items l.more_wires);
  room : vec_len l.drivings + length (into_iter_items l.slot-iterator) ≤ vec_capacity l.drivings;
}
