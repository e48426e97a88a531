use Rattle.std.proofs.Common.{◌++◌, ◌≡◌, ◌+◌, ◌≤◌, length, map, vec_len, vec_capacity}
use Rattle.std.specs.Vec.Iter.{into_iter_items, into_iter_len}
use Rattle.command_pump.specs.Pump.{origin_of}
use Rattle.run_resources.specs.Joined.{HasJoined}
use Rattle.drive_inputs.proofs.results.bring_in.Given as goal

abbrev pub invariant-loop-account : goal.invariant-loop-account
invariant-loop-account g l = record {
  all : l.yielded ++ into_iter_items l.account-iterator ≡ l.fn.accounts.items;
  left : into_iter_len l.account-iterator ≡ length (into_iter_items l.account-iterator);
  ends : l.ends.items ≡ map (λ a. a.end) l.yielded;
  lists : l.lists.items ≡ map (λ a. a.mine) l.yielded;
  origins : map (λ s. origin_of (g.S.Source.name s) (g.S.Source.whole s)) l.sources.items
      ≡ map (λ a. a.pump.origin) l.yielded;
  givens : map (λ s. g.S.Source.given s) l.sources.items ≡ map (λ a. a.pump.given) l.yielded;
  endeds : map (λ s. g.S.Source.ended s) l.sources.items ≡ map (λ a. a.pump.ended) l.yielded;
  faults : map (λ s. g.S.Source.read_faults s) l.sources.items ≡ map (λ a. a.pump.faults) l.yielded;
  wires : l.wires.items ≡ map (λ a. a.wire) l.yielded;
  seats : HasJoined (map (λ a. a.seat) l.yielded) l.fn.main l.main;
  end_room : length (into_iter_items l.account-iterator) ≤ l.ends.spare;
  list_room : length (into_iter_items l.account-iterator) ≤ l.lists.spare;
  source_room : vec_len l.sources + length (into_iter_items l.account-iterator) ≤ vec_capacity l.sources;
  wire_room : vec_len l.wires + length (into_iter_items l.account-iterator) + length (into_iter_items l.past)
      ≤ vec_capacity l.wires;
}
