use Rattle.std.proofs.Common.{◌++◌, ◌≡◌, ◌+◌, ◌≤◌, length, map, vec_len, vec_capacity}
use Rattle.std.specs.Vec.Iter.{into_iter_items, into_iter_len}
use Rattle.run_resources.specs.Joined.{HasJoined}
use Rattle.serve_inputs.proofs.results.bring_in.Given as goal

abbrev pub invariant-loop-done : goal.invariant-loop-done
invariant-loop-done g l = record {
  all : l.yielded ++ into_iter_items l.done-iterator ≡ l.fn.dones.items;
  left : into_iter_len l.done-iterator ≡ length (into_iter_items l.done-iterator);
  ends : l.ends.items ≡ map (λ d. d.account.end) l.yielded;
  sent : l.sent.items ≡ map (λ d. d.account.sent) l.yielded;
  lists : l.lists.items ≡ map (λ d. d.account.mine) l.yielded;
  names : map (λ s. g.S.Source.name s) l.sources.items ≡ map (λ d. d.account.pump.origin.name) l.yielded;
  wholes : map (λ s. g.S.Source.whole s) l.sources.items ≡ map (λ d. d.account.pump.origin.whole) l.yielded;
  givens : map (λ s. g.S.Source.given s) l.sources.items ≡ map (λ d. d.account.pump.given) l.yielded;
  endeds : map (λ s. g.S.Source.ended s) l.sources.items ≡ map (λ d. d.account.pump.ended) l.yielded;
  faults : map (λ s. g.S.Source.read_faults s) l.sources.items ≡ map (λ d. d.account.pump.faults) l.yielded;
  wires : l.wires.items ≡ map (λ d. d.wire) l.yielded;
  seats : HasJoined (map (λ d. d.account.seat) l.yielded) l.fn.main l.main;
  end_room : length (into_iter_items l.done-iterator) ≤ l.ends.spare;
  list_room : length (into_iter_items l.done-iterator) ≤ l.lists.spare;
  sent_room : vec_len l.sent + length (into_iter_items l.done-iterator) ≤ vec_capacity l.sent;
  source_room : vec_len l.sources + length (into_iter_items l.done-iterator) ≤ vec_capacity l.sources;
  wire_capacity : vec_capacity l.wires ≡ vec_capacity l.fn.results.wires;
  wire_room : vec_len l.wires + length (into_iter_items l.done-iterator) + length (into_iter_items l.past)
      ≤ vec_capacity l.wires;
}
