use Rattle.std.proofs.Common.{◌≡◌, ◌++◌, length}
use Rattle.std.specs.Vec.Iter.{into_iter_items, into_iter_len}
use Rattle.frag_value.specs.Pins.{all_frags}
use Rattle.pin_dump.specs.Dumps.{GivesHolds}
use Rattle.pin_dump.proofs.giving.give_back.Given as goal

abbrev pub invariant-loop-pair : goal.invariant-loop-pair
invariant-loop-pair g l = record {
  all : l.yielded ++ into_iter_items l.pair-iterator ≡ l.fn.pairs.items;
  left : into_iter_len l.pair-iterator ≡ length (into_iter_items l.pair-iterator);
  gives : GivesHolds (all_frags l.yielded) l.fn.seat l.seat;
}
