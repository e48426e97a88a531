use Rattle.shard_store.proofs.Seating.{IsSeating}
use Rattle.shard_store.proofs.seats.open_seats.Given as goal

abbrev pub invariant-loop : goal.invariant-loop
invariant-loop g l = IsSeating l.shards l.counter l.seats l.fn.main l.main
