use Rattle.std.proofs.Common.{refl}
use Rattle.serve_inputs.proofs.Dumps.{if_is, sends-out}
use Rattle.serve_inputs.proofs.workers.write_dump.Goals as goal

pub returns-in-Ok-clause-taken : goal.returns-in-Ok-clause-taken
returns-in-Ok-clause-taken g c = if_is _ c.args.taken c.in-Ok.dump c.in-Ok.is (record {
  points_are = c.write-wire.ensures.points;
  is_taken = refl;
  bytes_are = c.write-wire.ensures.bytes;
  sends = sends-out _ _ _ _ _ _ c.write-wire.ensures.flushed;
  emptied = c.write-wire.ensures.seat;
})
