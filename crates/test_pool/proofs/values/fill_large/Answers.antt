use Rattle.std.proofs.Common.{length, ap, arith}
use Rattle.frag_value.proofs.Cuts.{length-bytes-value}
use Rattle.test_pool.proofs.values.fill_large.Goals as goal

pub read_into-requires-clause-room : goal.read_into-requires-clause-room
read_into-requires-clause-room g c =
    let filled = c.in-Ok-fill.ensures.filled in
    omega (
      arith,
      length-bytes-value c.fill.new.seat.holds c.in-Ok-fill.value filled.has.filled,
      ap length
          filled.bytes_are,
      c.deref_mut.ensures.len,
      c.in_ok-room.ensures.len,
    )
