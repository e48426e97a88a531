use Rattle.std.proofs.Common.{arith, ℕ}
use Rattle.std.proofs.lemmas.List.{length-take, length-drop}
use Rattle.file_outside.proofs.Known.{Appends-further, Appends-Keeps}
use Rattle.file_outside.proofs.again.write_front.Goals as goal
use Rattle.file_outside.proofs.again.write_front.Goals.{in-Ok, in-Err}

-- a write goes on where the last one ended
pub writes-preserved : goal.writes-preserved
writes-preserved g c =
    elim c.match-write.branch [
      | in-Ok w ↦ rw w.count-is (record {
        within = omega (arith, w.in-Ok.ensures.bound, length-take {A = ℕ}, length-drop {A = ℕ});
        text = Appends-further _ _ _ c.args.bytes.now c.writes.count w.in-Ok.more c.writes.invariant.text
            w.in-Ok.ensures.bytes;
      })
      | in-Err w ↦ rw w.count-is (record {
        within = c.writes.invariant.within;
        text = Appends-Keeps _ _ _ _ c.writes.invariant.text w.in-Err.ensures.bytes;
      })
    ]
