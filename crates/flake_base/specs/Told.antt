-- What the outside tells, and how a call changes it.
use Rattle.std.specs.Prelude.{◌≡◌, ℕ, ◌+◌, ◌≤◌, Bool, List, length, Option}
use Rattle.flake_base.specs.Growth.{Grew}

pub record WireTold : Type 0 where
  -- all bytes that were put; a front of a piece where that failed
  pub put : List ℕ
  -- how many of these are kept back, for a flush
  pub kept : ℕ
  -- how often a put failed, and how often a flush
  pub put_faults : ℕ
  pub flush_faults : ℕ

-- a wire took a whole piece, or after a failure a front of it; no flush failed
pub record Took (failed : Bool) (piece : List ℕ) (old new : WireTold) : Type 0 where
  pub put : Grew failed piece old.put new.put
  pub kept : new.kept ≤ old.kept + length piece
  pub flush_faults : new.flush_faults ≡ old.flush_faults

-- a flush puts nothing, and keeps no more back than before; no put failed
pub record Flushed (old new : WireTold) : Type 0 where
  pub put : new.put ≡ old.put
  pub kept : new.kept ≤ old.kept
  pub put_faults : new.put_faults ≡ old.put_faults

pub record HostTold : Type 0 where
  -- what is held under a name, where that is told
  pub holds : List ℕ → Option (List ℕ)
  -- how often an open was called
  pub opens : ℕ
  -- how often an open of a name failed; it may rise with failed opens of other names too
  pub open_faults : List ℕ → ℕ
  -- all that was said; a front of a piece where that failed
  pub said : List ℕ
  -- how often a say failed
  pub say_faults : ℕ
