-- What waits to be written, and what was.
use Rattle.std.specs.Prelude.{◌≡◌, ◌≤◌, ◌+◌, ◌-◌, ℕ, List, ◌++◌, length, take, Option}
use Rattle.std.specs.Io.KnownBytes.{Keeps, append_known}

pub record Rest : Type 0 where
  -- bytes that were put and are not written
  pub waiting : List ℕ
  -- all bytes that were written
  pub written : List ℕ
  -- how many bytes more can wait
  pub free : ℕ

-- all bytes that were put
abbrev pub put_of : Rest → List ℕ
put_of rest = rest.written ++ rest.waiting

-- a piece waits too
abbrev pub and_waits : Rest → List ℕ → Rest
and_waits rest piece = record rest {
  waiting = rest.waiting ++ piece;
  free = rest.free - length piece;
}

-- these bytes were put, of which the writer has what doesn't wait, where it says what it has
pub record Puts (bytes : List ℕ) (had : Option (List ℕ)) (old : Rest) (has : Option (List ℕ)) (new : Rest)
    : Type 0 where
  pub text : Keeps (append_known had (old.waiting ++ bytes)) (append_known has new.waiting)
  pub put : put_of new ≡ put_of old ++ bytes
  pub kept : length new.waiting ≤ length old.waiting + length bytes

-- a front of these bytes was
abbrev pub PutsFront : List ℕ → Option (List ℕ) → Rest → Option (List ℕ) → Rest → Type 0
PutsFront bytes had old has new = (n : ℕ) × (n ≤ length bytes) × Puts (take n bytes) had old has new
