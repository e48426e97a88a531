-- What reading a source whole gives.
use Rattle.std.specs.Prelude.{◌≡◌, ℕ, ◌+◌, ◌<◌, ◌≤◌, Bool, true, List, ◌++◌, length}
use Rattle.flake_base.specs.Causes.{Rose}
use Rattle.check_files.specs.declared.error.Unread.{Unread}
use Rattle.check_files.specs.declared.error.Unread.TheVariants.{Fault, TooLarge, Memory}

-- what a source has given begins with what it had given before
abbrev pub GaveMore : List ℕ → List ℕ → Type 0
GaveMore old new = (more : List ℕ) × (new ≡ old ++ more)

-- these are all bytes that it gave meanwhile, to its end, and they are no more than the limit
pub record IsReadWhole (limit : ℕ) (old new : List ℕ) (ended : Bool) (bytes : List ℕ) : Type 0 where
  pub given : new ≡ old ++ bytes
  pub end : ended ≡ true
  pub within : length bytes ≤ limit

-- it gave more than the limit meanwhile
abbrev pub IsPast : ℕ → List ℕ → List ℕ → Type 0
IsPast limit old new = length old + limit < length new

-- the count of failed reads rose where a read failed, and else is as it was
abbrev pub IsUnread : Unread → ℕ → List ℕ → List ℕ → ℕ → ℕ → Type 0
IsUnread Fault limit old new before now = Rose before now
IsUnread TooLarge limit old new before now = IsPast limit old new × (now ≡ before)
IsUnread Memory limit old new before now = now ≡ before
