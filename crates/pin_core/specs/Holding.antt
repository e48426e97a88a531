-- A hold of a buffer, and how lists of holds are weighed.
use Rattle.std.specs.Prelude.{◌≡◌, ℕ, List, [], ◌∷◌, ◌++◌, Bool, true, false, ◌==◌, if◌then◌else◌, take}

pub record Holding : Type 0 where
  pub buffer : ℕ
  -- what the buffer's data words begin with
  pub front : List ℕ
  pub exclusive : Bool
  pub pinned : Bool

-- which hold an event means: one of this buffer, pinned or not
pub record Key : Type 0 where
  pub buffer : ℕ
  pub pinned : Bool

pub record IsMeant (k : Key) (h : Holding) : Type 0 where
  pub of_buffer : h.buffer ≡ k.buffer
  pub as_pinned : h.pinned ≡ k.pinned

-- 1 for a hold of the buffer
abbrev pub at : ℕ → Holding → ℕ
at b h = if h.buffer == b then 1 else 0

-- 1 for an exclusive hold of the buffer
abbrev pub sole_at : ℕ → Holding → ℕ
sole_at b h = if h.buffer == b then (if h.exclusive then 1 else 0) else 0

-- 1 for a hold of the buffer that is not pinned
abbrev pub loose_at : ℕ → Holding → ℕ
loose_at b h = if h.buffer == b then (if h.pinned then 0 else 1) else 0

-- 1 for a pinned hold
abbrev pub pin_of : Holding → ℕ
pin_of h = if h.pinned then 1 else 0

-- the hold of one who claimed the buffer
abbrev pub fresh : ℕ → Holding
fresh b = record { buffer = b; front = []; exclusive = true; pinned = false }

abbrev pub shared : Holding → Holding
shared h = record h { exclusive = false }

-- the hold that a pin adds
abbrev pub pinned_copy : Holding → Holding
pinned_copy h = record h { exclusive = false; pinned = true }

-- the front's first i words and the new one
abbrev pub written : ℕ → ℕ → Holding → Holding
written i x h = record h { front = take i h.front ++ x ∷ [] }
