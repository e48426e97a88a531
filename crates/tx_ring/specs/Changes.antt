-- How the calls change what the driver knows.
use Rattle.std.specs.Prelude.{◌≡◌, ℕ, ◌-◌, ◌%◌, ◌<◌, ◌≤◌, ◌⊎◌, List, [], ◌∷◌, ◌++◌, length}
use Rattle.flake_base.specs.declared.segment.Seg.{Seg}
use Rattle.tx_ring.specs.Words.{extent}
use Rattle.tx_ring.specs.declared.view.DriverView.{DriverView}

-- how many descriptors a ring may have
abbrev pub IsSize : ℕ → Type 0
IsSize n = (n % 8 ≡ 0) × (8 ≤ n) × (n ≤ 4096)

module _ {P : Type 0} where
  abbrev pub IsPrefix : List P → List P → Type 0
  IsPrefix xs ys = (rest : List P) × (ys ≡ xs ++ rest)

  -- one frame more was posted, and all else is as before
  pub record IsPosted (f : P) (old new : DriverView P) : Type 0 where
    pub posted : new.posted ≡ old.posted ++ f ∷ []
    pub reaped : new.reaped ≡ old.reaped
    pub misses : new.misses ≡ old.misses
    pub told : new.told ≡ old.told

  -- the oldest frame was reaped, and all else is as before
  pub record IsReaped (f : P) (old new : DriverView P) : Type 0 where
    pub more : List P
    pub oldest : old.posted ≡ old.reaped ++ f ∷ more
    pub posted : new.posted ≡ old.posted
    pub reaped : new.reaped ≡ old.reaped ++ f ∷ []
    pub misses : new.misses ≡ old.misses
    pub told : new.told ≡ old.told

  -- nothing is posted that was not reaped; or the oldest frame's status was found without DD, which is a miss
  abbrev pub Misses : DriverView P → DriverView P → Type 0
  Misses old new = ((old.posted ≡ old.reaped) × (new.misses ≡ old.misses))
      ⊎ ((new.misses ≡ old.misses ++ length old.reaped ∷ []) × (length old.reaped < length old.posted))

  -- no frame was reaped, and all that is known to be completed was reaped before
  pub record HasMissed (old new : DriverView P) : Type 0 where
    pub posted : new.posted ≡ old.posted
    pub reaped : new.reaped ≡ old.reaped
    pub told_stays : new.told ≡ old.told
    pub told : old.told ≤ length old.reaped
    pub cause : Misses old new

module _ {P : Type 0} (segs : P → List Seg) where
  -- how many descriptors posted frames have that were not reaped
  abbrev pub unreaped : DriverView P → ℕ
  unreaped d = extent segs d.posted - extent segs d.reaped

  -- how many of a ring's n descriptors are free: the tail never meets the head
  abbrev pub room_in : ℕ → DriverView P → ℕ
  room_in n d = n - 1 - unreaped d
