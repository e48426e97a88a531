-- Holds of one's own, and holds without their fronts.
use Rattle.std.specs.Prelude.{◌≡◌, ℕ, ◌<◌, ◌≤◌, List, [], ◌++◌, ◌==◌, if◌then◌else◌, map}
use Rattle.view_sums.specs.Total.{total}
use Rattle.pin_core.specs.Holding.{Holding, Key, fresh}
use Rattle.pin_core.specs.declared.sizes.Sizes.{Sizes}
use Rattle.pinned_pool.specs.Views.{among}
use Rattle.pinned_pool.specs.Moves.{hold_key, loose_key}
use Rattle.pinned_pool.specs.declared.view.View.{View}

-- 1 for an exclusive hold of the buffer that isn't pinned
abbrev pub own_at : ℕ → Holding → ℕ
own_at b h = if h.buffer == b then (if h.exclusive then (if h.pinned then 0 else 1) else 0) else 0

-- there is such a hold of each of these buffers, with repeats
abbrev pub AreOwn : List Holding → List ℕ → Type 0
AreOwn hs bs = (b : ℕ) → among b bs ≤ total (own_at b) hs

-- a hold, whatever its front is
abbrev pub bare : Holding → Holding
bare h = record h { front = [] }

abbrev pub bare_all : List Holding → List Holding
bare_all hs = map bare hs

abbrev pub keys_for : List ℕ → List Key
keys_for bs = map loose_key bs

abbrev pub fresh_all : List ℕ → List Holding
fresh_all bs = map fresh bs

abbrev pub key_buffers : List Key → List ℕ
key_buffers ks = map (λ (k : Key). k.buffer) ks

-- a hold of a small buffer, not pinned
abbrev pub IsStaging : Sizes → Key → Type 0
IsStaging z k = (k.buffer < z.small) × (k ≡ loose_key k.buffer)

-- a seat that did nothing but take holds
pub record OnlyTookHolds (v : View) : Type 0 where
  pub claims : v.claims ≡ []
  pub looks : v.looks ≡ []
  pub returns : v.returns ≡ 0
  pub lasts : v.lasts ≡ []

-- these holds, and behind them exclusive ones of these buffers
pub record HasParts (keys : List Key) (staged : List ℕ) (hs : List Holding) : Type 0 where
  pub front : List Holding
  pub keys_are : map hold_key front ≡ keys
  pub parts : bare_all hs ≡ bare_all front ++ fresh_all staged
