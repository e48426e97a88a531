-- Several buffers that are claimed one after another, and given back.
use Rattle.std.specs.Prelude.{◌≡◌, ℕ, ◌<◌, ◌≤◌, List, ◌∷◌, ◌++◌, fold, length, map}
use Rattle.view_sums.specs.Total.{total, Each}
use Rattle.pin_core.specs.Buffers.{buffers}
use Rattle.pin_core.specs.Holding.{Holding, Key, at, fresh}
use Rattle.pin_core.specs.declared.sizes.Sizes.{Sizes}
use Rattle.pin_core.specs.declared.class.Class.{Class}
use Rattle.pinned_pool.specs.Views.{looked_at}
use Rattle.pinned_pool.specs.Classes.{class_at}
use Rattle.pinned_pool.specs.Claims.{count_of}
use Rattle.pinned_pool.specs.Moves.{loose_key}
use Rattle.pinned_pool.specs.declared.pool.NoBuffer.{NoBuffer}
use Rattle.pinned_pool.specs.declared.view.View.{View}

-- holds with those that were claimed since, the last one first
abbrev pub with_claimed : List Key → List Holding → List Holding
with_claimed ks hs = fold (λ l (k : Key). fresh k.buffer ∷ l) hs ks

-- credits and returns are as before, and the looks only grew
pub record KeepsCredits (old new : View) : Type 0 where
  pub credits : new.credits ≡ old.credits
  pub returns : new.returns ≡ old.returns
  pub looks : (more : List (ℕ × ℕ)) × (new.looks ≡ old.looks ++ more)

-- these holds were claimed, each of a buffer that the seat didn't hold
pub record Claims (ks : List Key) (old new : View) : Type 0 where
  pub keeps : KeepsCredits old new
  pub holds : new.holds ≡ with_claimed ks old.holds
  pub claims : new.claims ≡ old.claims ++ map (λ (k : Key). k.buffer) ks
  pub lasts : new.lasts ≡ old.lasts
  pub loose : Each (λ (k : Key). k ≡ loose_key k.buffer) ks
  pub apart : Each (λ (k : Key). total (at k.buffer) old.holds ≡ 0) ks

-- the key's buffer is one of the class
abbrev pub IsIn : Sizes → Class → Key → Type 0
IsIn z class k = (k.buffer < buffers z) × (class_at z k.buffer ≡ class)

-- at most so many buffers of the class were claimed, and their holds stand behind those that the list had
pub record ClaimsMore (z : Sizes) (class : Class) (count : ℕ) (had has : List Key) (old new : View) : Type 0 where
  pub more : List Key
  pub list : has ≡ had ++ more
  pub few : length more ≤ count
  pub class_is : Each (IsIn z class) more
  pub claims : Claims more old new

-- each buffer of the class was found held once more
pub record NoneFree (z : Sizes) (none : NoBuffer) (old new : View) : Type 0 where
  pub looked : none.looked ≡ count_of z none.class
  pub found : (b : ℕ) → b < buffers z → class_at z b ≡ none.class → looked_at b old.looks < looked_at b new.looks

-- what was claimed and looked at stays, and so do credits
pub record GivesBack (old new : View) : Type 0 where
  pub credits : new.credits ≡ old.credits
  pub returns : new.returns ≡ old.returns
  pub claims : new.claims ≡ old.claims
  pub looks : new.looks ≡ old.looks
