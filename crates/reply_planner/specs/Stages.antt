-- The staging buffers of a session.
use Rattle.std.specs.Prelude.{◌≡◌, ℕ, ◌<◌, ◌≤◌, reverse, List, [], ◌∷◌, nat_lt, if◌then◌else◌, length, Result, Ok, Err}
use Rattle.std.specs.Prelude.{⊤, slice_get, Some}
use Rattle.view_sums.specs.Total.{total, Each}
use Rattle.flake_base.specs.declared.segment.Seg.{Seg}
use Rattle.pin_core.specs.Holding.{Holding, Key, at}
use Rattle.pin_core.specs.declared.class.Class.TheVariants.{Small}
use Rattle.pin_core.specs.declared.sizes.Sizes.{Sizes}
use Rattle.pinned_pool.specs.Claimed.{with_claimed, KeepsCredits, NoneFree}
use Rattle.pinned_pool.specs.Moves.{without_keys}
use Rattle.pinned_pool.specs.declared.pool.NoBuffer.{NoBuffer}
use Rattle.pinned_pool.specs.declared.view.View.{View}
use Rattle.reply_planner.specs.Owned.{AreOwn, IsStaging, keys_for, key_buffers}
use Rattle.reply_planner.specs.declared.error.OpenError.{OpenError}

abbrev pub stage_size : ℕ
stage_size = 128

-- no number is below the one before it
abbrev pub IsFrom : ℕ → List ℕ → Type 0
IsFrom a [] = ⊤
IsFrom a (b ∷ bs) = (a ≤ b) × IsFrom b bs

abbrev pub IsOrdered : List ℕ → Type 0
IsOrdered [] = ⊤
IsOrdered (b ∷ bs) = IsFrom b bs

-- a stage's holds, which lie in descending order, and how many there is room for
pub record IsStageHeld (z : Sizes) (holds : List Key) (capacity : ℕ) : Type 0 where
  pub staging : Each (IsStaging z) holds
  pub room : stage_size ≤ capacity
  pub few : length holds ≤ stage_size
  pub ordered : IsOrdered (key_buffers (reverse holds))

-- the lists of no reply
abbrev pub AreEmpty : List ℕ → List Seg → List Key → List Key → Type 0
AreEmpty text segments pins staged = (text ≡ []) × (segments ≡ []) × (pins ≡ []) × (staged ≡ [])

-- each number is above the one before it
abbrev pub IsAbove : ℕ → List ℕ → Type 0
IsAbove a [] = ⊤
IsAbove a (b ∷ bs) = (a < b) × IsAbove b bs

abbrev pub IsRising : List ℕ → Type 0
IsRising [] = ⊤
IsRising (b ∷ bs) = IsAbove b bs

-- a buffer among others that rise, in its place
abbrev pub inserted : ℕ → List ℕ → List ℕ
inserted b [] = b ∷ []
inserted b (c ∷ cs) = if nat_lt c b then c ∷ inserted b cs else b ∷ c ∷ cs

-- several, each in its place
abbrev pub merged : List ℕ → List ℕ → List ℕ
merged [] cs = cs
merged (b ∷ bs) cs = inserted b (merged bs cs)

-- the seat claimed small buffers for a stage
pub record IsStageOpened (z : Sizes) (stage : List ℕ) (old new : View) : Type 0 where
  pub count : length stage ≡ stage_size
  pub rising : IsRising stage
  pub small : Each (λ b. b < z.small) stage
  pub own : AreOwn new.holds stage
  pub holds : (weight : Holding → ℕ) → total weight new.holds ≡ total weight (with_claimed (keys_for stage) old.holds)
  pub apart : Each (λ b. total (at b) old.holds ≡ 0) stage
  pub keeps : KeepsCredits old new
  pub lasts : new.lasts ≡ old.lasts

-- or it found all small buffers held, and has what it had
pub record StageRefused (z : Sizes) (none : NoBuffer) (old new : View) : Type 0 where
  pub class_is : none.class ≡ Small
  pub none_free : NoneFree z none old new
  pub holds : new.holds ≡ old.holds
  pub keeps : KeepsCredits old new

-- why a stage isn't opened
abbrev pub WhyUnopened : Sizes → OpenError → View → View → Type 0
WhyUnopened z (OpenError.NoBuffer none) old new = StageRefused z none old new
WhyUnopened z OpenError.Memory old new = new ≡ old

abbrev pub no_memory : OpenError
no_memory = OpenError.Memory

-- how many requests found no buffer
abbrev pub stage_found_none : {A : Type 0} → Result A OpenError → ℕ
stage_found_none (Ok a) = 0
stage_found_none (Err (OpenError.NoBuffer none)) = 1
stage_found_none (Err OpenError.Memory) = 0

-- the seat has what it had, its holds perhaps in another order
pub record IsReordered (old new : View) : Type 0 where
  pub holds : (weight : Holding → ℕ) → total weight new.holds ≡ total weight old.holds
  pub credits : new.credits ≡ old.credits
  pub claims : new.claims ≡ old.claims
  pub looks : new.looks ≡ old.looks
  pub returns : new.returns ≡ old.returns
  pub lasts : new.lasts ≡ old.lasts

-- no number stands in both lists
abbrev pub NoneInBoth : List ℕ → List ℕ → Type 0
NoneInBoth one other = (k l n : ℕ) → slice_get one k ≡ Some n → slice_get other l ≡ Some n → ⊥

-- nor in two of these
abbrev pub StagesAreApart : List (List ℕ) → Type 0
StagesAreApart stages = (i j k l n : ℕ) (one other : List ℕ) → slice_get stages i ≡ Some one
    → slice_get stages j ≡ Some other → slice_get one k ≡ Some n → slice_get other l ≡ Some n → i ≡ j

-- all holds of a stage were given back
pub record IsClosed (stage : List ℕ) (old new : View) : Type 0 where
  pub holds : new.holds ≡ without_keys (keys_for stage) old.holds
  pub credits : new.credits ≡ old.credits
  pub claims : new.claims ≡ old.claims
  pub looks : new.looks ≡ old.looks
  pub returns : new.returns ≡ old.returns
