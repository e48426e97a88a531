-- Any steps by any seats, from the opening on.
use Rattle.std.specs.Prelude.{◌≡◌, ℕ, ◌^◌, ◌<◌, ◌≤◌, List, [], ◌∷◌, if◌then◌else◌, replicate}
use mathlib.Core.Option.{some}
use lib.ListN.{get_elem?}
use Rattle.view_sums.specs.Total.{total, same}
use Rattle.pin_core.specs.declared.sizes.Sizes.{Sizes}
use Rattle.pinned_pool.specs.Views.{opener, all_claims, all_looks}
use Rattle.pinned_pool.specs.Rule.{table_words, IsSoundTable}
use Rattle.pinned_pool.specs.StepKinds.{PoolStep, wins, misses, peeks, puts, loads, pins, unpins, splits, joins, Makes}
use Rattle.pinned_pool.specs.declared.view.View.{View}

-- the words, and the views of all seats
pub record Table : Type 0 where
  pub words : List ℕ
  pub views : List View

abbrev pub opened_table : Sizes → Table
opened_table z = record { words = replicate (table_words z) 0; views = opener z.credits ∷ [] }

-- a live seat makes a step
pub record Steps (z : Sizes) (kind : PoolStep) (old new : Table) : Type 0 where
  pub seat : ℕ
  pub view : View
  pub sits : get_elem? old.views seat ≡ some view
  pub live : 0 < view.credits
  pub makes : Makes z old.words old.views seat view kind new.words new.views

-- the steps in turn
abbrev pub RunsPool : Sizes → Table → List PoolStep → Table → Type 0
RunsPool z old [] new = new ≡ old
RunsPool z old (kind ∷ kinds) new = (mid : Table) × Steps z kind old mid × RunsPool z mid kinds new

abbrev pub RunsStaySound : Type 0
RunsStaySound =
    (z : Sizes) (kinds : List PoolStep) (end : Table) → 0 < z.credits → z.credits ≤ 2 ^ 31
    → RunsPool z (opened_table z) kinds end → IsSoundTable z end.words end.views

-- 1 for a claim of the buffer that won, for one that was lost, and for the unpin of a pinned hold
abbrev pub win_of : ℕ → PoolStep → ℕ
win_of b (wins c) = same c b
win_of b (misses c) = 0
win_of b (peeks c) = 0
win_of b (puts c i x) = 0
win_of b (loads c i) = 0
win_of b (pins c) = 0
win_of b (unpins k) = 0
win_of b (splits ks n) = 0
win_of b (joins other w) = 0

abbrev pub miss_of : ℕ → PoolStep → ℕ
miss_of b (wins c) = 0
miss_of b (misses c) = same c b
miss_of b (peeks c) = 0
miss_of b (puts c i x) = 0
miss_of b (loads c i) = 0
miss_of b (pins c) = 0
miss_of b (unpins k) = 0
miss_of b (splits ks n) = 0
miss_of b (joins other w) = 0

abbrev pub return_of : PoolStep → ℕ
return_of (wins c) = 0
return_of (misses c) = 0
return_of (peeks c) = 0
return_of (puts c i x) = 0
return_of (loads c i) = 0
return_of (pins c) = 0
return_of (unpins k) = if k.pinned then 1 else 0
return_of (splits ks n) = 0
return_of (joins other w) = 0

-- what all seats together tell of these steps
pub record ViewsCount (kinds : List PoolStep) (end : Table) : Type 0 where
  pub claims : (b : ℕ) → all_claims b end.views ≡ total (win_of b) kinds
  pub looks : (b : ℕ) → all_looks b end.views ≡ total (miss_of b) kinds
  pub returns : total (λ (v : View). v.returns) end.views ≡ total return_of kinds

-- claims, looks and returns are how many claims won, claims lost and unpins of pinned holds there were
abbrev pub ViewsCountRuns : Type 0
ViewsCountRuns = (z : Sizes) (kinds : List PoolStep) (end : Table) → RunsPool z (opened_table z) kinds end
    → ViewsCount kinds end
