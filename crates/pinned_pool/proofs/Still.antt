-- For callers: what a seat still has after each call, by what the call ensures of it.
use Rattle.std.proofs.Common.{◌≡◌, ◌≢◌, ℕ, ◌+◌, ◌<◌, ◌≤◌, List, [], ◌∷◌, ◌++◌, length, take, Bool, true, false, cond}
use Rattle.std.proofs.Common.{sym, ap, ◌∙◌, subst, arith}
use Rattle.std.proofs.lemmas.List.{length-append, length-take-le}
use Rattle.view_sums.specs.Total.{total, Each}
use Rattle.pin_core.specs.Holding.{Holding, Key, at, sole_at, fresh}
use Rattle.pin_core.specs.declared.sizes.Sizes.{Sizes}
use Rattle.pinned_pool.specs.Moves.{means, same_key, meant_count, times_asked, HasHolds, front_of, pinned_hold, put}
use Rattle.pinned_pool.specs.Moves.{sharing, taking, unpin, split_old, split_new, joined_views}
use Rattle.pinned_pool.specs.Claims.{Passed, WinsIn}
use Rattle.pinned_pool.specs.Named.{IsSeat}
use Rattle.pinned_pool.specs.declared.view.View.{View}
use Rattle.pinned_pool.proofs.Keys.{same_key-refl, some-at, times-without}
use Rattle.pinned_pool.proofs.AfterSteps as list

-- a claim that won
module _ (first count : ℕ) (k : Key) (v w : View) (won : WinsIn first count k v w) where
  pub won-holds : w.holds ≡ fresh k.buffer ∷ v.holds
  won-holds = ap (λ (x : View). x.holds) won.seat

  pub won-credits : w.credits ≡ v.credits
  won-credits = ap (λ (x : View). x.credits) won.seat

  pub won-returns : w.returns ≡ v.returns
  won-returns = ap (λ (x : View). x.returns) won.seat

  pub won-claims : w.claims ≡ v.claims ++ k.buffer ∷ []
  won-claims = ap (λ (x : View). x.claims) won.seat

  pub won-looks : w.looks ≡ v.looks ++ won.looks
  won-looks = ap (λ (x : View). x.looks) won.seat

  -- the buffer is one of the stretch
  pub won-class : (first ≤ k.buffer) × (k.buffer < first + count)
  won-class = let b = ap (λ (j : Key). j.buffer) won.key in (omega (arith, b), omega (arith, b, won.within))

  pub won-key : k ≡ record { buffer = k.buffer; pinned = false }
  won-key = won.key ∙ (λ j. record { buffer = (sym won.key j).buffer; pinned = false })

  -- the new hold is exclusive, with an empty front
  pub won-held : 0 < meant_count k w.holds
  won-held =
      let own : cond (means k (fresh k.buffer)) 1 0 ≡ 1 = ap {B = ℕ} (λ (j : Key). cond (same_key k j) 1 0)
      (sym won-key) ∙ ap {B = ℕ} (λ t. cond t 1 0) (same_key-refl k) in
      omega (arith, ap (meant_count k) won-holds, own)

  pub won-sole : 0 < total (sole_at k.buffer) w.holds
  won-sole = omega (arith, ap (total (sole_at k.buffer)) won-holds, list.sole-won k.buffer v.holds)

  pub won-front : front_of k.buffer w.holds ≡ []
  won-front = ap (front_of k.buffer) won-holds ∙ list.front-won k.buffer v.holds

  -- the seat's other holds are of other buffers, and stay
  pub won-apart : (c : ℕ) → 0 < total (at c) v.holds → c ≢ k.buffer
  won-apart c has e = omega (arith, has, won.alone, ap (λ (b : ℕ). total (at b) v.holds) e)

  pub won-still : (j : Key) → 0 < meant_count j v.holds → 0 < meant_count j w.holds
  won-still j has = omega (arith, has, ap (meant_count j) won-holds)

  pub won-still-sole : (c : ℕ) → 0 < total (sole_at c) v.holds → 0 < total (sole_at c) w.holds
  won-still-sole c has = omega (arith, has, ap (total (sole_at c)) won-holds)

  pub won-still-front : (c : ℕ) → 0 < total (at c) v.holds → front_of c w.holds ≡ front_of c v.holds
  won-still-front c has = ap (front_of c) won-holds ∙ list.front-won-else k.buffer c v.holds (won-apart c has)

-- a claim that found no free buffer
pub passed-holds : (b n : ℕ) (v w : View) → Passed b n v w → w.holds ≡ v.holds
passed-holds b n v w p = ap (λ (x : View). x.holds) p.seat

pub passed-credits : (b n : ℕ) (v w : View) → Passed b n v w → w.credits ≡ v.credits
passed-credits b n v w p = ap (λ (x : View). x.credits) p.seat

pub passed-returns : (b n : ℕ) (v w : View) → Passed b n v w → w.returns ≡ v.returns
passed-returns b n v w p = ap (λ (x : View). x.returns) p.seat

pub passed-claims : (b n : ℕ) (v w : View) → Passed b n v w → w.claims ≡ v.claims
passed-claims b n v w p = ap (λ (x : View). x.claims) p.seat

-- a put
module _ (b i x : ℕ) (v w : View) (step : w ≡ put b i x v) where
  pub put-still : (k : Key) → 0 < meant_count k v.holds → 0 < meant_count k w.holds
  put-still k has = omega (arith, has, ap (λ (y : View). meant_count k y.holds) step, list.times-write k b i x v.holds)

  pub put-sole : (c : ℕ) → 0 < total (sole_at c) v.holds → 0 < total (sole_at c) w.holds
  put-sole c has = omega
      (arith, has, ap (λ (y : View). total (sole_at c) y.holds) step, list.sole-write c b i x v.holds)

  pub put-at : (c : ℕ) → total (at c) w.holds ≡ total (at c) v.holds
  put-at c = ap (λ (y : View). total (at c) y.holds) step ∙ list.at-write c b i x v.holds

  pub put-front : 0 < total (sole_at b) v.holds → front_of b w.holds ≡ take i (front_of b v.holds) ++ x ∷ []
  put-front has = ap (λ (y : View). front_of b y.holds) step ∙ list.front-write b i x v.holds
      (list.sole-held b v.holds has)

  pub put-length : 0 < total (sole_at b) v.holds → i ≤ length (front_of b v.holds) → length (front_of b w.holds) ≡ i + 1
  put-length has within = ap length (put-front has) ∙ length-append (take i (front_of b v.holds)) (x ∷ [])
      ∙ ap (λ (n : ℕ). n + 1) (length-take-le i (front_of b v.holds) within)

  pub put-front-else : (c : ℕ) → c ≢ b → front_of c w.holds ≡ front_of c v.holds
  put-front-else c away = ap (λ (y : View). front_of c y.holds) step ∙ list.front-write-else b c i x v.holds away

-- a pin, for the owner
module _ (b : ℕ) (v w : View) (step : w ≡ sharing b v) where
  pub shared-times : (k : Key) → meant_count k w.holds ≡ meant_count k v.holds
  shared-times k = ap (λ (y : View). meant_count k y.holds) step ∙ list.times-share k b v.holds

  pub shared-still : (k : Key) → 0 < meant_count k v.holds → 0 < meant_count k w.holds
  shared-still k has = omega (arith, has, shared-times k)

  pub shared-at : (c : ℕ) → total (at c) w.holds ≡ total (at c) v.holds
  shared-at c = ap (λ (y : View). total (at c) y.holds) step ∙ list.at-share c b v.holds

  pub shared-front : (c : ℕ) → front_of c w.holds ≡ front_of c v.holds
  shared-front c = ap (λ (y : View). front_of c y.holds) step ∙ list.front-share c b v.holds

  pub shared-sole : (c : ℕ) → c ≢ b → 0 < total (sole_at c) v.holds → 0 < total (sole_at c) w.holds
  shared-sole c away has =
      omega (arith, has, ap (λ (y : View). total (sole_at c) y.holds) step, list.sole-share c b v.holds away)

-- and for the taker
module _ (b : ℕ) (front : List ℕ) (v w : View) (step : w ≡ taking (pinned_hold b front) v) where
  pub taken-times : (k : Key) → meant_count k w.holds ≡ meant_count k v.holds
      + cond (same_key k (record { buffer = b; pinned = true })) 1 0
  taken-times k = omega
      (arith, ap (λ (y : View). meant_count k y.holds) step, list.times-append k v.holds (pinned_hold b front ∷ []))

  pub taken-held : 0 < meant_count (record { buffer = b; pinned = true }) w.holds
  taken-held = omega (
    arith,
    taken-times (record { buffer = b; pinned = true }),
    ap {B = ℕ} (λ t. cond t 1 0)
        (same_key-refl (record { buffer = b; pinned = true })),
  )

  pub taken-still : (k : Key) → 0 < meant_count k v.holds → 0 < meant_count k w.holds
  taken-still k has = omega (arith, has, taken-times k)

  pub taken-front : (z : Sizes) → IsSeat z w → front_of b w.holds ≡ front
  taken-front z s =
      let holds = ap (λ (y : View). y.holds) step in
      ap (front_of b) holds ∙ list.front-taken s.fronts.0 b v.holds front
      (subst (λ hs. Each (λ (h : Holding). h.front ≡ s.fronts.0 h.buffer) hs) holds s.fronts.1)

  pub taken-still-front : (c : ℕ) → 0 < total (at c) v.holds → front_of c w.holds ≡ front_of c v.holds
  taken-still-front c has = ap (λ (y : View). front_of c y.holds) step
      ∙ list.front-append c v.holds (pinned_hold b front ∷ []) has

-- an unpin
module _ (last : Bool) (k : Key) (v w : View) (step : w ≡ unpin last k v) where
  pub unpinned-times : (j : Key) → 0 < meant_count k v.holds → meant_count j w.holds + cond (same_key j k) 1 0
      ≡ meant_count j v.holds
  unpinned-times j has = omega (arith, ap (λ (y : View). meant_count j y.holds) step, times-without j k v.holds has)

  pub unpinned-front : (z : Sizes) → IsSeat z v → (c : ℕ) → 0 < total (at c) w.holds → front_of c w.holds
      ≡ front_of c v.holds
  unpinned-front z s c has =
      let holds = ap (λ (y : View). y.holds) step in
      ap (front_of c) holds ∙ list.front-without s.fronts.0 c k v.holds s.fronts.1
      (omega (arith, has, ap (total (at c)) holds))

-- a split, for the seat that stays
module _ (ks : List Key) (n : ℕ) (v w : View) (step : w ≡ split_old ks n v) where
  pub split_old-times : (j : Key) → HasHolds ks v.holds → meant_count j w.holds + times_asked j ks
      ≡ meant_count j v.holds
  split_old-times j has =
      omega (arith, ap (λ (y : View). meant_count j y.holds) step, list.times-left_by j ks v.holds has)

  pub split_old-front : (z : Sizes) → IsSeat z v → (c : ℕ) → 0 < total (at c) w.holds → front_of c w.holds
      ≡ front_of c v.holds
  split_old-front z s c has =
      let holds = ap (λ (y : View). y.holds) step in
      ap (front_of c) holds ∙ list.front-left_by s.fronts.0 c ks v.holds s.fronts.1
      (omega (arith, has, ap (total (at c)) holds))

-- and for the new one
module _ (ks : List Key) (n : ℕ) (v w : View) (step : w ≡ split_new ks n v) where
  pub split_new-times : (j : Key) → HasHolds ks v.holds → meant_count j w.holds ≡ times_asked j ks
  split_new-times j has = ap (λ (y : View). meant_count j y.holds) step ∙ list.times-taken_by j ks v.holds has

  pub split_new-front : (z : Sizes) → IsSeat z v → (c : ℕ) → 0 < total (at c) w.holds → front_of c w.holds
      ≡ front_of c v.holds
  split_new-front z s c has =
      let holds = ap (λ (y : View). y.holds) step in
      ap (front_of c) holds ∙ list.front-taken_by s.fronts.0 c ks v.holds s.fronts.1
      (omega (arith, has, ap (total (at c)) holds))

-- a join
module _ (v u w : View) (step : w ≡ joined_views v u) where
  pub joined-times : (j : Key) → meant_count j w.holds ≡ meant_count j v.holds + meant_count j u.holds
  joined-times j = ap (λ (y : View). meant_count j y.holds) step ∙ list.times-append j v.holds u.holds

  pub joined-still : (j : Key) → 0 < meant_count j v.holds → 0 < meant_count j w.holds
  joined-still j has = omega (arith, has, joined-times j)

  pub joined-too : (j : Key) → 0 < meant_count j u.holds → 0 < meant_count j w.holds
  joined-too j has = omega (arith, has, joined-times j)

  pub joined-front : (c : ℕ) → 0 < total (at c) v.holds → front_of c w.holds ≡ front_of c v.holds
  joined-front c has = ap (λ (y : View). front_of c y.holds) step ∙ list.front-append c v.holds u.holds has

  pub joined-front-too : (z : Sizes) → IsSeat z w → (c : ℕ) → 0 < total (at c) u.holds → front_of c w.holds
      ≡ front_of c u.holds
  joined-front-too z s c has =
      let holds = ap (λ (y : View). y.holds) step in
      ap (front_of c) holds ∙ list.front-joined s.fronts.0 c v.holds u.holds
      (subst (λ hs. Each (λ (h : Holding). h.front ≡ s.fronts.0 h.buffer) hs) holds s.fronts.1) has

-- what to give to `search`
pub ruleset seat_steps = (
  list.sole-held,
  some-at,
  list.has_none,
  list.has_one,
  won-holds,
  won-credits,
  won-returns,
  won-claims,
  won-class,
  won-held,
  won-sole,
  won-front,
  won-apart,
  won-still,
  won-still-sole,
  won-still-front,
  passed-holds,
  passed-credits,
  passed-returns,
  passed-claims,
  put-still,
  put-sole,
  put-at,
  put-front,
  put-length,
  put-front-else,
  shared-times,
  shared-still,
  shared-at,
  shared-front,
  shared-sole,
  taken-times,
  taken-held,
  taken-still,
  taken-front,
  taken-still-front,
  unpinned-times,
  unpinned-front,
  split_old-times,
  split_old-front,
  split_new-times,
  split_new-front,
  joined-times,
  joined-still,
  joined-too,
  joined-front,
  joined-front-too,
)
