-- Holds of one's own: exclusive ones, not pinned, which keys without a pin mean.
use Rattle.std.proofs.Common.{◌≡◌, ℕ, ◌+◌, ◌<◌, ◌≤◌, List, [], ◌∷◌, ◌++◌, Bool, true, false, cond, eqb, sym, refl, ap}
use Rattle.std.proofs.Common.{◌∙◌, eq-eqb, arith}
use Rattle.std.proofs.lemmas.List.{map-append}
use Rattle.view_sums.specs.Total.{total, same, Each}
use Rattle.view_sums.proofs.Sums.{total-append, total-le, total-map}
use Rattle.pin_core.specs.Holding.{Holding, Key, sole_at, loose_at, fresh}
use Rattle.pin_core.specs.declared.sizes.Sizes.{Sizes}
use Rattle.pinned_pool.specs.Views.{among}
use Rattle.pinned_pool.specs.Moves.{means, hold_key, first_hold, without, holds_for, without_keys, meant_count}
use Rattle.pinned_pool.specs.Moves.{times_asked, HasHolds, loose_key}
use Rattle.pinned_pool.proofs.Keys.{Found, found, total-without, total-left_by}
use Rattle.pinned_pool.proofs.AfterSteps.{times-loose, times-taken_by}
use Rattle.frag_value.proofs.Sames.{same-yes}
use Rattle.reply_planner.specs.Owned.{own_at, AreOwn, bare, bare_all, keys_for, fresh_all, key_buffers, IsStaging}
use Rattle.reply_planner.specs.Stages.{merged}
use Rattle.reply_planner.proofs.Merged.{among-merged}

-- keys without a pin
pub buffers-keys : (bs : List ℕ) → key_buffers (keys_for bs) ≡ bs
buffers-keys [] = refl
buffers-keys (b ∷ bs) = ap (λ l. b ∷ l) (buffers-keys bs)

pub staged-keys : (z : Sizes) (ks : List Key) → Each (IsStaging z) ks → keys_for (key_buffers ks) ≡ ks
staged-keys z [] all = refl
staged-keys z (k ∷ ks) all = λ i. sym all.0.1 i ∷ staged-keys z ks all.1 i

pub small_staged : (z : Sizes) (ks : List Key) → Each (IsStaging z) ks → Each (λ b. b < z.small) (key_buffers ks)
small_staged z [] all = tt
small_staged z (k ∷ ks) all = (all.0.0, small_staged z ks all.1)

pub staging_keys : (z : Sizes) (bs : List ℕ) → Each (λ b. b < z.small) bs → Each (IsStaging z) (keys_for bs)
staging_keys z [] all = tt
staging_keys z (b ∷ bs) all = ((all.0, refl), staging_keys z bs all.1)

-- how often they are asked for
asked_bit : (t : Bool) → cond (cond t true false) 1 0 ≡ (let n : ℕ = cond t 1 0 in n)
asked_bit true = refl
asked_bit false = refl

unasked_bit : (t : Bool) → (let n : ℕ = cond (cond t false false) 1 0 in n ≡ 0)
unasked_bit true = refl
unasked_bit false = refl

pub asked-own : (b : ℕ) (bs : List ℕ) → times_asked (loose_key b) (keys_for bs) ≡ among b bs
asked-own b [] = refl
asked-own b (c ∷ bs) = omega (arith, asked_bit (eqb c b), asked-own b bs)

pub asked-pinned : (b : ℕ) (bs : List ℕ) → times_asked (record { buffer = b; pinned = true }) (keys_for bs) ≡ 0
asked-pinned b [] = refl
asked-pinned b (c ∷ bs) = omega (arith, unasked_bit (eqb c b), asked-pinned b bs)

-- an own hold is one that isn't pinned, and it is exclusive
loose_bits : (t x p : Bool) → cond t (cond x (cond p 0 1) 0) 0 ≤ cond t (cond p 0 1) 0
loose_bits true true p = omega arith
loose_bits true false p = omega arith
loose_bits false x p = omega arith

sole_bits : (t x p : Bool) → cond t (cond x (cond p 0 1) 0) 0 ≤ cond t (cond x 1 0) 0
sole_bits true true true = omega arith
sole_bits true true false = omega arith
sole_bits true false p = omega arith
sole_bits false x p = omega arith

pub own-loose : (b : ℕ) (hs : List Holding) → total (own_at b) hs ≤ total (loose_at b) hs
own-loose b hs = total-le (own_at b) (loose_at b) (λ h. loose_bits (eqb h.buffer b) h.exclusive h.pinned) hs

pub own-times : (b : ℕ) (hs : List Holding) → total (own_at b) hs ≤ meant_count (loose_key b) hs
own-times b hs = omega (arith, own-loose b hs, times-loose b hs)

pub own-sole : (b : ℕ) (hs : List Holding) → total (own_at b) hs ≤ total (sole_at b) hs
own-sole b hs = total-le (own_at b) (sole_at b) (λ h. sole_bits (eqb h.buffer b) h.exclusive h.pinned) hs

exclusive_bits : (t x p : Bool) → (let n : ℕ = cond t (cond x (cond p 0 1) 0) 0 in 0 < n) → x ≡ true
exclusive_bits true true p some = refl
exclusive_bits true false p some = absurd (omega arith)
exclusive_bits false x p some = absurd (omega arith)

pub own-exclusive : (b : ℕ) (h : Holding) → 0 < own_at b h → h.exclusive ≡ true
own-exclusive b h some = exclusive_bits (eqb h.buffer b) h.exclusive h.pinned some

-- what a seat has of its own
module _ (hs : List Holding) where
  pub own_fewer : (bs cs : List ℕ) → ((b : ℕ) → among b cs ≤ among b bs) → AreOwn hs bs → AreOwn hs cs
  own_fewer bs cs fewer own = λ b. omega (arith, own b, fewer b)

  pub own_front : (bs cs : List ℕ) → AreOwn hs (bs ++ cs) → AreOwn hs bs
  own_front bs cs own = λ b. omega (arith, own b, total-append (λ c. same c b) bs cs)

  pub own_back : (bs cs : List ℕ) → AreOwn hs (bs ++ cs) → AreOwn hs cs
  own_back bs cs own = λ b. omega (arith, own b, total-append (λ c. same c b) bs cs)

  pub own_swap : (bs cs : List ℕ) → AreOwn hs (bs ++ cs) → AreOwn hs (cs ++ bs)
  own_swap bs cs own = λ b. omega (arith, own b, total-append (λ c. same c b) bs cs, total-append (λ c. same c b) cs bs)

  pub own_merged : (bs cs : List ℕ) → AreOwn hs (bs ++ cs) → AreOwn hs (merged bs cs)
  own_merged bs cs own = λ b. omega (arith, own b, total-append (λ c. same c b) bs cs, among-merged b bs cs)

  pub own_parts : (bs cs : List ℕ) → AreOwn hs (merged bs cs) → AreOwn hs (bs ++ cs)
  own_parts bs cs own = λ b. omega (arith, own b, total-append (λ c. same c b) bs cs, among-merged b bs cs)

  pub own_there : (bs : List ℕ) (b : ℕ) → AreOwn hs bs → 0 < among b bs → 0 < total (sole_at b) hs
  own_there bs b own some = omega (arith, own b, own-sole b hs)

  -- there is a hold for each key
  pub own_held : (bs : List ℕ) → AreOwn hs bs → HasHolds (keys_for bs) hs
  own_held bs own = λ k. either_way k.buffer k.pinned
    where
      either_way : (b : ℕ) (t : Bool) → times_asked (record { buffer = b; pinned = t }) (keys_for bs) ≤ meant_count
          (record { buffer = b; pinned = t }) hs
      either_way b true = omega (arith, asked-pinned b bs)
      either_way b false = omega (arith, asked-own b bs, own b, own-times b hs)

  -- and those of the others are left when these go
  pub own_left : (bs cs : List ℕ) → AreOwn hs (bs ++ cs) → AreOwn (without_keys (keys_for bs) hs) cs
  own_left bs cs own = λ b.
      omega (
        arith,
        own b,
        total-append (λ c. same c b) bs cs,
        total-left_by (own_at b) (keys_for bs) hs,
        own-times b (holds_for (keys_for bs) hs),
        times-taken_by (loose_key b) (keys_for bs) hs (own_held bs (own_front bs cs own)),
        asked-own b bs,
      )

-- the hold that such a key means is the own one, where only one isn't pinned
module _ (b : ℕ) (hs : List Holding) (once : total (loose_at b) hs ≤ 1) (own : 0 < total (own_at b) hs) where
  meant : Found (loose_key b) hs
  meant = found (loose_key b) hs (omega (arith, own-times b hs, own))

  is_loose : (h : Holding) → hold_key h ≡ loose_key b → loose_at b h ≡ 1
  is_loose h e = ap {B = ℕ} (λ (k : Key). cond (eqb k.buffer b) (cond k.pinned 0 1) 0) e
      ∙ ap (λ t. cond t 1 0) (eq-eqb b b refl)

  pub first_own : bare_all (first_hold (loose_key b) hs) ≡ fresh b ∷ []
  first_own =
      let h = meant.hold in
      let loose : total (loose_at b) (first_hold (loose_key b) hs) ≡ 1 = ap (total (loose_at b)) meant.here
      ∙ omega (arith, is_loose h meant.key) in
      let others : total (own_at b) (without (loose_key b) hs) ≡ 0 =
      omega (
        arith,
        own-loose b (without (loose_key b) hs),
        total-without (loose_at b) (loose_key b) hs,
        loose,
        once,
      ) in
      let mine : total (own_at b) (first_hold (loose_key b) hs) ≡ own_at b h + 0 = ap (total (own_at b)) meant.here in
      let exclusive = own-exclusive b h (omega (arith, total-without (own_at b) (loose_key b) hs, others, mine, own)) in
      ap bare_all meant.here
      ∙ (λ i. record {
        buffer = (meant.key i).buffer;
        front = [];
        exclusive = exclusive i;
        pinned = (meant.key i).pinned;
      } ∷ [])

-- so what is taken out is as fresh, but for fronts
pub taken_own : (bs : List ℕ) (hs : List Holding) → ((b : ℕ) → total (loose_at b) hs ≤ 1) → AreOwn hs bs
    → bare_all (holds_for (keys_for bs) hs) ≡ fresh_all bs
taken_own [] hs once own = refl
taken_own (b ∷ bs) hs once own =
    let rest = without (loose_key b) hs in
    let here = first_own b hs (once b) (omega (arith, own b, same-yes b b refl)) in
    let others = taken_own bs rest (λ c. omega (arith, once c, total-without (loose_at c) (loose_key b) hs))
    (own_left hs (b ∷ []) bs own) in
    map-append bare (first_hold (loose_key b) hs) (holds_for (keys_for bs) rest)
    ∙ ap (λ l. l ++ bare_all (holds_for (keys_for bs) rest)) here ∙ ap (λ l. fresh b ∷ l) others

-- fronts don't matter to what is taken and left
bare_cond : (t : Bool) (h : Holding) (hs gs : List Holding) → bare_all (cond t hs (h ∷ gs))
    ≡ cond t (bare_all hs) (bare h ∷ bare_all gs)
bare_cond true h hs gs = refl
bare_cond false h hs gs = refl

bare_one : (t : Bool) (h : Holding) (hs : List Holding) → bare_all (cond t (h ∷ []) hs)
    ≡ cond t (bare h ∷ []) (bare_all hs)
bare_one true h hs = refl
bare_one false h hs = refl

pub bare-without : (k : Key) (hs : List Holding) → bare_all (without k hs) ≡ without k (bare_all hs)
bare-without k [] = refl
bare-without k (h ∷ hs) = bare_cond (means k h) h hs (without k hs)
    ∙ ap (λ l. cond (means k h) (bare_all hs) (bare h ∷ l)) (bare-without k hs)

pub bare-first : (k : Key) (hs : List Holding) → bare_all (first_hold k hs) ≡ first_hold k (bare_all hs)
bare-first k [] = refl
bare-first k (h ∷ hs) = bare_one (means k h) h (first_hold k hs) ∙ ap (λ l. cond (means k h) (bare h ∷ []) l)
    (bare-first k hs)

pub bare-left_by : (ks : List Key) (hs : List Holding) → bare_all (without_keys ks hs) ≡ without_keys ks (bare_all hs)
bare-left_by [] hs = refl
bare-left_by (k ∷ ks) hs = bare-left_by ks (without k hs) ∙ ap (without_keys ks) (bare-without k hs)

pub bare-taken_by : (ks : List Key) (hs : List Holding) → bare_all (holds_for ks hs) ≡ holds_for ks (bare_all hs)
bare-taken_by [] hs = refl
bare-taken_by (k ∷ ks) hs =
    map-append bare (first_hold k hs) (holds_for ks (without k hs))
    ∙ ap (λ l. l ++ bare_all (holds_for ks (without k hs))) (bare-first k hs)
    ∙ ap (λ l. first_hold k (bare_all hs) ++ l)
    (bare-taken_by ks (without k hs) ∙ ap (holds_for ks) (bare-without k hs))

pub bare-append : (hs gs : List Holding) → bare_all (hs ++ gs) ≡ bare_all hs ++ bare_all gs
bare-append hs gs = map-append bare hs gs

pub bare-fresh : (bs : List ℕ) → bare_all (fresh_all bs) ≡ fresh_all bs
bare-fresh [] = refl
bare-fresh (b ∷ bs) = ap (λ l. fresh b ∷ l) (bare-fresh bs)

-- nor to how many are one's own
pub own-bare : (b : ℕ) (hs : List Holding) → total (own_at b) (bare_all hs) ≡ total (own_at b) hs
own-bare b hs = total-map (own_at b) bare hs

pub own-same : (b : ℕ) (hs gs : List Holding) → bare_all hs ≡ bare_all gs → total (own_at b) hs ≡ total (own_at b) gs
own-same b hs gs e = sym (own-bare b hs) ∙ ap (total (own_at b)) e ∙ own-bare b gs

pub own_bare : (hs gs : List Holding) (bs : List ℕ) → bare_all hs ≡ bare_all gs → AreOwn hs bs → AreOwn gs bs
own_bare hs gs bs e own = λ b. omega (arith, own b, own-same b hs gs e)

fresh_bit : (t : Bool) → (let n : ℕ = cond t (cond true (cond false 0 1) 0) 0 in n) ≡ cond t 1 0
fresh_bit true = refl
fresh_bit false = refl

pub own-fresh : (b : ℕ) (bs : List ℕ) → total (own_at b) (fresh_all bs) ≡ among b bs
own-fresh b [] = refl
own-fresh b (c ∷ bs) = omega (arith, fresh_bit (eqb c b), own-fresh b bs)

-- once they are back, all are there
pub own_joined : (hs gs : List Holding) (bs cs : List ℕ) → bare_all gs ≡ bare_all hs ++ fresh_all bs → AreOwn hs cs
    → AreOwn gs (merged bs cs)
own_joined hs gs bs cs e own = λ b.
    omega (
      arith,
      own b,
      among-merged b bs cs,
      own-bare b gs,
      ap (total (own_at b)) e,
      total-append (own_at b)
          (bare_all hs) (fresh_all bs),
      own-bare b hs,
      own-fresh b bs,
    )
