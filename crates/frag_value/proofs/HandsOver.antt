-- A value whose holds go with it, fragment by fragment.
use Rattle.std.proofs.Common.{◌≡◌, ℕ, ◌+◌, ◌-◌, ◌*◌, ◌<◌, ◌≤◌, List, [], ◌∷◌, ◌++◌, Bool, true, false, cond, Some}
use Rattle.std.proofs.Common.{length, take, sym, refl, ap, ◌∙◌, subst, append_assoc, append-nil, arith}
use Rattle.std.specs.Option.{MatchOption}
use Rattle.std.specs.Prelude.{Option}
use Rattle.pin_core.specs.Holding.{Holding, Key, at}
use Rattle.pin_core.specs.declared.sizes.Sizes.{Sizes}
use Rattle.view_sums.specs.Total.{total, same, Each}
use Rattle.view_sums.proofs.Sums.{total-append}
use Rattle.pinned_pool.specs.Moves.{meant_count, front_of, without, without_keys, unpin}
use Rattle.pinned_pool.specs.Named.{IsSeat}
use Rattle.pinned_pool.specs.declared.view.View.{View}
use Rattle.pinned_pool.proofs.Keys.{some-at}
use Rattle.pinned_pool.proofs.AfterSteps.{left_by-append, front-left_by}
use Rattle.pinned_pool.specs.Moves.{loose_key}
use Rattle.frag_value.specs.Values.{keys_of, uses, size_of, IsCut, IsFilled, IsValue, HasValue}
use Rattle.pinned_pool.specs.Bytes.{bytes_of_words}
use Rattle.frag_value.specs.Taken.{PlacedRun, Begun, entire, placed_over, over_all, more, MayComeNext, IfFirst}
use Rattle.frag_value.specs.Taken.{behind_first, Loses, HandsOver, OverSoFar}
use Rattle.frag_value.proofs.Sames.{same-yes}
use Rattle.frag_value.proofs.Hands.{length-frag}
use Rattle.frag_value.proofs.Released.{left, keys-append}

pub handed_none : (v : View) → HandsOver [] v v
handed_none v = record {
  holds = refl;
  credits = refl;
  claims = refl;
  looks = refl;
  returns = refl;
  lasts = ([], sym (append-nil v.lasts));
}

pub handed_more : (v : List (ℕ × ℕ)) (p : ℕ × ℕ) (k : Key) (old now new : View) → HandsOver v old now
    → k ≡ loose_key p.0 → Loses k now new → HandsOver (v ++ p ∷ []) old new
handed_more v p k old now new was is step = record {
  holds = step.holds ∙ (λ i. without (is i) (was.holds i))
      ∙ sym (left_by-append (keys_of v) (loose_key p.0 ∷ []) old.holds) ∙ ap (λ ks. without_keys ks old.holds)
      (sym (keys-append v (p ∷ [])));
  credits = step.credits ∙ was.credits;
  claims = step.claims ∙ was.claims;
  looks = step.looks ∙ was.looks;
  returns = step.returns ∙ was.returns;
  lasts = (
    was.lasts.0 ++ step.lasts.0,
    step.lasts.1 ∙ ap (λ l. l ++ step.lasts.0) was.lasts.1
        ∙ append_assoc old.lasts was.lasts.0 step.lasts.0,
  );
}

-- the fragments so far, and the next one
module _ (z : Sizes) (hs : List Holding) where
  pub over-more : (v : List (ℕ × ℕ)) (p : ℕ × ℕ) → over_all z hs (v ++ p ∷ []) ≡ over_all z hs v ++ placed_over z hs p
      ∷ []
  over-more [] p = refl
  over-more (q ∷ v) p = ap (λ l. placed_over z hs q ∷ l) (over-more v p)

  pub next_over : (n : ℕ) (done rest : List (ℕ × ℕ)) (p : ℕ × ℕ) → IsCut n (done ++ p ∷ rest)
      → Each (IsFilled hs) (done ++ p ∷ rest)
      → (0 < p.1) × (IsFilled hs p) × (Each (λ (f : PlacedRun). length f.bytes ≡ 4096) (over_all z hs done))
      × (4096 * length (over_all z hs done) + p.1 ≤ n)
  next_over n [] rest p cut filled = (omega (arith, cut.0, cut.1), filled.0, tt, omega (arith, cut.1))
  next_over n (q ∷ done) rest p cut filled =
      let r = next_over (n - 4096) done rest p cut.2 filled.1 in
      (r.0, r.1, (omega (arith, length-frag hs q filled.0, cut.1, r.3, r.0), r.2), omega (arith, r.3, r.0))

  pub over-bytes : (v : List (ℕ × ℕ)) → Each (IsFilled hs) v → total (λ (f : PlacedRun). length f.bytes)
      (over_all z hs v) ≡ size_of v
  over-bytes [] f = refl
  over-bytes (p ∷ v) f = omega (arith, length-frag hs p f.0, over-bytes v f.1)

-- the next hold is there, with the front that it had
module _ (z : Sizes) (seat now : View) (is : IsSeat z seat) (done rest : List (ℕ × ℕ)) (p : ℕ × ℕ)
    (has : HasValue seat.holds (done ++ p ∷ rest)) (was : now.holds ≡ without_keys (keys_of done) seat.holds) where
  pub held_next : 0 < meant_count (loose_key p.0) now.holds
  held_next =
      let parts : uses p.0 (done ++ p ∷ rest) ≡ uses p.0 done + (same p.0 p.0 + uses p.0 rest) =
      total-append (λ (q : ℕ × ℕ). same q.0 p.0) done (p ∷ rest) in
      let fewer : (c : ℕ) → uses c done ≤ meant_count (loose_key c) seat.holds =
      λ c. omega (arith, total-append (λ (q : ℕ × ℕ). same q.0 c) done (p ∷ rest), has.held c) in
      omega (
        arith,
        parts,
        same-yes p.0 p.0 refl,
        has.held p.0,
        left p.0 done seat.holds fewer,
        ap
            (meant_count (loose_key p.0)) was,
      )

  pub front_next : front_of p.0 now.holds ≡ front_of p.0 seat.holds
  front_next =
      let there : 0 < total (at p.0) (without_keys (keys_of done) seat.holds) = some-at (loose_key p.0)
      (without_keys (keys_of done) seat.holds) (subst (λ l. 0 < meant_count (loose_key p.0) l) was held_next) in
      ap (front_of p.0) was ∙ front-left_by is.fronts.0 p.0 (keys_of done) seat.holds is.fronts.1 there

  pub placed_next : placed_over z now.holds p ≡ placed_over z seat.holds p
  placed_next = ap (λ f. let r : PlacedRun = record {
    address = (placed_over z seat.holds p).address;
    offset = 0;
    bytes = take p.1 (bytes_of_words f);
    over = true;
  } in r) front_next

-- a value of which some fragments were handed over
module _ (z : Sizes) (v : List (ℕ × ℕ)) (old now : View) (is : IsSeat z old) (value : IsValue z v)
    (has : HasValue old.holds v) (begun : Option Begun) where
  abbrev pub Far : List (ℕ × ℕ) → Type 0
  Far rest = OverSoFar z v rest old now begun (λ (b : Begun). Some b)

  pub first_held : (rest : List (ℕ × ℕ)) → 0 < length rest → Far rest
      → IfFirst (λ p. 0 < meant_count (loose_key p.0) now.holds) rest
  first_held [] some far = absurd (omega arith)
  first_held (p ∷ rest) some far = held_next z old now is far.over rest p (subst (HasValue old.holds) far.parts has)
      far.owner.holds

  pub first_filled : (rest : List (ℕ × ℕ)) → 0 < length rest → Far rest
      → IfFirst (λ p. (0 < p.1) × (p.1 ≤ 8 * length (front_of p.0 now.holds))) rest
  first_filled [] some far = absurd (omega arith)
  first_filled (p ∷ rest) some far =
      let next = next_over z old.holds (size_of v) far.over rest p (subst (IsCut (size_of v)) far.parts value.cut)
      (subst (Each (IsFilled old.holds)) far.parts has.filled) in
      let front = front_next z old now is far.over rest p (subst (HasValue old.holds) far.parts has) far.owner.holds in
      (next.0, omega (arith, next.1, ap length front))

  pub first_next : (rest : List (ℕ × ℕ)) → 0 < length rest → Far rest
      → MatchOption begun ⊥ (λ b. IfFirst (λ p. MayComeNext 0 p.1 b) rest)
  first_next [] some far = absurd (omega arith)
  first_next (p ∷ rest) some far =
      let next = next_over z old.holds (size_of v) far.over rest p (subst (IsCut (size_of v)) far.parts value.cut)
      (subst (Each (IsFilled old.holds)) far.parts has.filled) in
      subst (λ o. MatchOption o ⊥ (λ b. MayComeNext 0 p.1 b)) (sym far.begun_is) (refl, next.2, next.3)

  pub first_over : (rest : List (ℕ × ℕ)) (new : View) (after : Option Begun) → 0 < length rest → Far rest
      → MatchOption begun ⊥ (λ b. IfFirst (λ p. after ≡ Some (more (placed_over z now.holds p) b)) rest)
      → IfFirst (λ p. Loses (loose_key p.0) now new) rest → OverSoFar z v (behind_first rest) old new after
      (λ (b : Begun). Some b)
  first_over [] new after some far begins loses = absurd (omega arith)
  first_over (p ∷ rest) new after some far begins loses =
      let hs = old.holds in
      let step = subst (λ o. MatchOption o ⊥ (λ b. after ≡ Some (more (placed_over z now.holds p) b))) far.begun_is
      begins in
      let same = placed_next z old now is far.over rest p (subst (HasValue hs) far.parts has) far.owner.holds in
      record {
        over = far.over ++ p ∷ [];
        parts = far.parts ∙ sym (append_assoc far.over (p ∷ []) rest);
        begun_is = step ∙ ap (λ fs. Some (record { extent = entire; size = size_of v; frags = fs }))
            (ap (λ f. over_all z hs far.over ++ f ∷ []) same ∙ sym (over-more z hs far.over p));
        owner = handed_more far.over p (loose_key p.0) old now new far.owner refl loses;
      }

-- a hold that isn't pinned, and is given back
pub loses_unpinned : (last : Bool) (k : Key) (v w : View) → k.pinned ≡ false → w ≡ unpin last k v → Loses k v w
loses_unpinned last k v w loose e =
    let free : cond k.pinned 1 0 ≡ 0 = ap (λ t. let n : ℕ = cond t 1 0 in n) loose in
    record {
      holds = ap (λ (x : View). x.holds) e;
      credits = omega (arith, ap (λ (x : View). x.credits) e, free);
      claims = ap (λ (x : View). x.claims) e;
      looks = ap (λ (x : View). x.looks) e;
      returns = omega (arith, ap (λ (x : View). x.returns) e, free);
      lasts = listed last (ap (λ (x : View). x.lasts) e);
    }
  where
    listed : (t : Bool) → w.lasts ≡ cond t (v.lasts ++ k.buffer ∷ []) v.lasts → (more : List ℕ)
        × (w.lasts ≡ v.lasts ++ more)
    listed true e = (k.buffer ∷ [], e)
    listed false e = ([], e ∙ sym (append-nil v.lasts))

pub ruleset hands_over = (handed_none, handed_more, loses_unpinned)
