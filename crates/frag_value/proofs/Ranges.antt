-- A range of a value, run by run.
use Rattle.std.proofs.Common.{◌≡◌, ℕ, zero, suc, ◌+◌, ◌-◌, ◌*◌, ◌<◌, ◌≤◌, min, List, [], ◌∷◌, ◌++◌, length, take, drop}
use Rattle.std.proofs.Common.{Some, refl, sym, ap, ◌∙◌, subst, add-one, append_assoc, append-nil, length-append, arith}
use Rattle.std.specs.List.{slice_get}
use Rattle.std.proofs.lemmas.List.{length-take, length-drop}
use Rattle.pin_core.specs.Holding.{Holding}
use Rattle.pin_core.specs.declared.sizes.Sizes.{Sizes}
use Rattle.view_sums.specs.Total.{Each}
use Rattle.view_sums.proofs.Sums.{total-append}
use Rattle.view_sums.proofs.Eachs.{each-append}
use Rattle.pinned_pool.specs.Moves.{front_of}
use Rattle.pinned_pool.specs.Bytes.{bytes_of_words}
use Rattle.frag_value.specs.Values.{IsCut, IsFilled, frag_bytes, value_bytes, size_of}
use Rattle.frag_value.specs.Taken.{PlacedRun, Begun, ranged, placed_part, placed_run, placed_range, placed_length}
use Rattle.frag_value.specs.Taken.{bytes_along, behind_first, IsFull, MayComeNext, RangeSoFar}
use Rattle.frag_value.proofs.Hands.{length-bytes, length-frag}
use Rattle.frag_value.proofs.Cuts.{size-cut}
use Rattle.frag_value.proofs.Parts.{part-append}

drop-next : (v : List (ℕ × ℕ)) (i : ℕ) (p : ℕ × ℕ) → slice_get v i ≡ Some p → drop i v ≡ p ∷ drop (suc i) v
drop-next [] i p e = absurd (cc)
drop-next (q ∷ v) zero p e = let yes : q ≡ p = cc in ap (λ x. x ∷ v) yes
drop-next (q ∷ v) (suc i) p e = drop-next v i p e

pub drop-at : (v : List (ℕ × ℕ)) (i : ℕ) (p : ℕ × ℕ) → slice_get v i ≡ Some p → drop i v ≡ p ∷ drop (i + 1) v
drop-at v i p e = rw add-one (drop-next v i p e)

pub count-cut : (n : ℕ) (v : List (ℕ × ℕ)) → IsCut n v → 4096 * length v < n + 4096
count-cut n [] cut = omega (arith, cut)
count-cut n (p ∷ v) cut = omega (arith, cut.0, count-cut (n - 4096) v cut.2)

-- bytes within the front of a list
within-front : (m from size : ℕ) (xs : List ℕ) → from + m ≤ size → take m (drop from (take size xs))
    ≡ take m (drop from xs)
within-front zero from size xs e = refl
within-front (suc m) zero zero xs e = absurd (omega (arith, e))
within-front (suc m) zero (suc size) [] e = refl
within-front (suc m) zero (suc size) (x ∷ xs) e = ap (λ l. x ∷ l) (within-front m zero size xs (omega (arith, e)))
within-front (suc m) (suc from) zero xs e = absurd (omega (arith, e))
within-front (suc m) (suc from) (suc size) [] e = refl
within-front (suc m) (suc from) (suc size) (x ∷ xs) e = within-front (suc m) from size xs (omega (arith, e))

module _ (z : Sizes) (hs : List Holding) where
  pub some-run : (b from n : ℕ) → 0 < n → placed_run z hs b from n ≡ placed_part z hs b from n ∷ []
  some-run b from zero some = absurd (omega (arith, some))
  some-run b from (suc n) some = refl

  no-run : (b from n : ℕ) → n ≡ 0 → placed_run z hs b from n ≡ []
  no-run b from zero none = refl
  no-run b from (suc n) none = absurd (omega (arith, none))

  few-runs : (b from n : ℕ) → (length (placed_run z hs b from n) ≤ 1) × (length (placed_run z hs b from n) ≤ n)
  few-runs b from zero = (omega arith, omega arith)
  few-runs b from (suc n) = (omega arith, omega arith)

  part-size : (p : ℕ × ℕ) (from n : ℕ) → IsFilled hs p → from + n ≤ p.1
      → length (take n (drop from (bytes_of_words (front_of p.0 hs)))) ≡ n
  part-size p from n filled inside =
      omega (
        arith,
        length-take n (drop from (bytes_of_words (front_of p.0 hs))),
        length-drop from
            (bytes_of_words (front_of p.0 hs)),
        length-bytes (front_of p.0 hs),
        filled,
        inside,
      )

  run-size : (p : ℕ × ℕ) (from n : ℕ) → IsFilled hs p → n ≤ p.1 - from → placed_length (placed_run z hs p.0 from n) ≡ n
  run-size p from zero filled inside = refl
  run-size p from (suc n) filled inside = omega (arith, part-size p from (suc n) filled (omega (arith, inside)))

  full-run : (p : ℕ × ℕ) (n : ℕ) → IsFilled hs p → n ≡ p.1 → p.1 ≡ 4096 → Each IsFull (placed_run z hs p.0 0 n)
  full-run p zero filled all full = tt
  full-run p (suc n) filled all full = (omega (arith, part-size p 0 (suc n) filled (omega (arith, all)), all, full), tt)

  bytes-runs : (fs gs : List PlacedRun) → placed_length (fs ++ gs) ≡ placed_length fs + placed_length gs
  bytes-runs fs gs = total-append (λ (f : PlacedRun). length f.bytes) fs gs

  -- the runs of a range have as many bytes as it
  pub range-size : (v : List (ℕ × ℕ)) (from n : ℕ) → Each (IsFilled hs) v → from + n ≤ size_of v
      → placed_length (placed_range z hs v from n) ≡ n
  range-size [] from n filled inside = omega (arith, inside)
  range-size (p ∷ v) from n filled inside = omega (
    arith,
    bytes-runs (placed_run z hs p.0 from (min n (p.1 - from))) (placed_range z hs v (from - p.1) (n - (p.1 - from))),
    run-size p from (min n (p.1 - from)) filled.0 (omega arith),
    range-size v (from - p.1) (n - (p.1 - from)) filled.1 (omega (arith, inside)),
  )

  along-append : (fs gs : List PlacedRun) → bytes_along (fs ++ gs) ≡ bytes_along fs ++ bytes_along gs
  along-append [] gs = refl
  along-append (f ∷ fs) gs = ap (λ l. f.bytes ++ l) (along-append fs gs)
      ∙ sym (append_assoc f.bytes (bytes_along fs) (bytes_along gs))

  along-run : (b from n : ℕ) → bytes_along (placed_run z hs b from n)
      ≡ take n (drop from (bytes_of_words (front_of b hs)))
  along-run b from zero = refl
  along-run b from (suc n) = append-nil (take (suc n) (drop from (bytes_of_words (front_of b hs))))

  run-part : (p : ℕ × ℕ) (from m : ℕ) → m ≤ p.1 - from → take m (drop from (bytes_of_words (front_of p.0 hs)))
      ≡ take m (drop (min from p.1) (frag_bytes hs p))
  run-part p from zero inside = refl
  run-part p from (suc m) inside =
      let place : from ≡ min from p.1 = omega (arith, inside) in
      sym (within-front (suc m) from p.1 (bytes_of_words (front_of p.0 hs)) (omega (arith, inside)))
      ∙ ap (λ k. take (suc m) (drop k (frag_bytes hs p))) place

  -- and they are the value's
  pub range-bytes : (v : List (ℕ × ℕ)) (from n : ℕ) → Each (IsFilled hs) v → bytes_along (placed_range z hs v from n)
      ≡ take n (drop from (value_bytes hs v))
  range-bytes [] from n filled = nothing n from
    where
      nothing : (n from : ℕ) → [] ≡ take n (drop from (let none : List ℕ = [] in none))
      nothing zero from = refl
      nothing (suc n) zero = refl
      nothing (suc n) (suc from) = refl
  range-bytes (p ∷ v) from n filled =
      let m = min n (p.1 - from) in
      let long = length-frag hs p filled.0 in
      let a = min from p.1 in
      let b = min (from + n) p.1 in
      let first : m ≡ b - a = omega arith in
      let rest : n - (p.1 - from) ≡ (from + n - p.1) - (from - p.1) = omega arith in
      let size : from + n - from ≡ n = omega arith in
      along-append (placed_run z hs p.0 from m) (placed_range z hs v (from - p.1) (n - (p.1 - from)))
      ∙ (λ i. along-run p.0 from m i ++ range-bytes v (from - p.1) (n - (p.1 - from)) filled.1 i)
      ∙ ap (λ l. l ++ take (n - (p.1 - from)) (drop (from - p.1) (value_bytes hs v))) (run-part p from m (omega arith))
      ∙ (λ i. take (first i) (drop a (frag_bytes hs p)) ++ take (rest i) (drop (from - p.1) (value_bytes hs v)))
      ∙ part-append from (from + n) a b (from - p.1) (from + n - p.1) (frag_bytes hs p) (value_bytes hs v) (omega arith)
      (omega (arith, long)) (omega (arith, long)) (omega (arith, long)) (omega (arith, long))
      ∙ ap (λ k. take k (drop from (value_bytes hs (p ∷ v)))) size

-- of a range some runs were handed
module _ {B : Type 0} (z : Sizes) (hs : List Holding) (v : List (ℕ × ℕ)) (from n : ℕ) (some : Begun → B) where
  abbrev pub Far : List (ℕ × ℕ) → ℕ → ℕ → B → Type 0
  Far rest skip left begun = RangeSoFar z hs v rest from n skip left begun some

  pub none_yet : (begun : B) → begun ≡ some (record { extent = ranged; size = n; frags = [] }) → IsCut (size_of v) v
      → size_of v ≤ 65536 → Each (IsFilled hs) v → from + n ≤ size_of v → Far v from n begun
  none_yet begun is cut limit filled inside = record {
    runs = [];
    begun_is = is;
    all = refl;
    bytes = omega arith;
    within = inside;
    few = omega (arith, count-cut (size_of v) v cut, limit);
    first = λ more. absurd (omega (arith, more));
    full = λ _. tt;
    cut = cut;
    filled = filled;
  }

  pub may_next : (p : ℕ × ℕ) (rest : List (ℕ × ℕ)) (skip left here : ℕ) (begun : B)
      (far : Far (p ∷ rest) skip left begun) → here ≡ min left (p.1 - skip) → 0 < here
      → MayComeNext skip here (record { extent = ranged; size = n; frags = far.runs })
  may_next p rest skip left here begun far is more =
      (omega (arith, far.few), far.full (omega (arith, is, more)), omega (arith, far.bytes, is))

  zero-skip : (k skip : ℕ) → (0 < k → skip ≡ 0) → (size r here : ℕ) → r ≤ here → here ≤ size - skip → 0 < k + r
      → skip - size ≡ 0
  zero-skip zero skip first size r here few inside more = omega (arith, few, inside, more)
  zero-skip (suc k) skip first size r here few inside more = omega (arith, first (omega arith))

  all-full : (runs : List PlacedRun) (p : ℕ × ℕ) (rest : List (ℕ × ℕ)) (skip left here : ℕ)
      → (0 < length runs → skip ≡ 0) → (0 < left → Each IsFull (behind_first runs)) → IsFilled hs p
      → p.1 ≡ min 4096 (p.1 + size_of rest)
      → skip + left ≤ p.1 + size_of rest → here ≡ min left (p.1 - skip) → 0 < left - here
      → Each IsFull (behind_first (runs ++ placed_run z hs p.0 skip here))
  all-full [] p rest skip left zero first full filled cut within is more = tt
  all-full [] p rest skip left (suc here) first full filled cut within is more = tt
  all-full (r ∷ runs) p rest skip left here first full filled cut within is more =
      let none = first (omega arith) in
      each-append IsFull runs (placed_run z hs p.0 skip here) (full (omega (arith, more)))
      (subst (λ k. Each IsFull (placed_run z hs p.0 k here)) (sym none)
      (full-run z hs p here filled (omega (arith, is, none, more)) (omega (arith, cut, within, is, none, more))))

  pub range_more : (p : ℕ × ℕ) (rest : List (ℕ × ℕ)) (skip left here : ℕ) (begun after : B)
      (far : Far (p ∷ rest) skip left begun) → here ≡ min left (p.1 - skip)
      → after ≡ some (record { extent = ranged; size = n; frags = far.runs ++ placed_run z hs p.0 skip here })
      → Far rest (skip - p.1) (left - here) after
  range_more p rest skip left here begun after far is now =
      let runs = far.runs in
      let run = placed_run z hs p.0 skip here in
      let few = few-runs z hs p.0 skip here in
      let left_is : left - here ≡ left - (p.1 - skip) = omega (arith, is) in
      let size = size-cut (p.1 + size_of rest - 4096) rest far.cut.2 in
      record {
        runs = runs ++ run;
        begun_is = now;
        all = append_assoc runs run (placed_range z hs rest (skip - p.1) (left - here))
            ∙ (λ i. runs ++ (placed_run z hs p.0 skip (is i) ++ placed_range z hs rest (skip - p.1) (left_is i)))
            ∙ far.all;
        bytes = omega (
          arith,
          bytes-runs z hs runs run,
          run-size z hs p skip here far.filled.0
              (omega (arith, is)),
          far.bytes,
          is,
        );
        within = omega (arith, far.within, is);
        few = omega (arith, length-append runs run, few.0, far.few);
        first = λ more. zero-skip (length runs) skip far.first p.1 (length run) here few.1 (omega (arith, is))
            (omega (arith, more, length-append runs run));
        full = λ more. all-full runs p rest skip left here far.first far.full far.filled.0 far.cut.1 far.within is more;
        cut = subst (λ k. IsCut k rest) (sym size) far.cut.2;
        filled = far.filled.1;
      }

  pub no_more : (p : ℕ × ℕ) (skip here : ℕ) (runs : List PlacedRun) → here ≡ 0
      → runs ≡ runs ++ placed_run z hs p.0 skip here
  no_more p skip here runs none = sym (append-nil runs) ∙ ap (λ l. runs ++ l) (sym (no-run z hs p.0 skip here none))

  pub all_handed : (rest : List (ℕ × ℕ)) (skip left : ℕ) (begun : B) → rest ≡ [] → Far rest skip left begun
      → begun ≡ some (record { extent = ranged; size = n; frags = placed_range z hs v from n })
  all_handed [] skip left begun none far = far.begun_is
      ∙ ap (λ fs. some (record { extent = ranged; size = n; frags = fs })) (sym (append-nil far.runs) ∙ far.all)
  all_handed (p ∷ rest) skip left begun none far = absurd (cc)
