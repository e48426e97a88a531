-- A value that is handed on, fragment by fragment.
use Rattle.std.proofs.Common.{◌≡◌, ℕ, zero, suc, ◌+◌, ◌-◌, ◌*◌, ◌<◌, ◌≤◌, List, [], ◌∷◌, ◌++◌, false, length, take}
use Rattle.std.proofs.Common.{Some, sym, refl, ap, subst, add-one, arith}
use Rattle.std.specs.List.{slice_get}
use Rattle.std.proofs.lemmas.List.{length-take}
use Rattle.pin_core.specs.Holding.{Holding, Key}
use Rattle.view_sums.specs.Total.{total, Each}
use Rattle.pinned_pool.specs.Moves.{meant_count, front_of}
use Rattle.pinned_pool.specs.declared.view.View.{View}
use Rattle.frag_value.proofs.Sames.{same-yes}
use Rattle.frag_value.specs.Values.{IsCut, IsFilled, frag_bytes, size_of, uses, HasValue, unmarked_view}
use Rattle.pinned_pool.specs.Moves.{loose_key}
use Rattle.pin_core.specs.declared.sizes.Sizes.{Sizes}
use Rattle.pinned_pool.specs.Bytes.{bytes_of_words}
use Rattle.frag_value.specs.Taken.{PlacedRun, Begun, entire, placed_fragment, placed_all, MayComeNext}
use Rattle.frag_value.proofs.Unmarked.{same_front, same_times}

pub length-bytes : (ws : List ℕ) → length (bytes_of_words ws) ≡ 8 * length ws
length-bytes [] = refl
length-bytes (w ∷ ws) = omega (arith, length-bytes ws)

pub each-at : {A : Type 0} (P : A → Type 0) (xs : List A) (i : ℕ) (x : A) → slice_get xs i ≡ Some x → Each P xs → P x
each-at P [] i x e a = absurd (cc)
each-at P (y ∷ ys) zero x e a = let same : y ≡ x = cc in subst P same a.0
each-at P (y ∷ ys) (suc i) x e a = each-at P ys i x e a.1

pub uses-at : (v : List (ℕ × ℕ)) (i : ℕ) (p : ℕ × ℕ) → slice_get v i ≡ Some p → 0 < uses p.0 v
uses-at [] i p e = absurd (cc)
uses-at (q ∷ v) zero p e = let yes : q ≡ p = cc in omega (arith, same-yes q.0 p.0 (ap (λ (x : ℕ × ℕ). x.0) yes))
uses-at (q ∷ v) (suc i) p e = omega (arith, uses-at v i p e)

pub length-frag : (hs : List Holding) (p : ℕ × ℕ) → IsFilled hs p → length (frag_bytes hs p) ≡ p.1
length-frag hs p f = omega
    (arith, length-take p.1 (bytes_of_words (front_of p.0 hs)), length-bytes (front_of p.0 hs), f)

module _ (z : Sizes) (hs : List Holding) where
  abbrev pub so_far : ℕ → List (ℕ × ℕ) → Begun
  so_far n v = record { extent = entire; size = n; frags = placed_all z hs v }

  pub next : (n i : ℕ) (v : List (ℕ × ℕ)) (p : ℕ × ℕ) → IsCut n v → Each (IsFilled hs) v → slice_get v i ≡ Some p
      → MayComeNext 0 p.1 (so_far n (take i v)) × (0 < p.1) × (4096 * i < n)
  next n i [] p cut filled e = absurd (cc)
  next n zero (q ∷ v) p cut filled e =
      let yes : q ≡ p = cc in
      let len = ap (λ (x : ℕ × ℕ). x.1) yes in
      ((refl, tt, omega (arith, len, cut.0, cut.1)), omega (arith, len, cut.0, cut.1), omega (arith, cut.0))
  next n (suc i) (q ∷ v) p cut filled e =
      let rest = next (n - 4096) i v p cut.2 filled.1 e in (
        (refl, (omega (arith, length-frag hs q filled.0, cut.1, rest.2), rest.0.1), omega (arith, rest.0.2, rest.2)),
        rest.1,
        omega (arith, rest.2),
      )

  pub taken-all : (v : List (ℕ × ℕ)) → Each (IsFilled hs) v → total (λ (f : PlacedRun). length f.bytes)
      (placed_all z hs v) ≡ size_of v
  taken-all [] f = refl
  taken-all (p ∷ v) f = omega (arith, length-frag hs p f.0, taken-all v f.1)

  another : (v : List (ℕ × ℕ)) (i : ℕ) (p : ℕ × ℕ) → slice_get v i ≡ Some p → placed_all z hs (take (suc i) v)
      ≡ placed_all z hs (take i v) ++ placed_fragment z hs p ∷ []
  another [] i p e = absurd (cc)
  another (q ∷ v) zero p e = let yes : q ≡ p = cc in ap (λ x. placed_fragment z hs x ∷ []) yes
  another (q ∷ v) (suc i) p e = ap (λ l. placed_fragment z hs q ∷ l) (another v i p e)

  pub one_more : (v : List (ℕ × ℕ)) (i : ℕ) (p : ℕ × ℕ) → slice_get v i ≡ Some p → placed_all z hs (take (i + 1) v)
      ≡ placed_all z hs (take i v) ++ placed_fragment z hs p ∷ []
  one_more v i p e = rw add-one (another v i p e)

pub same_placed : (z : Sizes) (v w : View) (p : ℕ × ℕ) → unmarked_view w ≡ unmarked_view v → placed_fragment z w.holds p
    ≡ placed_fragment z v.holds p
same_placed z v w p e =
    ap (λ f. let r : PlacedRun = record {
      address = (placed_fragment z v.holds p).address;
      offset = 0;
      bytes = take p.1 (bytes_of_words f);
      over = false;
    } in r) (same_front p.0 v w e)

-- at a fragment of a value, whatever was shared since
module _ (v w : View) (x : List (ℕ × ℕ)) (i : ℕ) (p : ℕ × ℕ) (same : unmarked_view w ≡ unmarked_view v)
    (has : HasValue v.holds x) (at : slice_get x i ≡ Some p) where
  pub held_now : (k : Key) → k ≡ loose_key p.0 → 0 < meant_count k w.holds
  held_now k e = subst (λ j. 0 < meant_count j w.holds) (sym e)
      (omega (arith, same_times (loose_key p.0) v w same, has.held p.0, uses-at x i p at))

  pub filled_now : p.1 ≤ 8 * length (front_of p.0 w.holds)
  filled_now = omega (arith, each-at (IsFilled v.holds) x i p at has.filled, ap length (same_front p.0 v w same))
