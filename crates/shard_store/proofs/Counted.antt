-- The fragments that a shard's values have, by the maps of the definitions.
use Rattle.std.proofs.Common.{◌≡◌, ℕ, ◌+◌, Bool, true, false, cond, List, [], ◌∷◌, map, None, Some, refl, sym, ap, ◌∙◌}
use Rattle.std.proofs.Common.{subst, arith}
use Rattle.std.specs.Global.{Vec}
use Rattle.std.specs.List.{IsDistinct, AllByRecursion}
use Rattle.std.specs.Option.{option_map}
use Rattle.std.specs.Map.{lookup}
use Rattle.std.specs.declared.cmp.Ordering.{Ordering}
use Rattle.std.specs.declared.cmp.Ordering.TheVariants.{Less, Equal, Greater}
use Rattle.std.specs.Ordering.{nat_cmp, eq_by_cmp, is_eq}
use Rattle.std.specs.Cmp.Lexicographic.{slice_cmp, nat_list_cmp_total, nat_list_eq_equiv, texts_ties, bytes_decides}
use Rattle.std.specs.FinMap as finite
use Rattle.std.specs.FinMap.Entries.{by_order}
use Rattle.view_sums.specs.Total.{total}
use Rattle.flake_model.specs.Store.{Keyed}
use Rattle.shard_core.specs.Keys.{same_bytes, key_eq, is_key}

tied : (bs cs : List ℕ) → eq_by_cmp (slice_cmp nat_cmp) cs bs ≡ same_bytes bs cs
tied bs cs = sym (texts_ties cs bs) ∙ nat_list_eq_equiv.symm cs bs

own_key : (k : List ℕ) → eq_by_cmp (slice_cmp nat_cmp) k k ≡ true
own_key k = tied k k ∙ (bytes_decides k k).1 refl

-- a key that no entry has
none_later : {X : Type 0} (key : List ℕ) (es : List (Vec ℕ × X))
    → AllByRecursion (λ (y : Vec ℕ). same_bytes key y.items ≡ false) (map (λ (e : Vec ℕ × X). e.0) es)
    → lookup (is_key key) es ≡ None
none_later key [] all = refl
none_later key (e ∷ es) all = ap (λ t. cond t (Some e.1) (lookup (is_key key) es)) all.0 ∙ none_later key es all.1

-- an order that says equal is that of one key
one_key : (k q : List ℕ) → is_eq (slice_cmp nat_cmp k q) ≡ true → k ≡ q
one_key k q e = sym ((bytes_decides q k).0 (sym (tied q k) ∙ e))

module _ {X : Type 0} (G : List ℕ × X → ℕ) where
  -- a key that is put where it wasn't
  put_here : (o : Ordering) (k : List ℕ) (v : X) (e : List ℕ × X) (es put : List (List ℕ × X))
      → cond (is_eq o) (Some e.1) (finite.find (slice_cmp nat_cmp) k es) ≡ None
      → (finite.find (slice_cmp nat_cmp) k es ≡ None → total G put ≡ G (k, v) + total G es)
      → total G (by_order o ((k, v) ∷ e ∷ es) ((e.0, v) ∷ es) (e ∷ put)) ≡ G (k, v) + (G e + total G es)
  put_here Less k v e es put none rest = refl
  put_here Equal k v e es put none rest = absurd (cc)
  put_here Greater k v e es put none rest = omega (arith, rest none)

  total-put : (k : List ℕ) (v : X) (es : List (List ℕ × X)) → finite.find (slice_cmp nat_cmp) k es ≡ None
      → total G (finite.put (slice_cmp nat_cmp) k v es) ≡ G (k, v) + total G es
  total-put k v [] none = refl
  total-put k v (e ∷ es) none = put_here (slice_cmp nat_cmp k e.0) k v e es (finite.put (slice_cmp nat_cmp) k v es) none
      (total-put k v es)

  one_map : (n o : Keyed X) → ((q : List ℕ) → finite.get n q ≡ finite.get o q) → n ≡ o
  one_map = finite.same_map nat_list_cmp_total (finite.slice_cmp-IsAntisymmetric finite.nat_cmp-IsAntisymmetric)

  -- a key taken out
  total-remove : (m : Keyed X) (k : List ℕ) (v : X) → finite.get m k ≡ Some v → total G (finite.entries m) ≡ G (k, v)
      + total G (finite.entries (finite.remove m k))
  total-remove m k v has =
      let less : Keyed X = finite.remove m k in
      let whole : m ≡ finite.insert less k v = one_map m (finite.insert less k v)
      (λ q. back q (eq_by_cmp (slice_cmp nat_cmp) q k) refl
      ∙ sym (finite.get-insert nat_list_cmp_total less k v q
      ∙ ap (λ r. cond (eq_by_cmp (slice_cmp nat_cmp) q k) (Some v) r) (finite.get-remove nat_list_cmp_total m k q)))
      in
      let gone : finite.find (slice_cmp nat_cmp) k (finite.entries less) ≡ None = sym (finite.get-entries less k)
      ∙ finite.get-remove nat_list_cmp_total m k k ∙ ap (λ t. cond t None (finite.get m k)) (own_key k) in
      ap (λ n. total G (finite.entries n)) whole ∙ ap (total G) (finite.entries-insert nat_list_cmp_total less k v)
      ∙ total-put k v (finite.entries less) gone
    where
      back : (q : List ℕ) (t : Bool) → eq_by_cmp (slice_cmp nat_cmp) q k ≡ t → finite.get m q
          ≡ cond t (Some v) (cond t None (finite.get m q))
      back q true e = let same : k ≡ q = (bytes_decides k q).0 (sym (tied k q) ∙ e) in ap (finite.get m) (sym same)
          ∙ has
      back q false e = refl

  no_entries : (es : List (List ℕ × X)) → ((q : List ℕ) → finite.find (slice_cmp nat_cmp) q es ≡ None) → total G es ≡ 0
  no_entries [] none = refl
  no_entries (e ∷ es) none = let found : Some e.1 ≡ None =
      sym (ap (λ t. cond t (Some e.1) (finite.find (slice_cmp nat_cmp) e.0 es)) (own_key e.0)) ∙ none e.0 in absurd (cc)

  -- Entries with distinct keys that agree with a map have its values, each once: by a weight of theirs that is the
  -- map's at each key.
  pub same_entries : {Y : Type 0} (f : Y → X) (W : Y → ℕ) (es : List (Vec ℕ × Y)) (m : Keyed X)
      → IsDistinct key_eq (map (λ (e : Vec ℕ × Y). e.0) es)
      → ((q : List ℕ) → option_map f (lookup (is_key q) es) ≡ finite.get m q)
      → ((q : List ℕ) (y : Y) → lookup (is_key q) es ≡ Some y → W y ≡ G (q, f y))
      → total (λ (e : Vec ℕ × Y). W e.1) es ≡ total G (finite.entries m)
  unfolding IsDistinct
  same_entries f W [] m distinct agrees fits =
      sym (no_entries (finite.entries m) (λ q. sym (finite.get-entries m q) ∙ sym (agrees q)))
  same_entries {Y = Y} f W (e ∷ es) m distinct agrees fits =
      let k : List ℕ = e.0.items in
      let first : lookup (is_key k) (e ∷ es) ≡ Some e.1 = ap (λ t. cond t (Some e.1) (lookup (is_key k) es))
      ((bytes_decides k k).1 refl) in
      let has : finite.get m k ≡ Some (f e.1) = sym (agrees k) ∙ ap (option_map f) first in
      let rest = same_entries f W es (finite.remove m k) distinct.1
      (λ q. still q (same_bytes q k) refl ∙ sym (finite.get-remove nat_list_cmp_total m k q))
      (λ q y is. fits q y (behind q y (same_bytes q k) refl is)) in
      omega (arith, rest, total-remove m k (f e.1) has, fits k e.1 first)
    where
      gone : (q : List ℕ) → same_bytes q e.0.items ≡ true → lookup (is_key q) es ≡ None
      gone q s =
          let same : e.0.items ≡ q = sym ((bytes_decides q e.0.items).0 s) in
          subst (λ x. lookup (is_key x) es ≡ None) same (none_later e.0.items es distinct.0)

      still : (q : List ℕ) (t : Bool) → same_bytes q e.0.items ≡ t → option_map f (lookup (is_key q) es)
          ≡ cond (eq_by_cmp (slice_cmp nat_cmp) q e.0.items) None (finite.get m q)
      still q true s =
          let same : e.0.items ≡ q = sym ((bytes_decides q e.0.items).0 s) in
          ap (option_map f) (gone q s)
          ∙ sym (ap (λ b. cond b None (finite.get m q)) (tied e.0.items q ∙ (bytes_decides e.0.items q).1 same))
      still q false s =
          sym (ap (λ t. option_map f (cond t (Some e.1) (lookup (is_key q) es))) s) ∙ agrees q
          ∙ sym (ap (λ b. cond b None (finite.get m q)) (tied e.0.items q ∙ nat_list_eq_equiv.symm e.0.items q ∙ s))

      behind : (q : List ℕ) (y : Y) (t : Bool) → same_bytes q e.0.items ≡ t → lookup (is_key q) es ≡ Some y
          → lookup (is_key q) (e ∷ es) ≡ Some y
      behind q y true s is = let none : None ≡ Some y = sym (gone q s) ∙ is in absurd (cc)
      behind q y false s is = ap (λ t. cond t (Some e.1) (lookup (is_key q) es)) s ∙ is
