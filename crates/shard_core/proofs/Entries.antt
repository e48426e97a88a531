-- Sums over lists of entries, and what holds of each entry.
use Rattle.std.proofs.Common.{◌≡◌, ℕ, zero, suc, ◌+◌, ◌≤◌, Bool, true, false, cond, List, [], ◌∷◌, Option, None, Some}
use Rattle.std.proofs.Common.{refl, sym, ap, ◌∙◌, subst, ⊎_elim, arith}
use Rattle.std.specs.Global.{Vec}
use Rattle.std.specs.HashMap.{HashMap, UpdatesBy}
use Rattle.std.specs.Option.{option_map}
use Rattle.std.specs.List.{slice_get}
use Rattle.std.specs.Map.{lookup, values_of, IsKeyTest, AreApart, KeepsOthers}
use Rattle.std.specs.Cmp.Lexicographic.{nat_list_eq_equiv}
use Rattle.std.proofs.lemmas.Bool.{cases_Bool, cond-true, cond-false}
use Rattle.view_sums.specs.Total.{total, Each}
use Rattle.indexmap.specs.IndexMap.{insert_entry, set_value_at}
use Rattle.std.specs.Cmp.Lexicographic.{bytes_decides}
use Rattle.shard_core.specs.Keys.{same_bytes, key_eq}
use Rattle.shard_core.specs.Kept.{value_at}
use Rattle.frag_value.specs.Values.{Frags}

-- the weight of what is there
abbrev pub weigh : {X : Type 0} → (X → ℕ) → Option X → ℕ
weigh w None = 0
weigh w (Some v) = w v

module _ {K X : Type 0} (w : X → ℕ) where
  abbrev pub sum : List (K × X) → ℕ
  sum es = total (λ (e : K × X). w e.1) es

  insert_here : (eq : K → K → Bool) (k : K) (v : X) (e : K × X) (es : List (K × X)) (t : Bool)
      → sum (insert_entry eq es k v) + weigh w (lookup (eq k) es) ≡ sum es + w v
      → sum (cond t ((e.0, v) ∷ es) (e ∷ insert_entry eq es k v)) + weigh w (cond t (Some e.1) (lookup (eq k) es))
      ≡ w e.1 + sum es + w v
  insert_here eq k v e es true rest = omega arith
  insert_here eq k v e es false rest = omega (arith, rest)

  pub sum-insert : (eq : K → K → Bool) (es : List (K × X)) (k : K) (v : X) → sum (insert_entry eq es k v)
      + weigh w (lookup (eq k) es) ≡ sum es + w v
  sum-insert eq [] k v = omega arith
  sum-insert eq (e ∷ es) k v = insert_here eq k v e es (eq k e.0) (sum-insert eq es k v)

  pub sum-set : (es : List (K × X)) (i : ℕ) (old v : X) → slice_get (values_of es) i ≡ Some old
      → sum (set_value_at es i v) + w old ≡ sum es + w v
  sum-set [] i old v found = absurd (cc)
  sum-set (e ∷ es) zero old v found = let same : e.1 ≡ old = cc in omega (arith, ap w same)
  sum-set (e ∷ es) (suc i) old v found = omega (arith, sum-set es i old v found)

  found_here : (v : X) (e : K × X) (rest : Option X) (n : ℕ) (t : Bool) → cond t (Some e.1) rest ≡ Some v
      → (rest ≡ Some v → w v ≤ n) → w v ≤ w e.1 + n
  found_here v e rest n true found more = let same : e.1 ≡ v = cc in omega (arith, ap w same)
  found_here v e rest n false found more = omega (arith, more found)

  pub found-le : (test : K → Bool) (es : List (K × X)) (v : X) → lookup test es ≡ Some v → w v ≤ sum es
  found-le test [] v found = absurd (cc)
  found-le test (e ∷ es) v found = found_here v e (lookup test es) (sum es) (test e.0) found (found-le test es v)

  -- two keys that are not the same
  pub two-le : (test other : K → Bool) → ((k : K) → test k ≡ true → other k ≡ true → ⊥) → (es : List (K × X)) (u v : X)
      → lookup test es ≡ Some u → lookup other es ≡ Some v → w u + w v ≤ sum es
  two-le test other apart [] u v here there = absurd (cc)
  two-le test other apart (e ∷ es) u v here there = choose (two-le test other apart es u v) (test e.0)
      (other e.0) refl refl here there
    where
      choose : (lookup test es ≡ Some u → lookup other es ≡ Some v → w u + w v ≤ sum es) → (s t : Bool) → test e.0 ≡ s
          → other e.0 ≡ t → cond s (Some e.1) (lookup test es) ≡ Some u → cond t (Some e.1) (lookup other es) ≡ Some v
          → w u + w v ≤ w e.1 + sum es
      choose more true true p q a b = absurd (apart e.0 p q)
      choose more true false p q a b = let same : e.1 ≡ u = cc in omega (arith, ap w same, found-le other es v b)
      choose more false true p q a b = let same : e.1 ≡ v = cc in omega (arith, ap w same, found-le test es u a)
      choose more false false p q a b = omega (arith, more a b)

-- what holds of each value
module _ {K X : Type 0} (P : X → Type 0) where
  abbrev pub Every : List (K × X) → Type 0
  Every es = Each (λ (e : K × X). P e.1) es

  every_here : (eq : K → K → Bool) (k : K) (v : X) (e : K × X) (es : List (K × X)) (t : Bool) → P e.1 → P v → Every es
      → Every (insert_entry eq es k v) → Every (cond t ((e.0, v) ∷ es) (e ∷ insert_entry eq es k v))
  every_here eq k v e es true old new rest more = (new, rest)
  every_here eq k v e es false old new rest more = (old, more)

  pub every-insert : (eq : K → K → Bool) (es : List (K × X)) (k : K) (v : X) → P v → Every es
      → Every (insert_entry eq es k v)
  every-insert eq [] k v new all = (new, tt)
  every-insert eq (e ∷ es) k v new all = every_here eq k v e es (eq k e.0) all.0 new all.1
      (every-insert eq es k v new all.1)

  pub every-set : (es : List (K × X)) (i : ℕ) (v : X) → P v → Every es → Every (set_value_at es i v)
  every-set [] i v new all = tt
  every-set (e ∷ es) zero v new all = (new, all.1)
  every-set (e ∷ es) (suc i) v new all = (all.0, every-set es i v new all.1)

  found_every : (v : X) (e : K × X) (rest : Option X) (t : Bool) → P e.1 → cond t (Some e.1) rest ≡ Some v
      → (rest ≡ Some v → P v) → P v
  found_every v e rest true here found more = let same : e.1 ≡ v = cc in subst P same here
  found_every v e rest false here found more = more found

  pub every-found : (test : K → Bool) (es : List (K × X)) (v : X) → Every es → lookup test es ≡ Some v → P v
  every-found test [] v all found = absurd (cc)
  every-found test (e ∷ es) v all found = found_every v e (lookup test es) (test e.0) all.0 found
      (every-found test es v all.1)

-- two functions of the values that are the same on all of them
pub map-found : {K X Y : Type 0} (f g : X → Y) (test : K → Bool) (es : List (K × X))
    → Each (λ (e : K × X). f e.1 ≡ g e.1) es → option_map f (lookup test es) ≡ option_map g (lookup test es)
map-found f g test [] all = refl
map-found f g test (e ∷ es) all = choose (test e.0) (map-found f g test es all.1)
  where
    choose : (t : Bool) → option_map f (lookup test es) ≡ option_map g (lookup test es)
        → option_map f (cond t (Some e.1) (lookup test es)) ≡ option_map g (cond t (Some e.1) (lookup test es))
    choose true rest = ap Some all.0
    choose false rest = rest

-- the entries as a map by bytes
others : {K X : Type 0} (eq : K → K → Bool) (test : K → Bool) (old new : List (K × X)) → KeepsOthers eq test old new
    → (other : K → Bool) → IsKeyTest eq other → AreApart test other → lookup other new ≡ lookup other old
unfolding KeepsOthers
others eq test old new h = h

other_key : (bs cs ks : List ℕ) → same_bytes bs cs ≡ false → same_bytes bs ks ≡ true → same_bytes cs ks ≡ false
other_key bs cs ks differ same =
    let one : bs ≡ ks = (bytes_decides bs ks).0 same in
    ap (same_bytes cs) (sym one) ∙ nat_list_eq_equiv.symm cs bs ∙ differ

-- after a change at the bytes bs, the map has w there and has elsewhere what it had
pub updated : {S : Type 0} (bs : List ℕ) (m n : HashMap (Vec ℕ) Frags S) (w : Option Frags)
    → UpdatesBy key_eq (λ (k : Vec ℕ). same_bytes bs k.items) m n w
    → (cs : List ℕ) → value_at cs n.entries ≡ cond (same_bytes bs cs) w (value_at cs m.entries)
updated bs m n w h cs =
    ⊎_elim
    (λ y. subst (λ l. value_at l n.entries ≡ w) ((bytes_decides bs cs).0 y) h.1
    ∙ sym (cond-true (same_bytes bs cs) w (value_at cs m.entries) y))
    (λ no. others key_eq (λ (k : Vec ℕ). same_bytes bs k.items) m.entries n.entries h.3
    (λ (k : Vec ℕ). same_bytes cs k.items) (λ x y. nat_list_eq_equiv.congr cs x.items y.items)
    (λ k. other_key bs cs k.items no)
    ∙ sym (cond-false (same_bytes bs cs) w (value_at cs m.entries) no))
    (cases_Bool (same_bytes bs cs))
