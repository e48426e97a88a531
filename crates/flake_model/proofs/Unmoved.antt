-- An append of no bytes moves no fragment.
use Rattle.std.proofs.Common.{◌≡◌, ℕ, ◌+◌, ◌≤◌, Bool, true, false, cond, List, [], ◌∷◌, ◌++◌, length, take, Option}
use Rattle.std.proofs.Common.{nat_le, refl, ap, sym, ◌∙◌, subst, append-nil, arith, lit≤}
use Rattle.std.proofs.Common.{Some, get_or, unwrap_or}
use Rattle.std.proofs.lemmas.Bool.{le-leb}
use Rattle.std.proofs.lemmas.Cmp.{nat_list_cmp_total}
use Rattle.std.proofs.lemmas.Map.Text.{is_eq-slice_cmp}
use Rattle.std.proofs.lemmas.List.{take_all}
use Rattle.std.specs.Prelude.{codes}
use Rattle.std.specs.Str.{bytes_eq}
use Rattle.std.specs.FinMap as finite
use Rattle.flake_base.specs.Limits.{value_limit}
use Rattle.flake_model.specs.Store.{Store, Keyed, Operation, append, keeps, puts, bytes_of, bytes_at, key_of, Change}
use Rattle.flake_model.specs.Store.{change_on, change_by}
use Rattle.flake_model.specs.Fragments.{fragments_of}
use Rattle.flake_model.specs.Deed.{Deed, Places, places_at, AreStored, kept_fragments, IsLegalDeed, IsLegal}
use Rattle.flake_model.specs.Refused.{moving_append}

-- what an append of no bytes puts
puts_again : (old : Option (List ℕ)) (key : List ℕ) → length (bytes_of old) ≤ value_limit
    → change_on old (append key []) ≡ puts (bytes_of old)
puts_again old key few =
    let same : bytes_of old ++ [] ≡ bytes_of old = append-nil (bytes_of old) in
    ap (λ b. cond b (puts (bytes_of old ++ [])) keeps)
    (ap (λ (l : List ℕ). nat_le (length l) value_limit) same ∙ le-leb (length (bytes_of old)) value_limit few)
    ∙ ap puts same

pub unmoved : (store : Store) (places : Places) (deed : Deed) (key : List ℕ) → deed.operation ≡ append key []
    → length (bytes_at store key) ≤ value_limit
    → length (places_at places key) ≡ length (fragments_of (bytes_at store key))
    → IsLegalDeed store places deed → deed.stored ≡ places_at places key
unmoved store places deed key is few many legal =
    let old : List ℕ = bytes_at store key in
    let were : List ℕ = places_at places key in
    let Stored : Operation → Type 0 = λ o. AreStored (change_by store o)
    (kept_fragments (bytes_at store (key_of o)) o) (places_at places (key_of o)) deed.stored in
    let stored : Stored (append key []) = subst Stored is legal.stored_is in
    let put : AreStored (puts old) (length (fragments_of old)) were deed.stored =
    subst (λ (change : Change). AreStored change (length (fragments_of old)) were deed.stored)
    (puts_again (finite.get store key) key few) stored in
    sym (take_all (length (fragments_of old)) deed.stored (omega (arith, put.0))) ∙ put.1
    ∙ take_all (length (fragments_of old)) were (omega (arith, many))

put_first : {X : Type 0} (key : List ℕ) (x : X) → bytes_eq key key ≡ true
    → finite.get (finite.insert (let none : Keyed X = finite.empty in none) key x) key ≡ Some x
put_first {X} key x same =
    let none : Keyed X = finite.empty in
    finite.get-insert nat_list_cmp_total none key x key
    ∙ ap (λ t. cond t (Some x) (finite.get none key)) (is_eq-slice_cmp key key ∙ same)

pub no_move : IsLegal moving_append → ⊥
no_move legal =
    let key : List ℕ = codes "a" in
    let held : Store = finite.insert finite.empty key (codes "1") in
    let lies : Places = finite.insert finite.empty key (0 ∷ []) in
    let bytes : bytes_at held key ≡ codes "1" = ap bytes_of (put_first key (codes "1") refl) in
    let laid : places_at lies key ≡ 0 ∷ [] = ap (λ o. unwrap_or o []) (put_first key (0 ∷ []) refl) in
    let same = unmoved held lies _ key refl
    (subst (λ (l : List ℕ). length l ≤ value_limit) (sym bytes) (lit≤ tt))
    (ap length laid ∙ sym (ap (λ (l : List ℕ). length (fragments_of l)) bytes)) legal.1.0 in
    let e : 512 ∷ [] ≡ 0 ∷ [] = same ∙ laid in
    absurd (omega (arith, ap (λ (l : List ℕ). get_or l 0 0) e))
