-- What a part stores lies in buffers of its class.
use Rattle.std.proofs.Common.{◌≡◌, ℕ, ◌⊎◌, inl, inr, ⊎_elim, Bool, true, false, cond, List, [], ◌∷◌, ◌++◌, length}
use Rattle.std.proofs.Common.{Option, Some, None, refl, sym, ap, ◌∙◌, subst}
use Rattle.std.specs.Option.{option_map}
use Rattle.std.specs.Ordering.{nat_cmp, eq_by_cmp}
use Rattle.std.specs.Cmp.Lexicographic.{slice_cmp, nat_list_cmp_total, nat_list_eq_equiv, texts_ties, bytes_decides}
use Rattle.std.specs.FinMap as finite
use Rattle.view_sums.specs.Total.{Each}
use Rattle.pin_core.specs.declared.sizes.Sizes.{Sizes}
use Rattle.pinned_pool.specs.declared.view.View.{View}
use Rattle.flake_model.specs.Store.{Store, Keyed, Operation, get, set, append, del, exists, str_len, get_range, Change}
use Rattle.flake_model.specs.Store.{keeps, puts, length_is, too_long, stores, has_room, bytes_of, key_of, answer}
use Rattle.flake_model.specs.Store.{answer_on, change_on, change_by, changed, after}
use Rattle.flake_model.specs.Deed.{Places, AreStored, places_with, places_after}
use Rattle.frag_value.specs.Values.{IsValue, IsPlaced, size_of, value_bytes}
use Rattle.frag_value.proofs.Cuts.{length-bytes-value}
use Rattle.shard_core.specs.Keys.{is_key}
use Rattle.shard_core.specs.Kept.{Entries, value_at, IsKept, Agrees, value_addresses, segs_of}
use Rattle.frag_value.specs.Values.{Frags}
use Rattle.shard_core.specs.Pieces.{segs_at, size_stored, length_told}
use Rattle.shard_core.proofs.Entries.{every-found}
use Rattle.shard_core.proofs.Holds.{has_found}
use Rattle.shard_core.proofs.Runs.{segs-cut}
use Rattle.shard_core.specs.Parts.{IsInBuffer}

-- bytes are put, as many as the segments have, or nothing is stored
abbrev PutsOrNone : Change → ℕ → Type 0
PutsOrNone change n =
    ((bytes : List ℕ) × (change ≡ puts bytes) × (n ≡ length bytes))
    ⊎ ((kept : ℕ) (were stored : List ℕ) → AreStored change kept were stored → stored ≡ [])

sets_or_not : (t : Bool) (bytes : List ℕ) → PutsOrNone (cond t (puts bytes) keeps) (length bytes)
sets_or_not true bytes = inl (bytes, refl, refl)
sets_or_not false bytes = inr (λ kept were stored s. s)

adds_or_not : (t : Bool) (bytes : List ℕ) → PutsOrNone (cond t (puts bytes) keeps)
    (length_told (cond t (length_is (length bytes)) too_long))
adds_or_not true bytes = inl (bytes, refl, refl)
adds_or_not false bytes = inr (λ kept were stored s. s)

puts_or_none : (old : Option (List ℕ)) (operation : Operation) → PutsOrNone (change_on old operation)
    (size_stored operation (answer_on old operation))
puts_or_none old (get key) = inr (λ kept were stored s. s)
puts_or_none old (set when asks key bytes) = sets_or_not (stores when old) bytes
puts_or_none old (append key bytes) = adds_or_not (has_room old bytes) (bytes_of old ++ bytes)
puts_or_none old (del key) = inr (λ kept were stored s. s)
puts_or_none old (exists key) = inr (λ kept were stored s. s)
puts_or_none old (str_len key) = inr (λ kept were stored s. s)
puts_or_none old (get_range key first last) = inr (λ kept were stored s. s)

segs_placed : (z : Sizes) (v : Frags) → Each (IsPlaced z) v → Each (IsInBuffer z) (segs_of z v)
segs_placed z [] are = tt
segs_placed z (p ∷ v) are =
    (record { buffer = p.0; near = are.0.0; address_is = refl; class_is = are.0.1 }, segs_placed z v are.1)

put_there : {X : Type 0} (m : Keyed X) (key : List ℕ) (x : X) → finite.get (finite.insert m key x) key ≡ Some x
put_there m key x =
    let own : eq_by_cmp (slice_cmp nat_cmp) key key ≡ true = sym (texts_ties key key) ∙ nat_list_eq_equiv.symm key key
    ∙ (bytes_decides key key).1 refl in
    finite.get-insert nat_list_cmp_total m key x key ∙ ap (λ t. cond t (Some x) (finite.get m key)) own

module _ (z : Sizes) (es : Entries) (own : View) (kept : IsKept z es own) (s : Store) (p : Places)
    (operation : Operation) (stored : List ℕ)
    (agrees : Agrees z es own.holds (after s operation) (places_after s p operation stored)) where
  value_put : (bytes : List ℕ) (v : Frags) → value_at (key_of operation) es ≡ Some v → value_bytes own.holds v ≡ bytes
      → value_addresses z v ≡ stored → Each (IsInBuffer z) (segs_at stored (length bytes))
  value_put bytes v there text places =
      let value : IsValue z v = every-found (IsValue z) (is_key (key_of operation)) es v kept.held.values there in
      let filled = (has_found z es [] own.holds kept.held (key_of operation) v there).filled in
      let size : size_of v ≡ length bytes = sym (length-bytes-value own.holds v filled) ∙ ap length text in
      subst (Each (IsInBuffer z)) (segs-cut z (size_of v) v value.cut ∙ (λ i. segs_at (places i) (size i)))
      (segs_placed z v value.placed)

  are_put : (bytes : List ℕ) → change_by s operation ≡ puts bytes → Each (IsInBuffer z) (segs_at stored (length bytes))
  are_put bytes is =
      let key : List ℕ = key_of operation in
      let a : Agrees z es own.holds (finite.insert s key bytes) (finite.insert p key stored) =
      subst (λ what. Agrees z es own.holds (changed s key what) (places_with p key what stored)) is agrees in
      by (value_at key es) refl (a.bytes key ∙ put_there s key bytes) (a.places_are key ∙ put_there p key stored)
    where
      by : (o : Option Frags) → value_at (key_of operation) es ≡ o → option_map (value_bytes own.holds) o ≡ Some bytes
          → option_map (value_addresses z) o ≡ Some stored → Each (IsInBuffer z) (segs_at stored (length bytes))
      by None is text places = absurd (cc)
      by (Some v) is text places = value_put bytes v is (let e : value_bytes own.holds v ≡ bytes = cc in e)
          (let e : value_addresses z v ≡ stored = cc in e)

  pub in_buffers : (kept_ones : ℕ) (were : List ℕ) → AreStored (change_by s operation) kept_ones were stored
      → Each (IsInBuffer z) (segs_at stored (size_stored operation (answer s operation)))
  in_buffers kept_ones were is =
      ⊎_elim
      (λ put. subst (λ n. Each (IsInBuffer z) (segs_at stored n)) (sym put.2) (are_put put.0 put.1))
      (λ none. subst (λ (l : List ℕ). Each (IsInBuffer z) (segs_at l (size_stored operation (answer s operation))))
      (sym (none kept_ones were stored is)) tt)
      (puts_or_none (finite.get s (key_of operation)) operation)
