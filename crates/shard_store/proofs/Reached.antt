-- The bytes that a part answers lie in the fragments that it finds.
use Rattle.std.proofs.Common.{◌≡◌, ℕ, ℤ, ◌+◌, ◌-◌, ◌*◌, ◌<◌, ◌≤◌, Bool, true, false, cond, List, [], ◌∷◌, length, drop}
use Rattle.std.proofs.Common.{Option, Some, None, refl, ap, unwrap_or, arith}
use Rattle.std.proofs.lemmas.List.{length-drop, length-take}
use Rattle.std.specs.Option.{option_map}
use Rattle.std.specs.FinMap as finite
use Rattle.pin_core.specs.declared.sizes.Sizes.{Sizes}
use Rattle.pinned_pool.specs.declared.view.View.{View}
use Rattle.flake_model.specs.Range.{first_place, end_place, range_of}
use Rattle.flake_model.specs.Store.{Store, Operation, get, set, append, del, exists, str_len, get_range, missing, done}
use Rattle.flake_model.specs.Store.{length_is, too_long, found, stores, has_room, bytes_of, bytes_at, key_of, answer}
use Rattle.flake_model.specs.Store.{answer_on, first_on, first_at}
use Rattle.flake_model.specs.Deed.{Places, places_at, found_at}
use Rattle.frag_value.specs.Values.{IsValue, size_of, value_bytes}
use Rattle.frag_value.proofs.Cuts.{length-bytes-value, cut-count}
use Rattle.frag_value.proofs.Ends.{length-map}
use Rattle.shard_core.specs.Keys.{is_key}
use Rattle.shard_core.specs.Kept.{Entries, value_at, IsKept, Agrees, value_addresses}
use Rattle.frag_value.specs.Values.{Frags}
use Rattle.shard_core.proofs.Entries.{every-found}
use Rattle.shard_core.proofs.Holds.{has_found}
use Rattle.shard_core.specs.Parts.{Reach}

whole_value : (o : Option (List ℕ)) (were : List ℕ) → length (bytes_of o) ≤ 4096 * length were
    → Reach (found o) 0 (found_at were (found o))
whole_value None were long = tt
whole_value (Some bytes) were long = λ some. omega (arith, long)

asked_value : (asks does : Bool) (o : Option (List ℕ)) (were : List ℕ) → length (bytes_of o) ≤ 4096 * length were
    → Reach (cond asks (found o) (cond does done missing)) 0
    (found_at were (cond asks (found o) (cond does done missing)))
asked_value true does o were long = whole_value o were long
asked_value false true o were long = tt
asked_value false false o were long = tt

length_or_not : (t : Bool) (n : ℕ) (were : List ℕ) → Reach (cond t (length_is n) too_long) 0
    (found_at were (cond t (length_is n) too_long))
length_or_not true n were = tt
length_or_not false n were = tt

in_range : (bytes : List ℕ) (first last : ℤ) → 0 < length (range_of bytes first last) → first_place (length bytes) first
    + length (range_of bytes first last) ≤ length bytes
in_range bytes first last some =
    let start : ℕ = first_place (length bytes) first in
    omega (arith, some, length-take (end_place (length bytes) last - start) (drop start bytes), length-drop start bytes)

reach_on : (o : Option (List ℕ)) (operation : Operation) (were : List ℕ) → length (bytes_of o) ≤ 4096 * length were
    → Reach (answer_on o operation) (first_on o operation) (found_at were (answer_on o operation))
reach_on o (get key) were long = whole_value o were long
reach_on o (set when asks key bytes) were long = asked_value asks (stores when o) o were long
reach_on o (append key bytes) were long = length_or_not (has_room o bytes) _ were
reach_on o (del key) were long = tt
reach_on o (exists key) were long = tt
reach_on o (str_len key) were long = tt
reach_on o (get_range key first last) were long = λ some. omega (arith, in_range (bytes_of o) first last some, long)

module _ (z : Sizes) (es : Entries) (own : View) (kept : IsKept z es own) (s : Store) (p : Places)
    (agrees : Agrees z es own.holds s p) where
  all_placed : (key : List ℕ) → length (bytes_at s key) ≤ 4096 * length (places_at p key)
  all_placed key = by (value_at key es) refl (agrees.bytes key) (agrees.places_are key)
    where
      by : (o : Option Frags) → value_at key es ≡ o → option_map (value_bytes own.holds) o ≡ finite.get s key
          → option_map (value_addresses z) o ≡ finite.get p key → length (bytes_at s key) ≤ 4096 * length
          (places_at p key)
      by None is text places = omega (arith, ap (λ (q : Option (List ℕ)). length (bytes_of q)) text)
      by (Some v) is text places =
          let cut = (every-found (IsValue z) (is_key key) es v kept.held.values is).cut in
          omega (
            arith,
            ap (λ (q : Option (List ℕ)). length (bytes_of q)) text,
            ap (λ (q : Option (List ℕ)). length (unwrap_or q [])) places,
            length-bytes-value own.holds v (has_found z es [] own.holds kept.held key v is).filled,
            (cut-count (size_of v) v cut).0,
            length-map (λ (q : ℕ × ℕ). q.0) v,
            length-addresses v,
          )
        where
          length-addresses : (w : Frags) → length (value_addresses z w) ≡ length w
          length-addresses [] = refl
          length-addresses (q ∷ w) = omega (arith, length-addresses w)

  pub reaches : (operation : Operation) → Reach (answer s operation) (first_at s operation)
      (found_at (places_at p (key_of operation)) (answer s operation))
  reaches operation = reach_on (finite.get s (key_of operation)) operation (places_at p (key_of operation))
      (all_placed (key_of operation))
