-- An append that fits stores a value, and one that is refused because it is too long is free.
use Rattle.std.proofs.Common.{◌≡◌, ℕ, ◌+◌, ◌≤◌, true, cond, List, ◌++◌, length, Option, None, Some, Result, nat_le}
use Rattle.std.proofs.Common.{is_ok, sym, ap, ◌∙◌, subst, arith}
use Rattle.std.proofs.lemmas.Bool.{le-leb}
use Rattle.std.proofs.lemmas.List.{length-append}
use Rattle.std.specs.Option.{option_map}
use Rattle.std.specs.FinMap as finite
use Rattle.pin_core.specs.declared.sizes.Sizes.{Sizes}
use Rattle.pinned_pool.specs.declared.view.View.{View}
use Rattle.flake_model.specs.Store.{Store, append, keeps, puts, stored_value, bytes_put, bytes_of}
use Rattle.flake_base.specs.Limits.{value_limit}
use Rattle.flake_model.specs.Deed.{Places}
use Rattle.frag_value.specs.Values.{value_bytes, size_of}
use Rattle.frag_value.specs.declared.error.AppendError.{AppendError}
use Rattle.frag_value.specs.declared.error.AppendError.TheVariants as unadded
use Rattle.frag_value.specs.declared.error.PlaceError.{PlaceError}
use Rattle.frag_value.proofs.Cuts.{length-bytes-value}
use Rattle.shard_core.specs.Answers.{outcome_of}
use Rattle.shard_core.specs.Kept.{Entries, value_at, IsKept, Agrees}
use Rattle.frag_value.specs.Values.{Frags}
use Rattle.shard_core.specs.Paid.{PaysToStore, WhyUnadded}
use Rattle.shard_core.specs.ShardMaps.{ShardMapView, ShardState}
use Rattle.shard_core.specs.declared.answer.PartAnswer.{PartAnswer}
use Rattle.shard_core.proofs.Holds.{has_found}

-- an append that fits has a value to store
pub append_stores : (s : Store) (key bytes : List ℕ) (o : Option (List ℕ)) → o ≡ finite.get s key
    → length (bytes_of o ++ bytes) ≤ value_limit → stored_value s (append key bytes) ≡ None → ⊥
append_stores s key bytes o there fits none =
    let whole : List ℕ = bytes_of (finite.get s key) ++ bytes in
    let few : nat_le (length whole) value_limit ≡ true = ap (λ q. nat_le (length (bytes_of q ++ bytes)) value_limit)
    (sym there) ∙ le-leb (length (bytes_of o ++ bytes)) value_limit fits in
    let put : Some whole ≡ None = sym (ap (λ b. bytes_put (cond b (puts whole) keeps)) few) ∙ none in
    absurd (cc)

-- the value of the key, and bytes behind it
module _ (z : Sizes) (key bytes : List ℕ) (es : Entries) (own : View) (v : Frags) (kept : IsKept z es own)
    (there : value_at key es ≡ Some v) where
  pub more_stores : size_of v + length bytes ≤ value_limit → (s : Store) (p : Places) → Agrees z es own.holds s p
      → stored_value s (append key bytes) ≡ None → ⊥
  more_stores few s p a none =
      let old : List ℕ = value_bytes own.holds v in
      let size : length old ≡ size_of v = length-bytes-value own.holds v
      (has_found z es _ own.holds kept.held key v there).filled in
      append_stores s key bytes (Some old) (ap (option_map (value_bytes own.holds)) (sym there) ∙ a.bytes key)
      (omega (arith, few, size, length-append old bytes)) none

  pub refused_free : (e : AppendError) (r : Result PartAnswer PlaceError) (old new : ShardState) → r ≡ outcome_of e
      → old.shard ≡ record { entries = es; seat = own } → WhyUnadded z v bytes e old.payer new.payer
      → PaysToStore z (append key bytes) r old new
  refused_free (unadded.TooLong n) r old new is at why = λ s p a none. record {
    answered = ap is_ok is;
    claims = why.1;
    looks = why.2;
  }
  refused_free (unadded.NoBuffer none) r old new is at why = λ s p a stored.
      absurd (more_stores why.0 s p (subst (λ (m : ShardMapView). Agrees z m.entries m.seat.holds s p) at a) stored)
  refused_free unadded.Memory r old new is at why = λ s p a stored.
      absurd (more_stores why s p (subst (λ (m : ShardMapView). Agrees z m.entries m.seat.holds s p) at a) stored)
