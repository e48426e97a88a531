-- A table and a store after a change at one key.
use Rattle.std.proofs.Common.{◌≡◌, ℕ, ⊎_elim, cond, List, [], Option, Some, None, ap, sym, ◌∙◌, subst}
use Rattle.std.proofs.lemmas.Bool.{cases_Bool, cond-true, cond-false}
use Rattle.std.specs.FinMap as finite
use Rattle.std.specs.Ordering.{nat_cmp, eq_by_cmp}
use Rattle.std.specs.Cmp.Lexicographic.{bytes_decides, slice_cmp, nat_list_cmp_total, nat_list_eq_equiv, texts_ties}
use Rattle.flake_model.specs.Store.{Store, Operation, Change, keeps, puts, removes, answer, answer_on, after, change_by}
use Rattle.flake_model.specs.Store.{changed, key_of}
use Rattle.byte_store.specs.Table.{TableEntries, table_bytes, equal_bytes, HasDone, HasKept, value_left, value_after}
use Rattle.byte_store.specs.Store.{HoldsStore}

tied : (key other : List ℕ) → eq_by_cmp (slice_cmp nat_cmp) other key ≡ equal_bytes key other
tied key other = sym (texts_ties other key) ∙ nat_list_eq_equiv.symm other key

-- a store has at one key this, and elsewhere what it had
abbrev pub IsChanged : List ℕ → Option (List ℕ) → Store → Store → Type 0
IsChanged key value old new = (other : List ℕ) → finite.get new other ≡ cond (equal_bytes key other) value
    (finite.get old other)

inserted : (store : Store) (key bytes : List ℕ) → IsChanged key (Some bytes) store (finite.insert store key bytes)
inserted store key bytes other = finite.get-insert nat_list_cmp_total store key bytes other
    ∙ ap (λ test. cond test (Some bytes) (finite.get store other)) (tied key other)

removed : (store : Store) (key : List ℕ) → IsChanged key None store (finite.remove store key)
removed store key other = finite.get-remove nat_list_cmp_total store key other
    ∙ ap (λ test. cond test None (finite.get store other)) (tied key other)

kept : (store : Store) (key : List ℕ) → IsChanged key (finite.get store key) store store
kept store key other =
    ⊎_elim
    (λ is. ap (finite.get store) (sym ((bytes_decides key other).0 is))
    ∙ sym (cond-true (equal_bytes key other) (finite.get store key) (finite.get store other) is))
    (λ differs. sym (cond-false (equal_bytes key other) (finite.get store key) (finite.get store other) differs))
    (cases_Bool (equal_bytes key other))

-- a change of a store is one at its key alone
changed_is : (store : Store) (key : List ℕ) (change : Change)
    → IsChanged key (value_left change (finite.get store key)) store (changed store key change)
changed_is store key keeps = kept store key
changed_is store key (puts bytes) = inserted store key bytes
changed_is store key removes = removed store key

module _ (old new : TableEntries) (store : Store) (operation : Operation) (key : List ℕ)
    (holds : HoldsStore old store) (named : key_of operation ≡ key) where
  -- the table answers as the store does
  pub run_answers : answer_on (table_bytes key old) operation ≡ answer store operation
  run_answers = ap (λ value. answer_on value operation) (holds key)
      ∙ ap (λ k. answer_on (finite.get store k) operation) (sym named)

  -- and has then what the store has
  pub run_holds : HasDone key operation old new → HoldsStore new (after store operation)
  run_holds changed other =
      changed other
      ∙ ap (λ was. cond (equal_bytes key other) (value_after was operation) (table_bytes other old)) (holds key)
      ∙ ap (cond (equal_bytes key other) (value_after (finite.get store key) operation)) (holds other)
      ∙ sym (subst (λ k. IsChanged k (value_after (finite.get store k) operation) store (after store operation)) named
      (changed_is store (key_of operation) (change_by store operation)) other)

-- an empty table is the empty store
pub empty_holds : HoldsStore [] finite.empty
empty_holds key = sym (finite.get-empty (slice_cmp nat_cmp) key)
