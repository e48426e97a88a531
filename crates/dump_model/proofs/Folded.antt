-- What a store has, and that it is built again by a SET for each of its keys.
use Rattle.std.proofs.Common.{◌≡◌, ℕ, ◌≤◌, zero, suc, Bool, true, false, cond, List, [], ◌∷◌, ◌++◌, length}
use Rattle.std.proofs.Common.{take, Option, None, Some, arith, refl, sym, ◌∙◌, subst}
use Rattle.std.specs.List.{AllByRecursion, flat_map}
use Rattle.std.proofs.lemmas.Cmp.{nat_list_cmp_total}
use Rattle.std.specs.Ordering.{nat_cmp, eq_by_cmp}
use Rattle.std.specs.Cmp.Lexicographic.{slice_cmp, bytes_decides, texts_ties}
use Rattle.std.specs.FinMap as finite
use Rattle.flake_base.specs.declared.journal.Entry.{Entry}
use Rattle.flake_model.specs.Store.{Store, Operation, set, append}
use Rattle.flake_model.specs.Store.{bytes_of, has_room, stores, Change, keeps, puts, removes, change_on}
use Rattle.flake_base.specs.Limits.{value_limit}
use Rattle.flake_model.specs.Store.{change_by, changed, after, key_of}
use Rattle.flake_model.specs.Journal.{shard_of, operation_at, step_of, store_after}
use Rattle.dump_model.specs.Dump.{Pair, ParsedInput, commands_parsed, at_point, IsHome}
use Rattle.flake_model.proofs.Requests.{IsAllowed}
use Rattle.dump_model.proofs.Allowed.{entry_allowed}

-- a key of the shard, and a value, of lengths that a SET may have
pub record IsGood (shards shard : ℕ) (key value : List ℕ) : Type 0 where
  pub home : shard_of shards key ≡ shard
  pub key_short : length key ≤ 512
  pub value_short : length value ≤ value_limit

abbrev pub IsGoodPair : ℕ → ℕ → Pair → Type 0
IsGoodPair shards shard pair = IsGood shards shard pair.0 pair.1

abbrev pub IsGoodStore : ℕ → ℕ → Store → Type 0
IsGoodStore shards shard store =
    (key value : List ℕ) → finite.get store key ≡ Some value → IsGood shards shard key value

-- what is put is short
put_short : (old : Option (List ℕ)) (operation : Operation) (bytes : List ℕ) → IsAllowed operation
    → change_on old operation ≡ puts bytes → length bytes ≤ value_limit
put_short old (set when asks key new) bytes allowed is = by_when (stores when old) refl where
  by_when : (t : Bool) → stores when old ≡ t → length bytes ≤ value_limit
  by_when true e = let same : puts new ≡ puts bytes = rw e at is in let eq : new ≡ bytes = cc in
      subst (λ (b : List ℕ). length b ≤ value_limit) eq allowed.bytes
  by_when false e = absurd (let no : keeps ≡ puts bytes = rw e at is in cc)
put_short old (append key new) bytes allowed is = by_room (has_room old new) refl where
  by_room : (t : Bool) → has_room old new ≡ t → length bytes ≤ value_limit
  by_room true e =
      let same : puts (bytes_of old ++ new) ≡ puts bytes = rw e at is in
      let eq : bytes_of old ++ new ≡ bytes = cc in
      let few : length (bytes_of old ++ new) ≤ value_limit = grind arith in
      subst (λ (b : List ℕ). length b ≤ value_limit) eq few
  by_room false e = absurd (let no : keeps ≡ puts bytes = rw e at is in cc)
put_short old operation bytes allowed is = absurd (cc (is))

-- keys that tie are equal
pub tied_same : (q k : List ℕ) → eq_by_cmp (slice_cmp nat_cmp) q k ≡ true → q ≡ k
tied_same q k is = (bytes_decides q k).0 (texts_ties q k ∙ is)

module _ (shards shard : ℕ) where
  good_put : (store : Store) (key bytes : List ℕ) → IsGoodStore shards shard store → IsGood shards shard key bytes
      → IsGoodStore shards shard (finite.insert store key bytes)
  good_put store key bytes good new q v is = by_tie (eq_by_cmp (slice_cmp nat_cmp) q key) refl where
    found : cond (eq_by_cmp (slice_cmp nat_cmp) q key) (Some bytes) (finite.get store q) ≡ Some v
    found = sym (finite.get-insert nat_list_cmp_total store key bytes q) ∙ is

    by_tie : (t : Bool) → eq_by_cmp (slice_cmp nat_cmp) q key ≡ t → IsGood shards shard q v
    by_tie true e =
        let same : Some bytes ≡ Some v = rw e at found in
        let bytes_are : bytes ≡ v = cc in
        subst (λ (k : List ℕ). IsGood shards shard k v) (sym (tied_same q key e))
        (subst (λ (b : List ℕ). IsGood shards shard key b) bytes_are new)
    by_tie false e = good q v (rw e at found)

  good_removed : (store : Store) (key : List ℕ) → IsGoodStore shards shard store
      → IsGoodStore shards shard (finite.remove store key)
  good_removed store key good q v is = by_tie (eq_by_cmp (slice_cmp nat_cmp) q key) refl where
    found : cond (eq_by_cmp (slice_cmp nat_cmp) q key) None (finite.get store q) ≡ Some v
    found = sym (finite.get-remove nat_list_cmp_total store key q) ∙ is

    by_tie : (t : Bool) → eq_by_cmp (slice_cmp nat_cmp) q key ≡ t → IsGood shards shard q v
    by_tie true e = absurd (let no : None ≡ Some v = rw e at found in cc)
    by_tie false e = good q v (rw e at found)

  good_changed : (store : Store) (key : List ℕ) (change : Change) → IsGoodStore shards shard store
      → ((bytes : List ℕ) → change ≡ puts bytes → IsGood shards shard key bytes)
      → IsGoodStore shards shard (changed store key change)
  good_changed store key keeps good new = good
  good_changed store key (puts bytes) good new = good_put store key bytes good (new bytes refl)
  good_changed store key removes good new = good_removed store key good

  good_after : (store : Store) (operation : Operation) → IsGoodStore shards shard store → IsAllowed operation
      → shard_of shards (key_of operation) ≡ shard → IsGoodStore shards shard (after store operation)
  good_after store operation good allowed here =
      good_changed store (key_of operation) (change_by store operation) good
      (λ bytes is. record {
        home = here;
        key_short = allowed.key;
        value_short =
            put_short (finite.get store (key_of operation)) operation bytes allowed is;
      })

  good_steps : (inputs : List ParsedInput) (store : Store) (history : List Entry) → IsGoodStore shards shard store
      → AllByRecursion (IsHome (commands_parsed inputs) shards shard) history
      → IsGoodStore shards shard (store_after store (flat_map (step_of (commands_parsed inputs)) history))
  good_steps inputs store [] good homes = good
  good_steps inputs store (entry ∷ history) good homes =
      let operation = homes.0.0 in
      let names : operation_at (commands_parsed inputs) entry ≡ Some operation = homes.0.1 in
      rw names
      (good_steps inputs (after store operation) history
      (good_after store operation good (entry_allowed inputs entry operation names) homes.0.2) homes.1)

all_take : {A : Type 0} (P : A → Type 0) (n : ℕ) (xs : List A) → AllByRecursion P xs → AllByRecursion P (take n xs)
all_take P zero xs all = tt
all_take P (suc n) [] all = tt
all_take P (suc n) (x ∷ xs) all = (all.0, all_take P n xs all.1)

nothing_good : (shards shard : ℕ) → IsGoodStore shards shard finite.empty
nothing_good shards shard key value is = absurd (let no : None ≡ Some value = sym (finite.get-empty _ key) ∙ is in cc)

-- what a shard had at a point is all of that shard, and short
pub good_point : (inputs : List ParsedInput) (shards shard : ℕ) (history : List Entry) (point : ℕ)
    → AllByRecursion (IsHome (commands_parsed inputs) shards shard) history
    → IsGoodStore shards shard (at_point (commands_parsed inputs) history point)
good_point inputs shards shard history point homes =
    good_steps shards shard inputs finite.empty (take point history) (nothing_good shards shard)
    (all_take _ point history homes)
