-- What a part costs the seat that pays.
use Rattle.std.specs.Prelude.{◌≡◌, ℕ, ◌+◌, ◌*◌, ◌<◌, ◌≤◌, true, List, [], ◌++◌, length, drop, Option, Some, ⊤}
use Rattle.std.specs.Prelude.{None, Result, is_ok}
use Rattle.std.specs.FinMap as finite
use Rattle.pin_core.specs.Buffers.{buffers}
use Rattle.pin_core.specs.declared.sizes.Sizes.{Sizes}
use Rattle.pin_core.specs.declared.class.Class.{Class}
use Rattle.pinned_pool.specs.Claims.{count_of}
use Rattle.pinned_pool.specs.Classes.{class_at, buffers_in}
use Rattle.pinned_pool.specs.Sought.{Sought}
use Rattle.pinned_pool.specs.Views.{looked_at}
use Rattle.pinned_pool.specs.declared.pool.NoBuffer.{NoBuffer}
use Rattle.pinned_pool.specs.declared.view.View.{View}
use Rattle.flake_model.specs.Store.{Store, Operation, append, stored_value, change_on, bytes_put, bytes_of, key_of}
use Rattle.flake_model.specs.Deed.{Places, kept_fragments}
use Rattle.flake_model.specs.Fragments.{fragment_limit, full_fragments}
use Rattle.flake_base.specs.Limits.{value_limit}
use Rattle.frag_value.specs.Fragments.{stored_fragments, fragments_in}
use Rattle.frag_value.specs.Values.{size_of}
use Rattle.frag_value.specs.declared.error.AppendError.{AppendError}
use Rattle.frag_value.specs.declared.error.AppendError.TheVariants as unadded
use Rattle.frag_value.specs.declared.error.PlaceError.{PlaceError}
use Rattle.frag_value.specs.declared.error.PlaceError.TheVariants as unplaced
use Rattle.shard_core.specs.Kept.{Agrees}
use Rattle.shard_core.specs.ShardMaps.{ShardState}
use Rattle.frag_value.specs.Values.{Frags}
use Rattle.shard_core.specs.Demand.{part_row}
use Rattle.shard_core.specs.declared.answer.PartAnswer.{PartAnswer}

-- Holds, credits and returns are as before. Claims and looks only grew: within these rows, and so many requests found
-- no buffer.
pub record IsPaid (z : Sizes) (rows : Class → ℕ) (requests : ℕ) (old new : View) : Type 0 where
  pub holds : new.holds ≡ old.holds
  pub credits : new.credits ≡ old.credits
  pub returns : new.returns ≡ old.returns
  pub claims : (more : List ℕ) × (new.claims ≡ old.claims ++ more)
  pub looks : (more : List (ℕ × ℕ)) × (new.looks ≡ old.looks ++ more)
  pub sought : Sought z rows requests old new

-- each buffer of the class was found held once more, and fewer of them were claimed than the part's row says
pub record HasNone (z : Sizes) (operation : Operation) (none : NoBuffer) (old new : View) : Type 0 where
  pub looked : none.looked ≡ count_of z none.class
  pub found : (b : ℕ) → b < buffers z → class_at z b ≡ none.class → looked_at b old.looks < looked_at b new.looks
  pub fewer : buffers_in z none.class new.claims
      < buffers_in z none.class old.claims + part_row none.class operation

-- why a part is refused
abbrev pub WhyPartRefused : Sizes → Operation → PlaceError → View → View → Type 0
WhyPartRefused z operation (unplaced.NoBuffer none) old new = HasNone z operation none old new
WhyPartRefused z operation unplaced.Memory old new = ⊤

-- the part was answered, and nothing was claimed or looked at for it
pub record IsFree (result : Result PartAnswer PlaceError) (old new : View) : Type 0 where
  pub answered : is_ok result ≡ true
  pub claims : new.claims ≡ old.claims
  pub looks : new.looks ≡ old.looks

-- a part that stores nothing, on any store that agreed, is free
abbrev pub PaysToStore : Sizes → Operation → Result PartAnswer PlaceError → ShardState → ShardState → Type 0
PaysToStore z operation result old new =
    (store : Store) (places : Places) → Agrees z old.shard.entries old.shard.seat.holds store places
    → stored_value store operation ≡ None → IsFree result old.payer new.payer

-- the fragments that an operation puts into new buffers: those behind the ones that it leaves where they are
abbrev pub fragments_put : List ℕ → Operation → List ℕ → List (List ℕ)
fragments_put old operation bytes = drop (kept_fragments old operation) (stored_fragments bytes)

-- On what its key had, the part stores bytes, and fewer buffers of the class were claimed than the fragments that it
-- puts need.
pub record LacksBuffers (z : Sizes) (had : Option (List ℕ)) (operation : Operation) (none : NoBuffer) (old new : View)
    : Type 0 where
  pub bytes : List ℕ
  pub stores : bytes_put (change_on had operation) ≡ Some bytes
  pub less : buffers_in z none.class new.claims < buffers_in z none.class old.claims
      + fragments_in none.class (fragments_put (bytes_of had) operation bytes)

-- so it is where a part finds no buffer, on any store that agreed
abbrev pub NeedsBuffers : Sizes → Operation → PlaceError → ShardState → ShardState → Type 0
NeedsBuffers z operation (unplaced.NoBuffer none) old new =
    (store : Store) (places : Places) → Agrees z old.shard.entries old.shard.seat.holds store places
    → LacksBuffers z (finite.get store (key_of operation)) operation none old.payer new.payer
NeedsBuffers z operation unplaced.Memory old new = ⊤

-- where an append finds no buffer, fewer of the class were claimed than the bytes behind the full fragments need
abbrev pub LacksBehind : Sizes → List ℕ → List ℕ → AppendError → View → View → Type 0
LacksBehind z text bytes (unadded.TooLong n) old new = ⊤
LacksBehind z text bytes (unadded.NoBuffer none) old new =
    (0 < length bytes)
    × (buffers_in z none.class new.claims < buffers_in z none.class old.claims
    + fragments_in none.class (stored_fragments (drop (fragment_limit * full_fragments text) text ++ bytes)))
LacksBehind z text bytes unadded.Memory old new = ⊤

-- Why bytes are not appended. For too many nothing is claimed or looked at, and only those that fit may find no buffer
-- or no memory.
abbrev pub WhyUnadded : Sizes → Frags → List ℕ → AppendError → View → View → Type 0
WhyUnadded z v bytes (unadded.TooLong n) old new =
    (value_limit < size_of v + length bytes) × (new.claims ≡ old.claims) × (new.looks ≡ old.looks)
WhyUnadded z v bytes (unadded.NoBuffer none) old new =
    (size_of v + length bytes ≤ value_limit) × HasNone z (append [] bytes) none old new
WhyUnadded z v bytes unadded.Memory old new = size_of v + length bytes ≤ value_limit
