-- What a part does, by what its function says.
use Rattle.std.proofs.Common.{◌≡◌, ℕ, ℤ, Bool, true, false, cond, List, ◌++◌, length, None, Some}
use Rattle.std.proofs.Common.{Result, Ok, Err, is_some, refl, sym, ap, ◌∙◌, subst, append-nil, arith}
use Rattle.std.specs.Result.{IfErr, OnOk, OnErr}
use Rattle.std.specs.FinMap as finite
use Rattle.pin_core.specs.declared.class.Class.{Class}
use Rattle.pin_core.specs.declared.sizes.Sizes.{Sizes}
use Rattle.pinned_pool.specs.declared.view.View.{View}
use Rattle.flake_base.specs.declared.segment.Seg.{Seg}
use Rattle.flake_model.specs.Range.{first_place, range_of}
use Rattle.flake_model.specs.Store.{Store, When, Operation, get, set, del, exists, str_len, get_range, keeps, puts}
use Rattle.flake_model.specs.Store.{value, did, length_is, found, stores, bytes_put, bytes_at}
use Rattle.flake_model.specs.Deed.{Places, places_at}
use Rattle.frag_value.specs.Changes.{WhyUnplaced, found_none}
use Rattle.frag_value.specs.Fragments.{stored_fragments, fragments_in}
use Rattle.frag_value.specs.Taken.{TakenPiece, entire, ranged}
use Rattle.frag_value.specs.declared.error.PlaceError.{PlaceError}
use Rattle.frag_value.specs.declared.error.PlaceError.TheVariants as unplaced
use Rattle.shard_part.specs.Parts.{operation_by, operation_of}
use Rattle.shard_part.specs.declared.part.Part.{Part}
use Rattle.shard_part.specs.declared.part.PartOp.{PartOp}
use Rattle.shard_core.specs.Answers.{answer_shown}
use Rattle.shard_core.specs.Demand.{part_row}
use Rattle.shard_core.specs.Done.{Does, DoesPart, is_taking, is_ranged}
use Rattle.shard_core.specs.Kept.{Entries, IsKept, IsAsBefore, Agrees, StillAgrees, bytes_kept}
use Rattle.shard_core.specs.Paid.{IsPaid, WhyPartRefused}
use Rattle.shard_core.specs.Pieces.{pieces_at}
use Rattle.shard_core.specs.ShardMaps.{ShardMapView, ShardState}
use Rattle.shard_core.specs.Takers.{TakerView, MayTake, KeepsTaker}
use Rattle.shard_core.specs.declared.answer.PartAnswer.{PartAnswer}
use Rattle.shard_core.specs.declared.answer.PartAnswer.TheVariants as say
use Rattle.shard_core.proofs.Brought.{unpaid}
use Rattle.shard_core.proofs.Deeds.{same_done, gone_done}
use Rattle.shard_core.proofs.Needs.{set_needs}

-- a taker that nothing was handed to
pub untouched : {B : Type 0} (range : Bool) (taker : TakerView B) → taker.begun ≡ None → KeepsTaker range taker taker
untouched range taker none = record {
  none = none;
  base = refl;
  room = λ _. omega arith;
  range_room = λ _. omega arith;
}

-- what is asked of a part's taker and what it keeps, once the part is known
module _ {B : Type 0} (part : Part) (op : PartOp) (is : part.op ≡ op) where
  pub may_take : (taker : TakerView B)
      → MayTake (is_taking (operation_of part)) (is_ranged (operation_of part)) taker
      → MayTake (is_taking (operation_by op part.key.now part.value.now))
      (is_ranged (operation_by op part.key.now part.value.now)) taker
  may_take taker may = subst (λ (x : PartOp). MayTake (is_taking (operation_by x part.key.now part.value.now))
      (is_ranged (operation_by x part.key.now part.value.now)) taker) is may

  pub keeps_taker : (old new : TakerView B)
      → KeepsTaker (is_ranged (operation_by op part.key.now part.value.now)) old new
      → KeepsTaker (is_ranged (operation_of part)) old new
  keeps_taker old new kept = subst (λ (x : PartOp). KeepsTaker
      (is_ranged (operation_by x part.key.now part.value.now)) old new) (sym is) kept

-- and what it does, on a shard that is seen so
pub asked : (z : Sizes) (part : Part) (op : PartOp) (result : Result PartAnswer PlaceError)
    (inside seen : ShardMapView) (payer : View) (segs : List Seg) (t : List TakenPiece) (new : ShardState)
    → part.op ≡ op → inside ≡ seen
    → DoesPart z (operation_by op part.key.now part.value.now) result
    (record { shard = inside; payer = payer; stored = segs; taken = t }) new
    → DoesPart z (operation_of part) result
    (record { shard = seen; payer = payer; stored = segs; taken = t }) new
asked z part op result inside seen payer segs t new is same does =
    subst (λ (m : ShardMapView). DoesPart z (operation_of part) result
    (record { shard = m; payer = payer; stored = segs; taken = t }) new) same
    (subst (λ (x : PartOp). DoesPart z (operation_by x part.key.now part.value.now) result
    (record { shard = inside; payer = payer; stored = segs; taken = t }) new) (sym is) does)

-- one that leaves the shard as it is seen
pub asked_of : (z : Sizes) (part : Part) (op : PartOp) (result : Result PartAnswer PlaceError)
    (inside seen : ShardMapView) (payer : View) (segs : List Seg) (t : List TakenPiece) → part.op ≡ op → inside ≡ seen
    → DoesPart z (operation_by op part.key.now part.value.now) result
    (record { shard = inside; payer = payer; stored = segs; taken = t })
    (record { shard = inside; payer = payer; stored = segs; taken = t })
    → DoesPart z (operation_of part) result
    (record { shard = seen; payer = payer; stored = segs; taken = t })
    (record { shard = seen; payer = payer; stored = segs; taken = t })
asked_of z part op result inside seen payer segs t is same does =
    subst (λ (m : ShardMapView). DoesPart z (operation_of part) result
    (record { shard = m; payer = payer; stored = segs; taken = t })
    (record { shard = m; payer = payer; stored = segs; taken = t })) same
    (subst (λ (x : PartOp). DoesPart z (operation_by x part.key.now part.value.now) result
    (record { shard = inside; payer = payer; stored = segs; taken = t })
    (record { shard = inside; payer = payer; stored = segs; taken = t })) (sym is) does)

-- a part that is answered, and for which nothing is claimed or stored
module _ (z : Sizes) (before after : ShardMapView) (payer : View) (segs : List Seg) (t0 t1 : List TakenPiece) where
  abbrev pub old : ShardState
  old = record { shard = before; payer = payer; stored = segs; taken = t0 }

  abbrev pub new : ShardState
  new = record { shard = after; payer = payer; stored = segs; taken = t1 }

  abbrev pub Holds : (Store → Places → Type 0) → Type 0
  Holds P = (s : Store) (p : Places) → Agrees z before.entries before.seat.holds s p → P s p

  pub free_part : (operation : Operation) (said : PartAnswer) → Does z operation (Ok said) old new
      → DoesPart z operation (Ok said) old new
  free_part operation said done = record {
    done = done;
    same = λ s p a. tt;
    untold = tt;
    untaken = tt;
    cause = tt;
    needs = tt;
    paid = unpaid z (λ (class : Class). part_row class operation) payer;
    pays = λ s p a none. record { answered = refl; claims = refl; looks = refl };
  }

  pub got_part : (key : List ℕ) (said : PartAnswer) → Holds (λ s p. said ≡ answer_shown (found (finite.get s key)))
      → StillAgrees z before.entries before.seat.holds after.entries after.seat.holds
      → Holds (λ s p. t1 ≡ t0 ++ pieces_at entire false (found (finite.get s key)) (places_at p key) 0)
      → DoesPart z (get key) (Ok said) old new
  got_part key said says agrees taken = free_part (get key) said (λ s p a.
      same_done z (get key) s p said old new (found (finite.get s key)) refl refl (says s p a) (agrees s p a) refl
      (taken s p a))

  pub ranged_part : (key : List ℕ) (first last from to : ℤ) (said : PartAnswer) → said ≡ say.Bulk
      → StillAgrees z before.entries before.seat.holds after.entries after.seat.holds
      → Holds (λ s p. t1 ≡ t0 ++ pieces_at ranged false (value (range_of (bytes_at s key) from to))
      (places_at p key) (first_place (length (bytes_at s key)) from))
      → from ≡ first → to ≡ last → DoesPart z (get_range key first last) (Ok said) old new
  ranged_part key first last from to said says agrees taken begins ends =
      subst (λ (y : ℤ × ℤ). DoesPart z (get_range key y.0 y.1) (Ok said) old new) (λ i. (begins i, ends i))
      (free_part (get_range key from to) said (λ s p a.
      same_done z (get_range key from to) s p said old new (value (range_of (bytes_at s key) from to)) refl refl
      says (agrees s p a) refl (taken s p a)))

-- one that gives the taker nothing
module _ (z : Sizes) (before after : ShardMapView) (payer : View) (segs : List Seg) (t : List TakenPiece)
    (key : List ℕ) where
  abbrev pub was : ShardState
  was = record { shard = before; payer = payer; stored = segs; taken = t }

  abbrev pub is : ShardState
  is = record { shard = after; payer = payer; stored = segs; taken = t }

  pub gone_part : (there : Bool)
      → ((s : Store) (p : Places) → Agrees z before.entries before.seat.holds s p
      → Agrees z after.entries after.seat.holds (finite.remove s key) (finite.remove p key))
      → ((s : Store) (p : Places) → Agrees z before.entries before.seat.holds s p → there ≡ is_some (finite.get s key))
      → DoesPart z (del key) (Ok (say.Did there)) was is
  gone_part there agrees says = free_part z before after payer segs t t (del key) (say.Did there) (λ s p a.
      gone_done z (del key) s p (say.Did there) was is (did (is_some (finite.get s key))) refl refl
      (ap (λ b. say.Did b) (says s p a)) (agrees s p a) refl refl refl)

-- one that reads the shard
module _ (z : Sizes) (shard : ShardMapView) (payer : View) (segs : List Seg) (t : List TakenPiece)
    (key : List ℕ) where
  abbrev pub stays : ShardState
  stays = record { shard = shard; payer = payer; stored = segs; taken = t }

  pub there_part : (there : Bool)
      → ((s : Store) (p : Places) → Agrees z shard.entries shard.seat.holds s p → there ≡ is_some (finite.get s key))
      → DoesPart z (exists key) (Ok (say.Did there)) stays stays
  there_part there says = free_part z shard shard payer segs t t (exists key) (say.Did there) (λ s p a.
      same_done z (exists key) s p (say.Did there) stays stays (did (is_some (finite.get s key))) refl refl
      (ap (λ b. say.Did b) (says s p a)) a refl (sym (append-nil t)))

  pub sized_part : (size : ℕ)
      → ((s : Store) (p : Places) → Agrees z shard.entries shard.seat.holds s p → size ≡ length (bytes_at s key))
      → DoesPart z (str_len key) (Ok (say.Length size)) stays stays
  sized_part size says = free_part z shard shard payer segs t t (str_len key) (say.Length size) (λ s p a.
      same_done z (str_len key) s p (say.Length size) stays stays (length_is (length (bytes_at s key))) refl refl
      (ap (λ n. say.Length n) (says s p a)) a refl (sym (append-nil t)))

-- a set that stores, or finds no room for what it stores
module _ (z : Sizes) (when : When) (asks : Bool) (key bytes : List ℕ) (old new : ShardState) where
  still : (r : Result PartAnswer PlaceError) → OnErr r (IsAsBefore old.shard.entries new.shard.entries old.shard.seat
      new.shard.seat old.stored new.stored) → (s : Store) (p : Places)
      → Agrees z old.shard.entries old.shard.seat.holds s p
      → OnErr r (Agrees z new.shard.entries new.shard.seat.holds s p)
  still (Ok said) refused s p a = tt
  still (Err e) refused s p a = subst (λ (y : Entries × View). Agrees z y.0 y.1.holds s p)
      (λ i. (sym refused.entries i, sym refused.seat i)) a

  unstored : (r : Result PartAnswer PlaceError) → OnErr r (IsAsBefore old.shard.entries new.shard.entries
      old.shard.seat new.shard.seat old.stored new.stored) → OnErr r (new.stored ≡ old.stored)
  unstored (Ok said) refused = tt
  unstored (Err e) refused = refused.segs_are

  why : (r : Result PartAnswer PlaceError)
      → IfErr r (λ e. WhyUnplaced z (stored_fragments bytes) e old.payer new.payer)
      → IfErr r (λ e. WhyPartRefused z (set when asks key bytes) e old.payer new.payer)
  why (Ok said) cause = tt
  why (Err (unplaced.NoBuffer none)) cause = record {
    looked = cause.looked;
    found = cause.found;
    fewer = cause.fewer;
  }
  why (Err unplaced.Memory) cause = tt

  pub stored_part : (r : Result PartAnswer PlaceError)
      → stores when (bytes_kept key old.shard.entries old.shard.seat.holds) ≡ true
      → Does z (set when asks key bytes) r old new
      → OnErr r (IsAsBefore old.shard.entries new.shard.entries old.shard.seat new.shard.seat old.stored new.stored)
      → OnErr r (new.taken ≡ old.taken)
      → IfErr r (λ e. WhyUnplaced z (stored_fragments bytes) e old.payer new.payer)
      → IsPaid z (λ (class : Class). fragments_in class (stored_fragments bytes)) (found_none r) old.payer new.payer
      → DoesPart z (set when asks key bytes) r old new
  stored_part r does done refused untaken cause paid = record {
    done = done;
    same = still r refused;
    untold = unstored r refused;
    untaken = untaken;
    cause = why r cause;
    needs = set_needs z when asks key bytes r old new does cause;
    paid = paid;
    pays = λ s p a none.
        let put : bytes_put (cond (stores when (finite.get s key)) (puts bytes) keeps) ≡ Some bytes =
        ap (λ t. bytes_put (cond t (puts bytes) keeps)) (ap (stores when) (sym (a.bytes key)) ∙ does) in
        let wrong : Some bytes ≡ None = sym put ∙ none in
        absurd (cc);
  }

  -- the shard keeps what it should, either way
  pub either_kept : (r : Result PartAnswer PlaceError) → IsKept z old.shard.entries old.shard.seat
      → OnOk r (IsKept z new.shard.entries new.shard.seat)
      → OnErr r (IsAsBefore old.shard.entries new.shard.entries old.shard.seat new.shard.seat old.stored new.stored)
      → IsKept z new.shard.entries new.shard.seat
  either_kept (Ok said) before kept refused = kept
  either_kept (Err e) before kept refused = subst (λ (y : Entries × View). IsKept z y.0 y.1)
      (λ i. (sym refused.entries i, sym refused.seat i)) before
