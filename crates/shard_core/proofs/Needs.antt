-- The buffers that a part needs: one for each fragment that it puts.
use Rattle.std.proofs.Common.{◌≡◌, ℕ, zero, suc, ◌+◌, ◌-◌, ◌*◌, ◌/◌, ◌<◌, ◌≤◌, Bool, true, cond, List}
use Rattle.std.proofs.Common.{[], ◌∷◌, ◌++◌, length, drop, Option, None, Some, Result, Ok, Err, nat_le, refl, sym, ap}
use Rattle.std.proofs.Common.{◌∙◌, subst, arith}
use Rattle.std.proofs.lemmas.Bool.{le-leb}
use Rattle.std.proofs.lemmas.List.{length-append, length-drop, drop-append-le, drop-drop, drop_at}
use Rattle.std.specs.Option.{option_map}
use Rattle.std.specs.Result.{IfErr}
use Rattle.view_sums.specs.Total.{Each}
use Rattle.view_sums.proofs.Eachs.{each-front}
use Rattle.pin_core.specs.Holding.{Holding}
use Rattle.pin_core.specs.declared.sizes.Sizes.{Sizes}
use Rattle.pinned_pool.specs.declared.view.View.{View}
use Rattle.flake_base.specs.Limits.{value_limit}
use Rattle.flake_model.specs.Store.{When, set, append, keeps, puts, stores, bytes_put, bytes_of}
use Rattle.flake_model.specs.Fragments.{full_fragments}
use Rattle.frag_value.specs.Changes.{WhyUnplaced}
use Rattle.frag_value.specs.Fragments.{pieces, stored_fragments, fragments_in}
use Rattle.frag_value.specs.Values.{Frags, IsValue, IsFilled, size_of, value_bytes, whole_fragments, partial_of}
use Rattle.frag_value.specs.declared.error.AppendError.{AppendError}
use Rattle.frag_value.specs.declared.error.AppendError.TheVariants as unadded
use Rattle.frag_value.specs.declared.error.PlaceError.{PlaceError}
use Rattle.frag_value.specs.declared.error.PlaceError.TheVariants as unplaced
use Rattle.frag_value.proofs.Cuts.{AreFull, parts, full-are, length-bytes-value, bytes-append}
use Rattle.shard_core.specs.Answers.{outcome_of}
use Rattle.shard_core.specs.Kept.{Entries, value_at, IsKept, Agrees, bytes_kept}
use Rattle.shard_core.specs.ShardMaps.{ShardMapView, ShardState}
use Rattle.shard_core.specs.Paid.{fragments_put, LacksBuffers, NeedsBuffers, LacksBehind, WhyUnadded}
use Rattle.shard_core.specs.declared.answer.PartAnswer.{PartAnswer}
use Rattle.shard_core.proofs.Holds.{has_found}

-- the pieces behind the first ones
pieces-behind : (k n : ℕ) (bytes : List ℕ) → drop k (pieces n bytes) ≡ pieces (n - k) (drop (4096 * k) bytes)
pieces-behind zero n bytes = ap (λ m. pieces m bytes) (let e : n ≡ n - 0 = omega arith in e)
pieces-behind (suc k) zero bytes =
    ap (λ m. pieces m (drop (4096 * suc k) bytes)) (let e : 0 ≡ 0 - suc k = omega arith in e)
pieces-behind (suc k) (suc n) bytes =
    let fewer : n - k ≡ suc n - suc k = omega arith in
    let place : 4096 + 4096 * k ≡ 4096 * suc k = omega arith in
    pieces-behind k n (drop 4096 bytes)
    ∙ (λ i. pieces (fewer i) (drop-drop (4096 * k) 4096 bytes i))
    ∙ ap (λ m. pieces (suc n - suc k) (drop m bytes)) place

put_behind : (old bytes : List ℕ) → drop (full_fragments old) (stored_fragments (old ++ bytes))
    ≡ stored_fragments (drop (4096 * full_fragments old) old ++ bytes)
put_behind old bytes =
    let k : ℕ = full_fragments old in
    let whole : List ℕ = old ++ bytes in
    let within : 4096 * k ≤ length old = omega arith in
    let left : drop (4096 * k) whole ≡ drop (4096 * k) old ++ bytes = drop-append-le (4096 * k) old bytes within in
    let count : (length whole + 4095) / 4096 - k ≡ (length (drop (4096 * k) old ++ bytes) + 4095) / 4096 =
    omega (arith, length-append old bytes, length-append (drop (4096 * k) old) bytes, length-drop (4096 * k) old) in
    pieces-behind k ((length whole + 4095) / 4096) whole ∙ (λ i. pieces (count i) (left i))

-- what an append puts
put_fragments : (text bytes key : List ℕ) → 0 < length bytes → fragments_put text (append key bytes) (text ++ bytes)
    ≡ stored_fragments (drop (4096 * full_fragments text) text ++ bytes)
put_fragments text [] key some = absurd (omega arith)
put_fragments text (byte ∷ bytes) key some = put_behind text (byte ∷ bytes)

first_fragments : (bytes key : List ℕ) → fragments_put [] (append key bytes) bytes ≡ stored_fragments bytes
first_fragments [] key = refl
first_fragments (byte ∷ bytes) key = refl

-- the bytes of a value's partial fragment
pub behind_full : (z : Sizes) (hs : List Holding) (v : Frags) → IsValue z v → Each (IsFilled hs) v
    → value_bytes hs (partial_of v) ≡ drop (4096 * full_fragments (value_bytes hs v)) (value_bytes hs v)
behind_full z hs v is filled =
    let all = parts (size_of v) v is.cut in
    let full : Frags = whole_fragments v in
    let both = subst (Each (IsFilled hs)) all.whole filled in
    let text : value_bytes hs v ≡ value_bytes hs full ++ value_bytes hs (partial_of v) =
    ap (value_bytes hs) all.whole ∙ bytes-append hs full (partial_of v) in
    let size : length (value_bytes hs full) ≡ 4096 * length full =
    length-bytes-value hs full (each-front (IsFilled hs) full (partial_of v) both) ∙ size-full full (full-are v) in
    let count : full_fragments (value_bytes hs v) ≡ length full =
    omega (arith, length-bytes-value hs v filled, all.size, size-full full (full-are v)) in
    sym (ap (drop (4096 * full_fragments (value_bytes hs v))) text
    ∙ drop_at (value_bytes hs full) (value_bytes hs (partial_of v)) (4096 * full_fragments (value_bytes hs v))
    (omega (arith, size, count)))
  where
    size-full : (x : Frags) → AreFull x → size_of x ≡ 4096 * length x
    size-full [] f = refl
    size-full (q ∷ x) f = omega (arith, f.0, size-full x f.1)

-- a set that stores
pub set_needs : (z : Sizes) (when : When) (asks : Bool) (key bytes : List ℕ) (r : Result PartAnswer PlaceError)
    (old new : ShardState) → stores when (bytes_kept key old.shard.entries old.shard.seat.holds) ≡ true
    → IfErr r (λ e. WhyUnplaced z (stored_fragments bytes) e old.payer new.payer)
    → IfErr r (λ e. NeedsBuffers z (set when asks key bytes) e old new)
set_needs z when asks key bytes (Ok said) old new does why = tt
set_needs z when asks key bytes (Err e) old new does why = by e why
  where
    by : (e : PlaceError) → WhyUnplaced z (stored_fragments bytes) e old.payer new.payer
        → NeedsBuffers z (set when asks key bytes) e old new
    by (unplaced.NoBuffer none) why = λ s p a. record {
      bytes = bytes;
      stores = ap (λ t. bytes_put (cond t (puts bytes) keeps)) (ap (stores when) (sym (a.bytes key)) ∙ does);
      less = why.fewer;
    }
    by unplaced.Memory why = tt

has_room_for : (o : Option (List ℕ)) (bytes : List ℕ) → length (bytes_of o ++ bytes) ≤ value_limit
    → bytes_put (cond (nat_le (length (bytes_of o ++ bytes)) value_limit) (puts (bytes_of o ++ bytes)) keeps)
    ≡ Some (bytes_of o ++ bytes)
has_room_for o bytes few =
    ap (λ t. bytes_put (cond t (puts (bytes_of o ++ bytes)) keeps))
    (le-leb (length (bytes_of o ++ bytes)) value_limit few)

-- an append to a key that is missing
pub first_needs : (z : Sizes) (key bytes : List ℕ) (e : PlaceError) (old new : ShardState)
    → bytes_kept key old.shard.entries old.shard.seat.holds ≡ None → length bytes ≤ value_limit
    → WhyUnplaced z (stored_fragments bytes) e old.payer new.payer → NeedsBuffers z (append key bytes) e old new
first_needs z key bytes (unplaced.NoBuffer none) old new missing few why = λ s p a.
    subst (λ (o : Option (List ℕ)). LacksBuffers z o (append key bytes) none old.payer new.payer)
    (sym missing ∙ a.bytes key)
    (record {
      bytes = bytes;
      stores = has_room_for None bytes few;
      less = omega (arith, why.fewer, ap (fragments_in none.class) (first_fragments bytes key));
    })
first_needs z key bytes unplaced.Memory old new missing few why = tt

-- and to one that is there
pub more_needs : (z : Sizes) (key bytes : List ℕ) (es : Entries) (own : View) (v : Frags) → IsKept z es own
    → value_at key es ≡ Some v → (e : AppendError) (r : Result PartAnswer PlaceError) (old new : ShardState)
    → r ≡ outcome_of e → old.shard ≡ record { entries = es; seat = own }
    → WhyUnadded z v bytes e old.payer new.payer
    → LacksBehind z (value_bytes own.holds v) bytes e old.payer new.payer
    → IfErr r (λ x. NeedsBuffers z (append key bytes) x old new)
more_needs z key bytes es own v kept there e r old new is at why lacks =
    subst (λ x. IfErr x (λ y. NeedsBuffers z (append key bytes) y old new)) (sym is) (by e why lacks)
  where
    by : (e : AppendError) → WhyUnadded z v bytes e old.payer new.payer
        → LacksBehind z (value_bytes own.holds v) bytes e old.payer new.payer
        → IfErr (outcome_of e) (λ y. NeedsBuffers z (append key bytes) y old new)
    by (unadded.TooLong n) why lacks = tt
    by (unadded.NoBuffer none) why lacks = λ s p a.
        let text : List ℕ = value_bytes own.holds v in
        let size : length text ≡ size_of v = length-bytes-value own.holds v
        (has_found z es _ own.holds kept.held key v there).filled in
        let agreed : Agrees z es own.holds s p =
        subst (λ (m : ShardMapView). Agrees z m.entries m.seat.holds s p) at a in
        subst (λ (o : Option (List ℕ)). LacksBuffers z o (append key bytes) none old.payer new.payer)
        (ap (option_map (value_bytes own.holds)) (sym there) ∙ agreed.bytes key)
        (record {
          bytes = text ++ bytes;
          stores = has_room_for (Some text) bytes (omega (arith, why.0, size, length-append text bytes));
          less = omega (arith, lacks.1, ap (fragments_in none.class) (put_fragments text bytes key lacks.0));
        })
    by unadded.Memory why lacks = tt
