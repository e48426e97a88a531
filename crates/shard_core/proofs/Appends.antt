-- Appends, by the definitions.
use Rattle.std.proofs.Common.{◌≡◌, ℕ, ◌+◌, ◌*◌, ◌<◌, ◌≤◌, Bool, true, false, cond, List, [], ◌∷◌, ◌++◌, length, take}
use Rattle.std.proofs.Common.{Option, Some, Result, Ok, Err, nat_le, refl, sym, ap, ◌∙◌, subst, append-nil, arith}
use Rattle.std.proofs.lemmas.Bool.{le-leb, leb-true, false_from_ne_true}
use Rattle.std.proofs.lemmas.List.{map-append, take_at, length-append}
use Rattle.std.specs.Option.{option_map}
use Rattle.std.specs.Result.{IfOk, IfErr, OnErr}
use Rattle.std.specs.Ordering.{nat_cmp, eq_by_cmp}
use Rattle.std.specs.Cmp.Lexicographic.{slice_cmp, nat_list_cmp_total, nat_list_eq_equiv, texts_ties, bytes_decides}
use Rattle.std.specs.FinMap as finite
use Rattle.pin_core.specs.declared.sizes.Sizes.{Sizes}
use Rattle.pin_core.specs.declared.class.Class.{Class}
use Rattle.pinned_pool.specs.Addresses.{address_of}
use Rattle.pinned_pool.specs.Moves.{without_keys}
use Rattle.pinned_pool.specs.Named.{IsSeat}
use Rattle.pinned_pool.specs.declared.view.View.{View}
use Rattle.pinned_pool.proofs.SoughtLaws.{sought_within}
use Rattle.flake_base.specs.declared.segment.Seg.{Seg}
use Rattle.flake_model.specs.Store.{Store, Keyed, append, Change, keeps, puts, length_is, too_long, answer}
use Rattle.flake_base.specs.Limits.{value_limit}
use Rattle.flake_model.specs.Store.{change_by, changed, bytes_of}
use Rattle.flake_model.specs.Deed.{Places, places_at, places_with, kept_fragments, AreStored}
use Rattle.flake_model.specs.Fragments.{fragments_of, full_fragments}
use Rattle.frag_value.specs.Fragments.{stored_fragments, fragments_in}
use Rattle.frag_value.specs.Values.{IsValue, IsCut, keys_of, value_bytes, size_of, whole_fragments, partial_of}
use Rattle.frag_value.specs.Changes.{WhyUnplaced, found_none, without_buffer}
use Rattle.frag_value.specs.Taken.{TakenPiece}
use Rattle.frag_value.specs.declared.error.AppendError.{AppendError}
use Rattle.frag_value.specs.declared.error.AppendError.TheVariants as unadded
use Rattle.frag_value.specs.declared.error.PlaceError.{PlaceError}
use Rattle.frag_value.specs.declared.error.PlaceError.TheVariants as unplaced
use Rattle.frag_value.proofs.Cuts.{AreFull, parts, full-are, length-bytes-value}
use Rattle.shard_core.specs.Keys.{same_bytes}
use Rattle.shard_core.specs.Kept.{Entries, value_at, frags_of, AreHeld, IsKept, Agrees, value_addresses, segs_of}
use Rattle.frag_value.specs.Values.{Frags}
use Rattle.shard_core.specs.Answers.{answer_shown, outcome_of}
use Rattle.shard_core.specs.Demand.{part_row}
use Rattle.shard_core.specs.Moved.{IsCarried, IsLonger}
use Rattle.shard_core.specs.Paid.{IsPaid, WhyPartRefused, WhyUnadded}
use Rattle.shard_core.specs.Pieces.{segs_at, size_stored, answer_pieces}
use Rattle.shard_core.specs.Done.{IsDone}
use Rattle.shard_core.specs.ShardMaps.{ShardState}
use Rattle.shard_core.specs.declared.answer.PartAnswer.{PartAnswer}
use Rattle.shard_core.specs.declared.answer.PartAnswer.TheVariants as say
use Rattle.shard_core.proofs.Changed.{Put}
use Rattle.shard_core.proofs.Holds.{gone_held, gone_agrees, gained_held, gained_agrees, put_held, put_agrees, places_of}
use Rattle.shard_core.proofs.Holds.{has_found}
use Rattle.shard_core.proofs.Deeds.{same_done}
use Rattle.shard_core.proofs.Runs.{segs-cut, count-addresses}
use Rattle.shard_core.proofs.Extended.{demand-row}

-- the row of the demand
row : (class : Class) (key bytes : List ℕ) → fragments_in class (stored_fragments bytes) ≤ part_row class
    (append key bytes)
row class key [] = omega arith
row class key (b ∷ bytes) = demand-row class key [] (b ∷ bytes) (omega arith) (omega arith)

pub paid_row : (z : Sizes) (key bytes : List ℕ) (n : ℕ) (v w : View)
    → IsPaid z (λ class. fragments_in class (stored_fragments bytes)) n v w
    → IsPaid z (λ class. part_row class (append key bytes)) n v w
paid_row z key bytes n v w c = record {
  holds = c.holds;
  credits = c.credits;
  returns = c.returns;
  claims = c.claims;
  looks = c.looks;
  sought = sought_within z (λ class. fragments_in class (stored_fragments bytes))
      (λ class. part_row class (append key bytes)) n v w c.sought (λ class. row class key bytes);
}

pub none_row : (z : Sizes) (key bytes : List ℕ) (e : PlaceError) (v w : View)
    → WhyUnplaced z (stored_fragments bytes) e v w → WhyPartRefused z (append key bytes) e v w
none_row z key bytes (unplaced.NoBuffer none) v w n =
    record { looked = n.looked; found = n.found; fewer = omega (arith, n.fewer, row none.class key bytes) }
none_row z key bytes unplaced.Memory v w n = tt

-- an append that was refused, as its part
pub why_refused : (z : Sizes) (v : Frags) (key bytes : List ℕ) (e : AppendError) (r : Result PartAnswer PlaceError)
    (old new : View) → r ≡ outcome_of e → WhyUnadded z v bytes e old new
    → IfErr r (λ x. WhyPartRefused z (append key bytes) x old new)
why_refused z v key bytes e r old new is why = subst (λ x. IfErr x (λ y. WhyPartRefused z (append key bytes) y old new))
    (sym is) (by e why)
  where
    by : (e : AppendError) → WhyUnadded z v bytes e old new
        → IfErr (outcome_of e) (λ x. WhyPartRefused z (append key bytes) x old new)
    by (unadded.TooLong n) why = tt
    by (unadded.NoBuffer none) why = record { looked = why.1.looked; found = why.1.found; fewer = why.1.fewer }
    by unadded.Memory why = tt

pub on_err : {A E : Type 0} (r : Result A E) (P : Type 0) → P → OnErr r P
on_err (Ok a) P p = tt
on_err (Err e) P p = p

-- an append keeps the full fragments, and all of them where it has no bytes
kept_as : (key old bytes stored were : List ℕ) → (bytes ≡ [] → stored ≡ were)
    → take (full_fragments old) stored ≡ take (full_fragments old) were
    → (let k : ℕ = kept_fragments old (append key bytes) in take k stored ≡ take k were)
kept_as key old [] stored were same full = ap (take (length (fragments_of old))) (same refl)
kept_as key old (byte ∷ bytes) stored were same full = full

-- of a missing key it keeps none
pub none_kept : (key bytes stored were : List ℕ)
    → (let k : ℕ = kept_fragments [] (append key bytes) in take k stored ≡ take k were)
none_kept key [] stored were = refl
none_kept key (byte ∷ bytes) stored were = refl

-- how many requests of an append that was refused found none
pub none_told : (e : AppendError) → without_buffer e ≡ found_none (outcome_of e)
none_told (unadded.TooLong n) = refl
none_told (unadded.NoBuffer none) = refl
none_told unadded.Memory = refl

module _ (z : Sizes) (key bytes : List ℕ) (s : Store) (p : Places) (before after : ShardState)
    (untaken : after.taken ≡ before.taken) (o : Option (List ℕ)) (there : finite.get s key ≡ o) where
  -- an append that is done
  pub add_done : (n : ℕ) (v : Frags) → n ≡ length (bytes_of o ++ bytes) → length (bytes_of o ++ bytes) ≤ value_limit
      → IsCut (length (bytes_of o ++ bytes)) v
      → take (kept_fragments (bytes_of o) (append key bytes)) (value_addresses z v)
      ≡ take (kept_fragments (bytes_of o) (append key bytes)) (places_at p key)
      → after.stored ≡ before.stored ++ segs_of z v
      → Agrees z after.shard.entries after.shard.seat.holds (finite.insert s key (bytes_of o ++ bytes))
      (finite.insert p key (value_addresses z v))
      → IsDone z (append key bytes) s p (say.Length n) before after
  add_done n v size fits cut kept segs agrees =
      let whole : List ℕ = bytes_of o ++ bytes in
      let stored : List ℕ = value_addresses z v in
      let yes : nat_le (length (bytes_of (finite.get s key) ++ bytes)) value_limit ≡ true =
      ap (λ q. nat_le (length (bytes_of q ++ bytes)) value_limit) there ∙ le-leb (length whole) value_limit fits in
      let answer_is : answer s (append key bytes) ≡ length_is (length whole) =
      ap (λ b. cond b (length_is (length (bytes_of (finite.get s key) ++ bytes))) too_long) yes
      ∙ ap (λ q. length_is (length (bytes_of q ++ bytes))) there in
      let change_is : change_by s (append key bytes) ≡ puts whole =
      ap (λ b. cond b (puts (bytes_of (finite.get s key) ++ bytes)) keeps) yes
      ∙ ap (λ q. puts (bytes_of q ++ bytes)) there in
      record {
        stored = stored;
        says = ap (λ (m : ℕ). say.Length m) size ∙ ap answer_shown (sym answer_is);
        agrees = subst (λ what. Agrees z after.shard.entries after.shard.seat.holds (changed s key what)
            (places_with p key what stored)) (sym change_is) agrees;
        stored_is = subst (λ (y : Option (List ℕ) × Change). AreStored y.1
            (kept_fragments (bytes_of y.0) (append key bytes)) (places_at p key) stored)
            (λ i. (sym there i, sym change_is i)) (count-addresses z whole v cut, kept);
        segs_are = segs ∙ ap (λ l. before.stored ++ l)
            (segs-cut z (length whole) v cut ∙ ap (λ a. segs_at stored (size_stored (append key bytes) a))
            (sym answer_is));
        pieces = untaken ∙ sym (append-nil before.taken)
            ∙ ap (λ a. before.taken ++ answer_pieces (append key bytes) a (places_at p key) 0) (sym answer_is);
      }

  -- and one that would be too long
  pub add_refused : value_limit < length (bytes_of o ++ bytes) → after.stored ≡ before.stored
      → Agrees z after.shard.entries after.shard.seat.holds s p
      → IsDone z (append key bytes) s p say.TooLong before after
  add_refused long segs agrees =
      let no : nat_le (length (bytes_of (finite.get s key) ++ bytes)) value_limit ≡ false =
      ap (λ q. nat_le (length (bytes_of q ++ bytes)) value_limit) there
      ∙ false_from_ne_true _
      (λ e. absurd (omega (arith, long, leb-true (length (bytes_of o ++ bytes)) value_limit e))) in
      same_done z (append key bytes) s p say.TooLong before after too_long
      (ap (λ b. cond b (puts (bytes_of (finite.get s key) ++ bytes)) keeps) no)
      (ap (λ b. cond b (length_is (length (bytes_of (finite.get s key) ++ bytes))) too_long) no) refl agrees segs
      (untaken ∙ sym (append-nil before.taken))

-- maps that change at one key twice
tied : (bs cs : List ℕ) → eq_by_cmp (slice_cmp nat_cmp) cs bs ≡ same_bytes bs cs
tied bs cs = sym (texts_ties cs bs) ∙ nat_list_eq_equiv.symm cs bs

module _ {X : Type 0} (m : Keyed X) (key : List ℕ) (x : X) where
  one_map : (n o : Keyed X) → ((q : List ℕ) → finite.get n q ≡ finite.get o q) → n ≡ o
  one_map = finite.same_map nat_list_cmp_total (finite.slice_cmp-IsAntisymmetric finite.nat_cmp-IsAntisymmetric)

  twice : (t : Bool) (u v w : Option X) → cond t v (cond t u w) ≡ cond t v w
  twice true u v w = refl
  twice false u v w = refl

  insert-insert : (y : X) → finite.insert (finite.insert m key y) key x ≡ finite.insert m key x
  insert-insert y = one_map _ _ (λ q.
      finite.get-insert nat_list_cmp_total (finite.insert m key y) key x q
      ∙ ap (λ r. cond (eq_by_cmp (slice_cmp nat_cmp) q key) (Some x) r)
      (finite.get-insert nat_list_cmp_total m key y q)
      ∙ twice (eq_by_cmp (slice_cmp nat_cmp) q key) (Some y) (Some x) (finite.get m q)
      ∙ sym (finite.get-insert nat_list_cmp_total m key x q))

  insert-same : finite.get m key ≡ Some x → finite.insert m key x ≡ m
  insert-same has_it = one_map _ _
      (λ q. finite.get-insert nat_list_cmp_total m key x q ∙ here q (eq_by_cmp (slice_cmp nat_cmp) q key) refl)
    where
      here : (q : List ℕ) (t : Bool) → eq_by_cmp (slice_cmp nat_cmp) q key ≡ t → cond t (Some x) (finite.get m q)
          ≡ finite.get m q
      here q true e = let same : key ≡ q = (bytes_decides key q).0 (sym (tied key q) ∙ e) in sym has_it
          ∙ ap (finite.get m) same
      here q false e = refl

-- A value that was taken out of the map, where an empty one had its place, and came back, perhaps longer.
module _ (z : Sizes) (key : List ℕ) (es es1 now : Entries) (own new : View) (v w : Frags) (kept : IsKept z es own)
    (seat : IsSeat z own) (there : value_at key es ≡ Some v)
    (out : Put es es1 key []) (carried : IsCarried z v w own new) (back : Put es1 now key w) where
  none_value : IsValue z []
  none_value = record { cut = refl; limit = omega arith; placed = tt }

  out_held : AreHeld z es1 v own.holds
  out_held = subst (λ o. AreHeld z es1 (frags_of o) own.holds) there
      (put_held z es es1 key [] own.holds none_value out kept.held)

  mid_held : AreHeld z es1 [] (without_keys (keys_of v) own.holds)
  mid_held = gone_held z es1 own.holds (without_keys (keys_of v) own.holds) v seat.fronts.0 seat.fronts.1 refl out_held

  empty_there : value_at key es1 ≡ Some []
  empty_there = out.changed key ∙ ap (λ t. cond t (Some []) (value_at key es)) ((bytes_decides key key).1 refl)

  pub restored_kept : IsKept z now new
  restored_kept = record {
    poor = carried.poor kept.poor;
    held = subst (λ o. AreHeld z now (frags_of o) new.holds) empty_there
        (put_held z es1 now key w new.holds carried.value back
        (gained_held z es1 (without_keys (keys_of v) own.holds) new.holds carried.more w carried.gained
        carried.keys_are mid_held carried.filled));
  }

  pub restored_agrees : (whole : List ℕ) → value_bytes new.holds w ≡ whole → (s : Store) (p : Places)
      → Agrees z es own.holds s p → Agrees z now new.holds (finite.insert s key whole)
      (finite.insert p key (value_addresses z w))
  restored_agrees whole is s p a =
      let s1 : Store = finite.insert s key [] in
      let p1 : Places = finite.insert p key [] in
      let away = put_agrees z es es1 key [] own.holds [] refl out.changed s p a in
      let gone = gone_agrees z es1 own.holds (without_keys (keys_of v) own.holds) v seat.fronts.0 seat.fronts.1 refl
      out_held s1 p1 away in
      let came = gained_agrees z es1 (without_keys (keys_of v) own.holds) new.holds carried.more w carried.gained
      carried.keys_are mid_held s1 p1 gone in
      let all = put_agrees z es1 now key w new.holds whole is back.changed s1 p1 came in
      subst (λ (y : Store × Places). Agrees z now new.holds y.0 y.1)
      (λ i. (insert-insert s key whole [] i, insert-insert p key (value_addresses z w) [] i)) all

  pub restored_same : w ≡ v → value_bytes new.holds v ≡ value_bytes own.holds v → (s : Store) (p : Places)
      → Agrees z es own.holds s p → Agrees z now new.holds s p
  restored_same same text s p a =
      let bytes : finite.get s key ≡ Some (value_bytes own.holds v) = sym (a.bytes key)
      ∙ ap (option_map (value_bytes own.holds)) there in
      let at : finite.get p key ≡ Some (value_addresses z w) = sym (a.places_are key)
      ∙ ap (option_map (value_addresses z)) there ∙ ap (λ x. Some (value_addresses z x)) (sym same) in
      subst (λ (y : Store × Places). Agrees z now new.holds y.0 y.1)
      (λ i. (insert-same s key (value_bytes own.holds v) bytes i, insert-same p key (value_addresses z w) at i))
      (restored_agrees (value_bytes own.holds v) (ap (value_bytes new.holds) same ∙ text) s p a)

  old_bytes : (s : Store) (p : Places) → Agrees z es own.holds s p → finite.get s key ≡ Some (value_bytes own.holds v)
  old_bytes s p a = sym (a.bytes key) ∙ ap (option_map (value_bytes own.holds)) there

  old_size : length (value_bytes own.holds v) ≡ size_of v
  old_size = length-bytes-value own.holds v (has_found z es [] own.holds kept.held key v there).filled

  -- what stands before and after, with these segments and pieces
  abbrev pub before_it : View → List Seg → List TakenPiece → ShardState
  before_it payer segs t = record {
    shard = record { entries = es; seat = own };
    payer = payer;
    stored = segs;
    taken = t;
  }

  abbrev pub behind_it : View → List Seg → List TakenPiece → ShardState
  behind_it payer segs t = record {
    shard = record { entries = now; seat = new };
    payer = payer;
    stored = segs;
    taken = t;
  }

  pub more_refused : (payer after : View) (bytes : List ℕ) (segs0 segs1 : List Seg) → w ≡ v → value_bytes new.holds v
      ≡ value_bytes own.holds v → 65536 < size_of v + length bytes → segs1 ≡ segs0
      → (s : Store) (p : Places) (t : List TakenPiece) → Agrees z es own.holds s p
      → IsDone z (append key bytes) s p say.TooLong (before_it payer segs0 t) (behind_it after segs1 t)
  more_refused payer after bytes segs0 segs1 same text long segs s p t a =
      add_refused z key bytes s p (before_it payer segs0 t) (behind_it after segs1 t) refl
      (Some (value_bytes own.holds v)) (old_bytes s p a)
      (omega (arith, long, old_size, length-append (value_bytes own.holds v) bytes)) segs
      (restored_same same text s p a)

  pub more_back : (payer after : View) (bytes : List ℕ) (segs : List Seg) (e : AppendError)
      (r : Result PartAnswer PlaceError) → r ≡ outcome_of e → WhyUnadded z v bytes e payer after → w ≡ v
      → value_bytes new.holds v ≡ value_bytes own.holds v → (s : Store) (p : Places) (t : List TakenPiece)
      → Agrees z es own.holds s p
      → IfOk r (λ said. IsDone z (append key bytes) s p said (before_it payer segs t) (behind_it after segs t))
  more_back payer after bytes segs e r is why same text s p t a =
      subst (λ x. IfOk x
      (λ said. IsDone z (append key bytes) s p said (before_it payer segs t) (behind_it after segs t)))
      (sym is) (by e why)
    where
      by : (e : AppendError) → WhyUnadded z v bytes e payer after
          → IfOk (outcome_of e)
          (λ said. IsDone z (append key bytes) s p said (before_it payer segs t) (behind_it after segs t))
      by (unadded.TooLong n) why = more_refused payer after bytes segs segs same text why.0 refl s p t a
      by (unadded.NoBuffer none) why = tt
      by unadded.Memory why = tt

  size-full : (x : Frags) → AreFull x → size_of x ≡ 4096 * length x
  size-full [] f = refl
  size-full (q ∷ x) f = omega (arith, f.0, size-full x f.1)

  length-map : (x : Frags) → length (value_addresses z x) ≡ length x
  length-map [] = refl
  length-map (q ∷ x) = omega (arith, length-map x)

  take_front : (n : ℕ) (x y u : Frags) → u ≡ x ++ y → n ≡ length x → take n (value_addresses z u) ≡ value_addresses z x
  take_front n x y u is size =
      ap (λ l. take n (value_addresses z l)) is ∙ ap (take n) (map-append (λ (q : ℕ × ℕ). address_of z q.0) x y)
      ∙ take_at (value_addresses z x) (value_addresses z y) n (length-map x ∙ sym size)

  pub more_done : (payer after : View) (bytes : List ℕ) (segs0 segs1 : List Seg) (n : ℕ) → IsValue z v
      → IsLonger v w bytes own.holds new.holds → n ≡ size_of w → segs1 ≡ segs0 ++ segs_of z w
      → (s : Store) (p : Places) (t : List TakenPiece) → Agrees z es own.holds s p
      → IsDone z (append key bytes) s p (say.Length n) (before_it payer segs0 t) (behind_it after segs1 t)
  more_done payer after bytes segs0 segs1 n value longer size segs s p t a =
      let old : List ℕ = value_bytes own.holds v in
      let whole : List ℕ = old ++ bytes in
      let long : size_of w ≡ length whole = sym (length-bytes-value new.holds w carried.filled)
      ∙ ap length longer.bytes_are in
      let ps = parts (size_of v) v value.cut in
      let count : full_fragments old ≡ length (whole_fragments v) =
      omega (arith, old_size, ps.size, size-full (whole_fragments v) (full-are v)) in
      let places : places_at p key ≡ value_addresses z v = places_of z es own.holds s p key a
      ∙ ap (λ o. value_addresses z (frags_of o)) there in
      add_done z key bytes s p (before_it payer segs0 t) (behind_it after segs1 t) refl (Some old) (old_bytes s p a)
      n w (size ∙ long)
      (omega (arith, longer.few, old_size, length-append old bytes)) (subst (λ m. IsCut m w) long carried.value.cut)
      (kept_as key old bytes (value_addresses z w) (places_at p key)
      (λ none. ap (value_addresses z) (longer.same none) ∙ sym places)
      (take_front (full_fragments old) (whole_fragments v) longer.added w longer.parts count
      ∙ sym (ap (take (full_fragments old)) places ∙ take_front (full_fragments old) (whole_fragments v)
      (partial_of v) v ps.whole count))) segs
      (restored_agrees whole longer.bytes_are s p a)
