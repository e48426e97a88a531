-- What a shard holds, as values come and go.
use Rattle.std.proofs.Common.{◌≡◌, ◌≢◌, ℕ, zero, suc, ◌+◌, ◌*◌, ◌<◌, ◌≤◌, Bool, true, false, cond, ltb, List, [], ◌∷◌}
use Rattle.std.proofs.Common.{◌++◌, map, Option, None, Some, refl, sym, ap, ◌∙◌, subst, unwrap_or, arith}
use mathlib.Core.Logic.{dite}
use native.Mathlib.Decide.{ℕ_discrete}
use Rattle.std.specs.Global.{Vec}
use Rattle.std.specs.List.{slice_get}
use Rattle.std.specs.Option.{option_map}
use Rattle.std.specs.Ordering.{nat_cmp, eq_by_cmp}
use Rattle.std.specs.Cmp.Lexicographic.{slice_cmp, nat_list_cmp_total, nat_list_eq_equiv, texts_ties, bytes_decides}
use Rattle.std.specs.FinMap as finite
use Rattle.view_sums.specs.Total.{total, same, Each}
use Rattle.view_sums.proofs.Eachs.{each-imp}
use Rattle.view_sums.proofs.Sums.{total-append, total-map}
use Rattle.pin_core.specs.Buffers.{buffers, buffer_words}
use Rattle.pin_core.specs.Holding.{Holding, Key, at, loose_at}
use Rattle.pin_core.specs.declared.sizes.Sizes.{Sizes}
use Rattle.pinned_pool.specs.Addresses.{address_of}
use Rattle.pinned_pool.specs.Moves.{meant_count, times_asked, same_key, hold_key, holds_for, without_keys, front_of}
use Rattle.pinned_pool.specs.Moves.{HasHolds, loose_key}
use Rattle.pinned_pool.specs.declared.view.View.{View}
use Rattle.pinned_pool.proofs.Keys.{some-at, total-left_by, taken_by-keys}
use Rattle.pinned_pool.proofs.AfterSteps.{times-left_by, times-loose, front-append, front-left_by}
use Rattle.pinned_pool.proofs.Covering.{one_byte_each}
use Rattle.flake_model.specs.Store.{Store, Keyed}
use Rattle.flake_model.specs.Deed.{Places, places_at, AreApart}
use Rattle.frag_value.specs.Values.{IsValue, IsPlaced, IsFilled, keys_of, uses, value_bytes, HasValue, unmarked}
use Rattle.frag_value.specs.Values.{unmarked_view}
use Rattle.frag_value.proofs.Released.{asked-loose, has_keys}
use Rattle.frag_value.proofs.Sames.{same-yes}
use Rattle.frag_value.proofs.Framed.{each_there}
use Rattle.frag_value.proofs.Unmarked.{same_front}
use Rattle.shard_core.specs.Kept.{Entries, value_at, frags_of, entries_weight, AreHeld, IsPoor, Agrees}
use Rattle.frag_value.specs.Values.{Frags}
use Rattle.shard_core.specs.Kept.{value_addresses}
use Rattle.shard_core.specs.Keys.{same_bytes, is_key}
use Rattle.shard_core.proofs.Entries.{weigh, found-le, two-le, every-found, map-found}
use Rattle.shard_core.proofs.Changed.{Put, Cut}

abbrev pub asks : Key → Frags → ℕ
asks k v = times_asked k (keys_of v)

-- how often the values' fragments ask for a key
abbrev pub wanted : Key → Entries → ℕ
wanted k entries = entries_weight (λ j. cond (same_key k j) 1 0) entries

abbrev pub loads : (Key → ℕ) → Frags → ℕ
loads weight v = total weight (keys_of v)

weigh-frags : (weight : Key → ℕ) (o : Option Frags) → weigh (loads weight) o ≡ loads weight (frags_of o)
weigh-frags weight None = refl
weigh-frags weight (Some v) = refl

-- by keys
pub counted : (z : Sizes) (es : Entries) (hand : Frags) (hs : List Holding) → AreHeld z es hand hs → (k : Key)
    → meant_count k hs ≡ wanted k es + asks k hand
counted z es hand hs a k = a.exact (λ j. cond (same_key k j) 1 0)

pub keys-times : (hs : List Holding) (ks : List Key) → map hold_key hs ≡ ks → (k : Key) → meant_count k hs
    ≡ times_asked k ks
keys-times hs ks e k = sym (total-map (λ j. cond (same_key k j) 1 0) hold_key hs) ∙ ap (times_asked k) e

none_or : (P : ℕ × ℕ → Type 0) (o : Option Frags) → ((v : Frags) → o ≡ Some v → Each P v) → Each P (frags_of o)
none_or P None all = tt
none_or P (Some v) all = all v refl

-- the holds of values are there
module _ (z : Sizes) (es : Entries) (hand : Frags) (hs : List Holding) (a : AreHeld z es hand hs) where
  pub has_hand : HasValue hs hand
  has_hand = record {
    held = λ b. omega (arith, counted z es hand hs a (loose_key b), asked-loose b hand);
    filled = a.in_hand;
  }

  pub hand_keys : HasHolds (keys_of hand) hs
  hand_keys = has_keys hand hs has_hand.held

  pub has_found : (key : List ℕ) (v : Frags) → value_at key es ≡ Some v → HasValue hs v
  has_found key v found = record {
    held = λ b. omega (
      arith,
      asked-loose b v,
      found-le (asks (loose_key b)) (is_key key) es v found,
      counted z es hand
          hs a (loose_key b),
    );
    filled = every-found (λ (x : Frags). Each (IsFilled hs) x) (is_key key) es v a.filled found;
  }

-- a value's fragments are filled in other holds, and have the same bytes
abbrev pub IsSame : List Holding → List Holding → Frags → Type 0
IsSame hs now v = Each (IsFilled now) v × (value_bytes now v ≡ value_bytes hs v)

pub same_all : (es : Entries) (hs now : List Holding)
    → ((c : ℕ) → 0 < wanted (loose_key c) es → front_of c now ≡ front_of c hs)
    → Each (λ (e : Vec ℕ × Frags). Each (IsFilled hs) e.1) es
    → Each (λ (e : Vec ℕ × Frags). IsSame hs now e.1) es
same_all [] hs now fronts filled = tt
same_all (e ∷ es) hs now fronts filled = (
  each_there hs now e.1 (λ c some. fronts c (omega (arith, some, asked-loose c e.1))) filled.0,
  same_all es hs now (λ c some. fronts c (omega (arith, some))) filled.1,
)

module _ (z : Sizes) (es : Entries) (hs now : List Holding) (all : Each (λ (e : Vec ℕ × Frags). IsSame hs now e.1) es)
  where
    pub all_filled : Each (λ (e : Vec ℕ × Frags). Each (IsFilled now) e.1) es
    all_filled = each-imp (λ (e : Vec ℕ × Frags). IsSame hs now e.1) (λ (e : Vec ℕ × Frags). Each (IsFilled now) e.1)
        (λ e s. s.0) es all

    pub still_agrees : (s : Store) (p : Places) → Agrees z es hs s p → Agrees z es now s p
    still_agrees s p a = record {
      bytes = λ key. map-found (value_bytes now) (value_bytes hs) _ es
          (each-imp (λ (e : Vec ℕ × Frags). IsSame hs now e.1)
          (λ (e : Vec ℕ × Frags). value_bytes now e.1 ≡ value_bytes hs e.1) (λ e s. s.1) es all) ∙ a.bytes key;
      places_are = a.places_are;
    }

-- more holds, of a value that is in hand from now on
module _ (z : Sizes) (es : Entries) (hs now more : List Holding) (v : Frags) (gained : now ≡ hs ++ more)
    (keys : map hold_key more ≡ keys_of v) (a : AreHeld z es [] hs) where
  pub gained_same : Each (λ (e : Vec ℕ × Frags). IsSame hs now e.1) es
  gained_same = same_all es hs now
      (λ c some. ap (front_of c) gained
      ∙ front-append c hs more (some-at (loose_key c) hs (omega (arith, some, counted z es [] hs a (loose_key c)))))
      a.filled

  pub gained_held : Each (IsFilled now) v → AreHeld z es v now
  gained_held filled = record {
    values = a.values;
    filled = all_filled z es hs now gained_same;
    in_hand = filled;
    exact = λ weight. omega (
      arith,
      ap (total (λ (h : Holding). weight (hold_key h))) gained,
      total-append
          (λ (h : Holding). weight (hold_key h)) hs more,
      total-map weight hold_key more,
      ap (total weight) keys,
      a.exact
          weight,
    );
  }

  pub gained_agrees : (s : Store) (p : Places) → Agrees z es hs s p → Agrees z es now s p
  gained_agrees s p g = still_agrees z es hs now gained_same s p g

-- the holds of the value in hand go
module _ (z : Sizes) (es : Entries) (hs now : List Holding) (v : Frags) (fronts : ℕ → List ℕ)
    (one : Each (λ (h : Holding). h.front ≡ fronts h.buffer) hs) (gone : now ≡ without_keys (keys_of v) hs)
    (a : AreHeld z es v hs) where
  left_over : (k : Key) → meant_count k now ≡ wanted k es
  left_over k = omega (
    arith,
    ap (meant_count k) gone,
    times-left_by k (keys_of v) hs (hand_keys z es v hs a),
    counted z
        es v hs a k,
  )

  gone_same : Each (λ (e : Vec ℕ × Frags). IsSame hs now e.1) es
  gone_same = same_all es hs now
      (λ c some. let there : 0 < total (at c) now = some-at (loose_key c) now
      (omega (arith, some, left_over (loose_key c))) in
      ap (front_of c) gone ∙ front-left_by fronts c (keys_of v) hs one (subst (λ l. 0 < total (at c) l) gone there))
      a.filled

  pub gone_held : AreHeld z es [] now
  gone_held = record {
    values = a.values;
    filled = all_filled z es hs now gone_same;
    in_hand = tt;
    exact = λ weight. omega (
      arith,
      ap (total (λ (h : Holding). weight (hold_key h))) gone,
      total-left_by (λ (h : Holding). weight (hold_key h)) (keys_of v) hs,
      total-map weight hold_key (holds_for (keys_of v) hs),
      ap (total weight) (taken_by-keys (keys_of v) hs (hand_keys z es v hs a)),
      a.exact weight,
    );
  }

  pub gone_agrees : (s : Store) (p : Places) → Agrees z es hs s p → Agrees z es now s p
  gone_agrees s p g = still_agrees z es hs now gone_same s p g

-- holds may become shared
module _ (z : Sizes) (es : Entries) (hand : Frags) (v w : View) (same : unmarked_view w ≡ unmarked_view v)
    (a : AreHeld z es hand v.holds) where
  marked_same : Each (λ (e : Vec ℕ × Frags). IsSame v.holds w.holds e.1) es
  marked_same = same_all es v.holds w.holds (λ c some. same_front c v w same) a.filled

  pub marked_held : AreHeld z es hand w.holds
  marked_held = record {
    values = a.values;
    filled = all_filled z es v.holds w.holds marked_same;
    in_hand = (each_there v.holds w.holds hand (λ c some. same_front c v w same) a.in_hand).0;
    exact = λ weight. omega (
      arith,
      total-map (λ (h : Holding). weight (hold_key h)) unmarked w.holds,
      ap (λ (u : View). total (λ (h : Holding). weight (hold_key h)) u.holds) same,
      total-map (λ (h : Holding). weight (hold_key h)) unmarked v.holds,
      a.exact weight,
    );
  }

  pub marked_agrees : (s : Store) (p : Places) → Agrees z es v.holds s p → Agrees z es w.holds s p
  marked_agrees s p g = still_agrees z es v.holds w.holds marked_same s p g

-- the value in hand goes into the map, and what its key had is in hand then
pub put_held : (z : Sizes) (es now : Entries) (key : List ℕ) (v : Frags) (hs : List Holding) → IsValue z v
    → Put es now key v
    → AreHeld z es v hs → AreHeld z now (frags_of (value_at key es)) hs
put_held z es now key v hs value put a = record {
  values = put.every (IsValue z) value a.values;
  filled = put.every (λ (x : Frags). Each (IsFilled hs) x) a.in_hand a.filled;
  in_hand = none_or (IsFilled hs) (value_at key es)
      (λ x found. every-found (λ (y : Frags). Each (IsFilled hs) y) (is_key key) es x a.filled found);
  exact = λ weight. omega (arith, a.exact weight, put.sums (loads weight), weigh-frags weight (value_at key es));
}

-- the value at a key comes into the hand
pub cut_held : (z : Sizes) (es now : Entries) (key : List ℕ) (hs : List Holding) → Cut es now key
    → AreHeld z es [] hs → AreHeld z now (frags_of (value_at key es)) hs
cut_held z es now key hs cut a = record {
  values = cut.every (IsValue z) a.values;
  filled = cut.every (λ (x : Frags). Each (IsFilled hs) x) a.filled;
  in_hand = none_or (IsFilled hs) (value_at key es)
      (λ x found. every-found (λ (y : Frags). Each (IsFilled hs) y) (is_key key) es x a.filled found);
  exact = λ weight. omega (arith, a.exact weight, cut.sums (loads weight), weigh-frags weight (value_at key es));
}

-- the map and the definitions' map change at one key
tied : (bs cs : List ℕ) → eq_by_cmp (slice_cmp nat_cmp) cs bs ≡ same_bytes bs cs
tied bs cs = sym (texts_ties cs bs) ∙ nat_list_eq_equiv.symm cs bs

map-cond : {X Y : Type 0} (f : X → Y) (t : Bool) (o p : Option X) → option_map f (cond t o p) ≡ cond t (option_map f o)
    (option_map f p)
map-cond f true o p = refl
map-cond f false o p = refl

module _ {X : Type 0} (f : Frags → X) (m : Keyed X) (key : List ℕ) (es now : Entries)
    (was : (c : List ℕ) → option_map f (value_at c es) ≡ finite.get m c) where
  pub agrees-insert : (v : Frags) (x : X) → f v ≡ x
      → ((c : List ℕ) → value_at c now ≡ cond (same_bytes key c) (Some v) (value_at c es)) → (c : List ℕ)
      → option_map f (value_at c now) ≡ finite.get (finite.insert m key x) c
  agrees-insert v x is changed c =
      ap (option_map f) (changed c) ∙ map-cond f (same_bytes key c) (Some v) (value_at c es)
      ∙ (λ i. cond (same_bytes key c) (Some (is i)) (was c i))
      ∙ sym (finite.get-insert nat_list_cmp_total m key x c ∙ ap (λ t. cond t (Some x) (finite.get m c)) (tied key c))

  pub agrees-remove : ((c : List ℕ) → value_at c now ≡ cond (same_bytes key c) None (value_at c es)) → (c : List ℕ)
      → option_map f (value_at c now) ≡ finite.get (finite.remove m key) c
  agrees-remove changed c =
      ap (option_map f) (changed c) ∙ map-cond f (same_bytes key c) None (value_at c es)
      ∙ (λ i. cond (same_bytes key c) None (was c i))
      ∙ sym (finite.get-remove nat_list_cmp_total m key c ∙ ap (λ t. cond t None (finite.get m c)) (tied key c))

pub put_agrees : (z : Sizes) (es now : Entries) (key : List ℕ) (v : Frags) (hs : List Holding) (bytes : List ℕ)
    → value_bytes hs v ≡ bytes → ((c : List ℕ) → value_at c now ≡ cond (same_bytes key c) (Some v) (value_at c es))
    → (s : Store) (p : Places) → Agrees z es hs s p → Agrees z now hs (finite.insert s key bytes)
    (finite.insert p key (value_addresses z v))
put_agrees z es now key v hs bytes is changed s p a = record {
  bytes = agrees-insert (value_bytes hs) s key es now a.bytes v bytes is changed;
  places_are = agrees-insert (value_addresses z) p key es now a.places_are v (value_addresses z v) refl changed;
}

pub cut_agrees : (z : Sizes) (es now : Entries) (key : List ℕ) (hs : List Holding)
    → ((c : List ℕ) → value_at c now ≡ cond (same_bytes key c) None (value_at c es))
    → (s : Store) (p : Places) → Agrees z es hs s p → Agrees z now hs (finite.remove s key) (finite.remove p key)
cut_agrees z es now key hs changed s p a = record {
  bytes = agrees-remove (value_bytes hs) s key es now a.bytes changed;
  places_are = agrees-remove (value_addresses z) p key es now a.places_are changed;
}

-- the places of a key are those of its fragments
places-frags : (z : Sizes) (o : Option Frags) (q : Option (List ℕ)) → option_map (value_addresses z) o ≡ q
    → unwrap_or q [] ≡ value_addresses z (frags_of o)
places-frags z None q e = ap (λ (x : Option (List ℕ)). unwrap_or x []) (sym e)
places-frags z (Some v) q e = ap (λ (x : Option (List ℕ)). unwrap_or x []) (sym e)

pub places_of : (z : Sizes) (es : Entries) (hs : List Holding) (s : Store) (p : Places) (key : List ℕ)
    → Agrees z es hs s p → places_at p key ≡ value_addresses z (frags_of (value_at key es))
places_of z es hs s p key a = places-frags z (value_at key es) (finite.get p key) (a.places_are key)

-- no two fragments have one address
record HasPart (z : Sizes) (v : Frags) (n a : ℕ) : Type 0 where
  pub part : ℕ × ℕ
  pub there : slice_get v n ≡ Some part
  pub address : address_of z part.0 ≡ a

part_at : (z : Sizes) (v : Frags) (n a : ℕ) → slice_get (value_addresses z v) n ≡ Some a → HasPart z v n a
part_at z [] n a e = absurd (cc)
part_at z (q ∷ v) zero a e = record { part = q; there = refl; address = cc }
part_at z (q ∷ v) (suc n) a e = let rest = part_at z v n a e in record {
  part = rest.part;
  there = rest.there;
  address = rest.address;
}

uses-one : (b : ℕ) (v : Frags) (n : ℕ) (q : ℕ × ℕ) → slice_get v n ≡ Some q → q.0 ≡ b → 1 ≤ uses b v
uses-one b [] n q e is = absurd (cc)
uses-one b (r ∷ v) zero q e is = let yes : r ≡ q = cc in
    omega (arith, same-yes r.0 b (ap (λ (x : ℕ × ℕ). x.0) yes ∙ is))
uses-one b (r ∷ v) (suc n) q e is = omega (arith, uses-one b v n q e is)

uses-two : (b : ℕ) (v : Frags) (n m : ℕ) (q r : ℕ × ℕ) → n ≢ m → slice_get v n ≡ Some q → slice_get v m ≡ Some r
    → q.0 ≡ b → r.0 ≡ b → 2 ≤ uses b v
uses-two b [] n m q r ne e f is iz = absurd (cc)
uses-two b (x ∷ v) zero zero q r ne e f is iz = absurd (ne refl)
uses-two b (x ∷ v) zero (suc m) q r ne e f is iz = let yes : x ≡ q = cc in
    omega (arith, same-yes x.0 b (ap (λ (y : ℕ × ℕ). y.0) yes ∙ is), uses-one b v m r f iz)
uses-two b (x ∷ v) (suc n) zero q r ne e f is iz = let yes : x ≡ r = cc in
    omega (arith, same-yes x.0 b (ap (λ (y : ℕ × ℕ). y.0) yes ∙ iz), uses-one b v n q e is)
uses-two b (x ∷ v) (suc n) (suc m) q r ne e f is iz = omega (arith, uses-two b v n m q r (λ d. ne (ap suc d)) e f is iz)

placed_at : (z : Sizes) (v : Frags) (n : ℕ) (q : ℕ × ℕ) → slice_get v n ≡ Some q → Each (IsPlaced z) v → q.0 < buffers z
placed_at z [] n q e all = absurd (cc)
placed_at z (r ∷ v) zero q e all = let yes : r ≡ q = cc in omega (arith, all.0.0, ap (λ (x : ℕ × ℕ). x.0) yes)
placed_at z (r ∷ v) (suc n) q e all = placed_at z v n q e all.1

some-room : (z : Sizes) (b : ℕ) → 0 < 8 * buffer_words z b
some-room z b = bits (ltb b z.small)
  where
    bits : (t : Bool) → 0 < 8 * cond t 64 512
    bits true = omega arith
    bits false = omega arith

one_buffer : (z : Sizes) (b c : ℕ) → b < buffers z → c < buffers z → address_of z b ≡ address_of z c → b ≡ c
one_buffer z b c near there e =
    let first : address_of z b ≡ address_of z b + 0 = omega arith in
    let second : address_of z b ≡ address_of z c + 0 = omega (arith, e) in
    sym ((one_byte_each z b c 0 0 (address_of z b) (near, some-room z b, first) (there, some-room z c, second)).0)

module _ (z : Sizes) (es : Entries) (hs : List Holding) (a : AreHeld z es [] hs)
    (loose : (b : ℕ) → total (loose_at b) hs ≤ 1) where
  once : (b : ℕ) → wanted (loose_key b) es ≤ 1
  once b = omega (arith, counted z es [] hs a (loose_key b), times-loose b hs, loose b)

  value_in : (key : List ℕ) (n x : ℕ) → slice_get (value_addresses z (frags_of (value_at key es))) n ≡ Some x
      → (v : Frags) × (value_at key es ≡ Some v) × (HasPart z v n x)
  value_in key n x e = cases (value_at key es) refl e
    where
      cases : (o : Option Frags) → value_at key es ≡ o → slice_get (value_addresses z (frags_of o)) n ≡ Some x
          → (v : Frags) × (value_at key es ≡ Some v) × (HasPart z v n x)
      cases None is there = absurd (cc)
      cases (Some v) is there = (v, is, part_at z v n x there)

  near_part : (key : List ℕ) (v : Frags) (n : ℕ) (q : ℕ × ℕ) → value_at key es ≡ Some v → slice_get v n ≡ Some q
      → q.0 < buffers z
  near_part key v n q found there = placed_at z v n q there
      (every-found (IsValue z) (is_key key) es v a.values found).placed

  pub are_apart : (s : Store) (p : Places) → Agrees z es hs s p → AreApart p
  are_apart s p g key other n m x here there =
      let first = value_in key n x (subst (λ l. slice_get l n ≡ Some x) (places_of z es hs s p key g) here) in
      let second = value_in other m x (subst (λ l. slice_get l m ≡ Some x) (places_of z es hs s p other g) there) in
      let same_buffer : first.2.part.0 ≡ second.2.part.0 =
      one_buffer z _ _ (near_part key first.0 n first.2.part first.1 first.2.there)
      (near_part other second.0 m second.2.part second.1 second.2.there) (first.2.address ∙ sym second.2.address) in
      let b : ℕ = second.2.part.0 in
      choose first second same_buffer (same_bytes key other) refl
    where
      choose : (first : (v : Frags) × (value_at key es ≡ Some v) × (HasPart z v n x))
          (second : (v : Frags) × (value_at other es ≡ Some v) × (HasPart z v m x)) → first.2.part.0 ≡ second.2.part.0
          → (t : Bool) → same_bytes key other ≡ t → (key ≡ other) × (n ≡ m)
      choose first second same_buffer true e =
          let one_key : key ≡ other = (bytes_decides key other).0 e in
          let both : Some first.0 ≡ Some second.0 = sym first.1 ∙ ap (λ k. value_at k es) one_key ∙ second.1 in
          let one_value : first.0 ≡ second.0 = cc in (
            one_key,
            dite (ℕ_discrete n m) (λ d. d) (λ ne. absurd (omega (
              arith,
              uses-two second.2.part.0 second.0 n m first.2.part second.2.part ne
                  (subst (λ v. slice_get v n ≡ Some first.2.part) one_value first.2.there) second.2.there same_buffer
                  refl,
              asked-loose second.2.part.0 second.0,
              found-le (asks (loose_key second.2.part.0)) (is_key other) es second.0 second.1,
              once second.2.part.0,
            ))),
          )
      choose first second same_buffer false e =
          let b : ℕ = second.2.part.0 in
          absurd (omega (
            arith,
            uses-one b first.0 n first.2.part first.2.there same_buffer,
            uses-one b second.0 m second.2.part second.2.there refl,
            asked-loose b first.0,
            asked-loose b second.0,
            two-le (asks (loose_key b)) (is_key key) (is_key other)
                (λ k y w. let one : key ≡ k.items = (bytes_decides key k.items).0 y in let two : other ≡ k.items =
                (bytes_decides other k.items).0 w in let yes : same_bytes key other ≡ true =
                (bytes_decides key other).1 (one ∙ sym two) in let no = sym yes ∙ e in absurd (cc))
                es first.0 second.0 first.1 second.1,
            once b,
          ))

pub poor-marked : (v w : View) → unmarked_view w ≡ unmarked_view v → IsPoor v → IsPoor w
poor-marked v w same p = record {
  credits = ap (λ (x : View). x.credits) same ∙ p.credits;
  claims = ap (λ (x : View). x.claims) same ∙ p.claims;
  looks = ap (λ (x : View). x.looks) same ∙ p.looks;
}
