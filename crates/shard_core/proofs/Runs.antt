-- A value's fragments as a taker and a list of segments have them.
use Rattle.std.proofs.Common.{◌≡◌, ℕ, ℤ, zero, suc, ◌+◌, ◌-◌, ◌/◌, ◌%◌, ◌<◌, ◌≤◌, ◌⊎◌, inl, inr, ⊎_elim, min, Bool}
use Rattle.std.proofs.Common.{true, false, List, [], ◌∷◌, ◌++◌, map, length, take, drop, refl, sym, ap, ◌∙◌, append-nil}
use Rattle.std.proofs.Common.{arith}
use Rattle.std.proofs.lemmas.List.{length-append, length-drop, length-take}
use Rattle.view_sums.specs.Total.{Each}
use Rattle.pin_core.specs.Holding.{Holding}
use Rattle.pin_core.specs.declared.sizes.Sizes.{Sizes}
use Rattle.pinned_pool.specs.Addresses.{address_of}
use Rattle.pinned_pool.specs.Bytes.{bytes_of_words}
use Rattle.pinned_pool.specs.Moves.{front_of}
use Rattle.flake_model.specs.Store.{value}
use Rattle.flake_model.specs.Fragments as model
use Rattle.flake_model.specs.Range.{first_place, end_place, range_of}
use Rattle.flake_model.proofs.Fragments.{many_fragments}
use Rattle.frag_value.specs.Values.{IsValue, IsCut, IsFilled, size_of, frag_bytes, value_bytes}
use Rattle.frag_value.specs.Taken.{PlacedRun, begun_with, entire, ranged, whole, placed_run, placed_part, placed_all}
use Rattle.frag_value.specs.Taken.{placed_range, over_all}
use Rattle.frag_value.proofs.Cuts.{length-bytes-value, cut-count, size-cut}
use Rattle.frag_value.proofs.Hands.{length-frag}
use Rattle.frag_value.proofs.Ranges.{some-run}
use Rattle.shard_core.specs.Kept.{value_addresses, segs_of}
use Rattle.frag_value.specs.Values.{Frags}
use Rattle.shard_core.specs.Pieces.{runs_over, runs_at, pieces_at, segs_at}

-- lists in front of one another
take-front : (n : ℕ) (xs ys : List ℕ) → n ≤ length xs → take n (xs ++ ys) ≡ take n xs
take-front zero xs ys few = refl
take-front (suc n) [] ys few = absurd (omega (arith, few))
take-front (suc n) (x ∷ xs) ys few = ap (λ l. x ∷ l) (take-front n xs ys (omega (arith, few)))

take-whole : (n : ℕ) (xs : List ℕ) → length xs ≤ n → take n xs ≡ xs
take-whole zero [] few = refl
take-whole zero (x ∷ xs) few = absurd (omega (arith, few))
take-whole (suc n) [] few = refl
take-whole (suc n) (x ∷ xs) few = ap (λ l. x ∷ l) (take-whole n xs (omega (arith, few)))

drop-whole : (n : ℕ) (xs : List ℕ) → length xs ≤ n → drop n xs ≡ []
drop-whole zero [] few = refl
drop-whole zero (x ∷ xs) few = absurd (omega (arith, few))
drop-whole (suc n) [] few = refl
drop-whole (suc n) (x ∷ xs) few = drop-whole n xs (omega (arith, few))

drop-front : (n : ℕ) (xs ys : List ℕ) → n ≤ length xs → drop n (xs ++ ys) ≡ drop n xs ++ ys
drop-front zero xs ys few = refl
drop-front (suc n) [] ys few = absurd (omega (arith, few))
drop-front (suc n) (x ∷ xs) ys few = drop-front n xs ys (omega (arith, few))

drop-past : (n m : ℕ) (xs ys : List ℕ) → n ≡ length xs + m → drop n (xs ++ ys) ≡ drop m ys
drop-past n m [] ys e = ap (λ k. drop k ys) (let same : n ≡ m = omega (arith, e) in same)
drop-past zero m (x ∷ xs) ys e = absurd (omega (arith, e))
drop-past (suc n) m (x ∷ xs) ys e = drop-past n m xs ys (omega (arith, e))

drop-none : {A : Type 0} (n : ℕ) → drop n (let none : List A = [] in none) ≡ []
drop-none zero = refl
drop-none (suc n) = refl

take-none : (k : ℕ) → take k (let none : List ℕ = [] in none) ≡ []
take-none zero = refl
take-none (suc k) = refl

take-twice : (m n k : ℕ) (xs : List ℕ) → k ≡ min m n → take m (take n xs) ≡ take k xs
take-twice zero n k xs e = ap (λ j. take j xs) (let same : 0 ≡ k = omega (arith, e) in same)
take-twice (suc m) zero k xs e = ap (λ j. take j xs) (let same : 0 ≡ k = omega (arith, e) in same)
take-twice (suc m) (suc n) k [] e = sym (take-none k)
take-twice (suc m) (suc n) zero (x ∷ xs) e = absurd (omega (arith, e))
take-twice (suc m) (suc n) (suc k) (x ∷ xs) e = ap (λ l. x ∷ l) (take-twice m n k xs (omega (arith, e)))

drop-take : (m n k : ℕ) (xs : List ℕ) → k ≡ n - m → drop m (take n xs) ≡ take k (drop m xs)
drop-take zero n k xs e = ap (λ j. take j xs) (let same : n ≡ k = omega (arith, e) in same)
drop-take (suc m) zero k xs e = ap (λ j. take j (drop (suc m) xs)) (let same : 0 ≡ k = omega (arith, e) in same)
drop-take (suc m) (suc n) k [] e = sym (take-none k)
drop-take (suc m) (suc n) k (x ∷ xs) e = drop-take m n k xs (omega (arith, e))

drop-twice : (m n k : ℕ) (xs : List ℕ) → k ≡ n + m → drop m (drop n xs) ≡ drop k xs
drop-twice m zero k xs e = ap (λ j. drop j xs) (let same : m ≡ k = omega (arith, e) in same)
drop-twice m (suc n) k [] e = drop-none m ∙ sym (drop-none k)
drop-twice m (suc n) zero (x ∷ xs) e = absurd (omega (arith, e))
drop-twice m (suc n) (suc k) (x ∷ xs) e = drop-twice m n k xs (omega (arith, e))

less_or : (a b : ℕ) → (a < b) ⊎ (b ≤ a)
less_or a zero = inr (omega arith)
less_or zero (suc b) = inl (omega arith)
less_or (suc a) (suc b) = shift (less_or a b)
  where
    shift : (a < b) ⊎ (b ≤ a) → (suc a < suc b) ⊎ (suc b ≤ suc a)
    shift (inl l) = inl (omega (arith, l))
    shift (inr r) = inr (omega (arith, r))

take-same : (a b : ℕ) (xs : List ℕ) → (a ≡ b) ⊎ (length xs ≡ 0) → take a xs ≡ take b xs
take-same a b xs (inl same) = ap (λ k. take k xs) same
take-same a b [] (inr none) = take-none a ∙ sym (take-none b)
take-same a b (x ∷ xs) (inr none) = absurd (omega (arith, none))

some-runs : (over : Bool) (address : ℕ) (addresses : List ℕ) (offset : ℕ) (bytes : List ℕ) → 0 < length bytes
    → runs_over over (address ∷ addresses) offset bytes
    ≡ record { address = address; offset = offset; bytes = take (4096 - offset) bytes; over = over }
    ∷ runs_over over addresses 0 (drop (4096 - offset) bytes)
some-runs over address addresses offset [] some = absurd (omega (arith, some))
some-runs over address addresses offset (b ∷ bytes) some = refl

no-runs : (over : Bool) (addresses : List ℕ) (offset : ℕ) → runs_over over addresses offset [] ≡ []
no-runs over [] offset = refl
no-runs over (a ∷ addresses) offset = refl

-- of a value the first fragment is full, or it is the last one
first-full : (n : ℕ) (p : ℕ × ℕ) (v : Frags) → IsCut n (p ∷ v) → (p.1 ≡ 4096) ⊎ (v ≡ [])
first-full n p [] cut = inr refl
first-full n p (q ∷ v) cut = inl (omega (arith, cut.1, cut.2.0))

module _ (z : Sizes) (hs : List Holding) where
  behind-first : (p : ℕ × ℕ) (v : Frags) (n : ℕ) → IsCut n (p ∷ v) → IsFilled hs p
      → (take 4096 (frag_bytes hs p ++ value_bytes hs v) ≡ frag_bytes hs p)
      × (drop 4096 (frag_bytes hs p ++ value_bytes hs v) ≡ value_bytes hs v)
  behind-first p v n cut filled = by (first-full n p v cut)
    where
      long : length (frag_bytes hs p) ≡ p.1
      long = length-frag hs p filled

      by : (p.1 ≡ 4096) ⊎ (v ≡ []) → (take 4096 (frag_bytes hs p ++ value_bytes hs v) ≡ frag_bytes hs p)
          × (drop 4096 (frag_bytes hs p ++ value_bytes hs v) ≡ value_bytes hs v)
      by (inl full) = (
        take-front 4096 (frag_bytes hs p) (value_bytes hs v) (omega (arith, long, full))
            ∙ take-whole 4096 (frag_bytes hs p) (omega (arith, long, full)),
        drop-past 4096 0 (frag_bytes hs p) (value_bytes hs v) (omega (arith, long, full)),
      )
      by (inr none) =
          let alone : frag_bytes hs p ++ value_bytes hs v ≡ frag_bytes hs p =
          ap (λ w. frag_bytes hs p ++ value_bytes hs w) none ∙ append-nil (frag_bytes hs p) in
          let short : length (frag_bytes hs p) ≤ 4096 = omega (arith, long, cut.1) in (
            ap (take 4096) alone ∙ take-whole 4096 (frag_bytes hs p) short,
            ap (drop 4096) alone
                ∙ drop-whole 4096 (frag_bytes hs p) short ∙ sym (ap (value_bytes hs) none),
          )

  -- a whole value
  runs-whole : (over : Bool) (n : ℕ) (v : Frags) → IsCut n v → Each (IsFilled hs) v
      → map (λ (p : ℕ × ℕ). let run : PlacedRun = record {
        address = address_of z p.0;
        offset = 0;
        bytes = frag_bytes hs p;
        over = over;
      } in run) v
      ≡ runs_over over (value_addresses z v) 0 (value_bytes hs v)
  runs-whole over n [] cut filled = refl
  runs-whole over n (p ∷ v) cut filled =
      let both = behind-first p v n cut filled.0 in
      let some : 0 < length (frag_bytes hs p ++ value_bytes hs v) =
      omega (arith, cut.0, cut.1, length-frag hs p filled.0, length-append (frag_bytes hs p) (value_bytes hs v)) in
      sym (some-runs over (address_of z p.0) (value_addresses z v) 0 (frag_bytes hs p ++ value_bytes hs v) some
      ∙ (λ i. record { address = address_of z p.0; offset = 0; bytes = both.0 i; over = over } ∷ runs_over over
      (value_addresses z v) 0 (both.1 i))
      ∙ ap (λ l. record { address = address_of z p.0; offset = 0; bytes = frag_bytes hs p; over = over } ∷ l)
      (sym (runs-whole over (n - 4096) v cut.2 filled.1)))

  -- no bytes
  none-placed : (v : Frags) (from : ℕ) → placed_range z hs v from 0 ≡ []
  none-placed [] from = refl
  none-placed (p ∷ v) from =
      let none : min 0 (p.1 - from) ≡ 0 = omega arith in
      let less : 0 - (p.1 - from) ≡ 0 = omega arith in
      (λ i. placed_run z hs p.0 from (none i) ++ placed_range z hs v (from - p.1) (less i)) ∙ none-placed v (from - p.1)

  -- n bytes of the first fragment from an offset on
  part-first : (p : ℕ × ℕ) (from m : ℕ) → from + m ≤ p.1 → take m (drop from (frag_bytes hs p))
      ≡ take m (drop from (bytes_of_words (front_of p.0 hs)))
  part-first p from m inside =
      ap (take m) (drop-take from p.1 (p.1 - from) (bytes_of_words (front_of p.0 hs)) refl)
      ∙ take-twice m (p.1 - from) m (drop from (bytes_of_words (front_of p.0 hs))) (omega (arith, inside))

  -- a range of a value whose first fragment is p, by those of the others
  module _ (n : ℕ) (p : ℕ × ℕ) (v : Frags) (from size : ℕ) (cut : IsCut n (p ∷ v)) (filled : Each (IsFilled hs) (p ∷ v))
      (some : 0 < size) (inside : from + size ≤ size_of (p ∷ v))
      (rest : (f m : ℕ) → f + m ≤ size_of v → placed_range z hs v f m ≡ runs_at false (value_addresses z v) f
      (take m (drop f (value_bytes hs v)))) where
    long : length (frag_bytes hs p) ≡ p.1
    long = length-frag hs p filled.0

    rest_size : size_of v ≡ n - 4096
    rest_size = size-cut (n - 4096) v cut.2

    range_here : from < 4096 → placed_range z hs (p ∷ v) from size ≡ runs_at false (value_addresses z (p ∷ v)) from
        (take size (drop from (value_bytes hs (p ∷ v))))
    range_here near =
        let all : List ℕ = frag_bytes hs p ++ value_bytes hs v in
        let begins : from < p.1 = omega (arith, near, inside, cut.0, cut.1, rest_size, some) in
        let m : ℕ = min size (p.1 - from) in
        let left : ℕ = size - (p.1 - from) in
        let whole_is : from / 4096 ≡ 0 = omega (arith, near) in
        let place_is : from % 4096 ≡ from = omega (arith, near) in
        let past : from - p.1 ≡ 0 = omega (arith, begins) in
        let bytes : List ℕ = take size (drop from all) in
        let front : List ℕ = drop from (frag_bytes hs p) in
        let split : drop from all ≡ front ++ value_bytes hs v = drop-front from (frag_bytes hs p) (value_bytes hs v)
        (omega (arith, long, begins)) in
        let front_long : length front ≡ p.1 - from = omega (arith, length-drop from (frag_bytes hs p), long) in
        let count : length bytes ≡ size =
        omega (
          arith,
          length-take size (drop from all),
          length-drop from all,
          length-append (frag_bytes hs p)
              (value_bytes hs v),
          long,
          length-bytes-value hs v filled.1,
          inside,
        ) in
        let first_bytes : take (4096 - from) bytes ≡ take m (drop from (bytes_of_words (front_of p.0 hs))) =
        take-twice (4096 - from) size m (drop from all) (omega (arith, inside, cut.0, cut.1, rest_size, near))
        ∙ ap (take m) split
        ∙ take-front m front (value_bytes hs v) (omega (arith, front_long))
        ∙ part-first p from m (omega (arith, begins)) in
        let which : (size - (4096 - from) ≡ left) ⊎ (length (value_bytes hs v) ≡ 0) =
        ⊎_elim (λ full. inl (omega (arith, full, near))) (λ none. inr (ap (λ w. length (value_bytes hs w)) none))
        (first-full n p v cut) in
        let last_bytes : drop (4096 - from) bytes ≡ take left (drop 0 (value_bytes hs v)) =
        drop-take (4096 - from) size (size - (4096 - from)) (drop from all) refl
        ∙ ap (take (size - (4096 - from))) (drop-twice (4096 - from) from 4096 all (omega (arith, near))
        ∙ (behind-first p v n cut filled.0).1)
        ∙ take-same (size - (4096 - from)) left (value_bytes hs v) which in
        (λ i. some-run z hs p.0 from m (omega (arith, begins, some)) i ++ placed_range z hs v (past i) left)
        ∙ ap (λ l. placed_part z hs p.0 from m ∷ l) (rest 0 left (omega (arith, inside)))
        ∙ (λ i. record { address = address_of z p.0; offset = from; bytes = sym first_bytes i; over = false }
        ∷ runs_over false (value_addresses z v) 0 (sym last_bytes i))
        ∙ sym (some-runs false (address_of z p.0) (value_addresses z v) from bytes (omega (arith, count, some)))
        ∙ (λ i. runs_over false (drop (sym whole_is i) (value_addresses z (p ∷ v))) (sym place_is i) bytes)

    range_there : 4096 ≤ from → placed_range z hs (p ∷ v) from size ≡ runs_at false (value_addresses z (p ∷ v)) from
        (take size (drop from (value_bytes hs (p ∷ v))))
    range_there far =
        let full : p.1 ≡ 4096 = omega (arith, far, inside, cut.0, cut.1, rest_size, some) in
        let none : min size (p.1 - from) ≡ 0 = omega (arith, far, full) in
        let all_left : size - (p.1 - from) ≡ size = omega (arith, far, full) in
        let past : from - p.1 ≡ from - 4096 = omega (arith, full) in
        let skipped : drop from (frag_bytes hs p ++ value_bytes hs v) ≡ drop (from - 4096) (value_bytes hs v) =
        drop-past from (from - 4096) (frag_bytes hs p) (value_bytes hs v) (omega (arith, long, full, far)) in
        let number : from / 4096 ≡ suc ((from - 4096) / 4096) = omega (arith, far) in
        let place : from % 4096 ≡ (from - 4096) % 4096 = omega (arith, far) in
        (λ i. placed_run z hs p.0 from (none i) ++ placed_range z hs v (past i) (all_left i))
        ∙ rest (from - 4096) size (omega (arith, inside, full, far))
        ∙ (λ i. runs_over false (drop (sym number i) (value_addresses z (p ∷ v))) (sym place i)
        (take size (sym skipped i)))

  range-runs : (n : ℕ) (v : Frags) (from size : ℕ) → IsCut n v → Each (IsFilled hs) v → from + size ≤ size_of v
      → placed_range z hs v from size ≡ runs_at false (value_addresses z v) from
      (take size (drop from (value_bytes hs v)))
  range-runs n v from zero cut filled inside =
      none-placed v from ∙ sym (no-runs false (drop (from / 4096) (value_addresses z v)) (from % 4096))
  range-runs n [] from (suc size) cut filled inside = absurd (omega (arith, inside))
  range-runs n (p ∷ v) from (suc size) cut filled inside =
      let rest = λ (f m : ℕ) (within : f + m ≤ size_of v). range-runs (n - 4096) v f m cut.2 filled.1 within in
      ⊎_elim
      (λ near. range_here n p v from (suc size) cut filled (omega arith) inside rest near)
      (λ far. range_there n p v from (suc size) cut filled (omega arith) inside rest far)
      (less_or from 4096)

  -- and as a piece: where it begins behind the value's end it is empty
  pub range-pieces : (v : Frags) (from size first : ℕ) (bytes : List ℕ) → IsValue z v → Each (IsFilled hs) v
      → from ≡ min first (size_of v) → from + size ≤ size_of v
      → take size (drop from (value_bytes hs v)) ≡ bytes
      → whole (record { extent = ranged; size = size; frags = placed_range z hs v from size }) ∷ []
      ≡ pieces_at ranged false (value bytes) (value_addresses z v) first
  range-pieces v from zero first bytes is filled starts inside text =
      let none : bytes ≡ [] = sym text in
      (λ i. whole (record {
        extent = ranged;
        size = 0;
        frags = (none-placed v from ∙ sym (no-runs false (drop (first / 4096) (value_addresses z v)) (first % 4096)))
            i;
      }) ∷ [])
      ∙ ap (λ b. pieces_at ranged false (value b) (value_addresses z v) first) (sym none)
  range-pieces v from (suc size) first bytes is filled starts inside text =
      let same : from ≡ first = omega (arith, starts, inside) in
      let count : suc size ≡ length bytes =
      omega (
        arith,
        ap length text,
        length-take (suc size) (drop from (value_bytes hs v)),
        length-drop from
            (value_bytes hs v),
        length-bytes-value hs v filled,
        inside,
      ) in
      λ i. whole (record {
        extent = ranged;
        size = count i;
        frags = (range-runs (size_of v) v from (suc size) is.cut filled inside
            ∙ (λ j. runs_at false (value_addresses z v) (same j) (text j))) i;
      }) ∷ []

  module _ (v : Frags) (is : IsValue z v) (filled : Each (IsFilled hs) v) where
    pub size-text : size_of v ≡ length (value_bytes hs v)
    size-text = sym (length-bytes-value hs v filled)

    pub over-pieces : whole (record { extent = entire; size = size_of v; frags = over_all z hs v }) ∷ []
        ≡ pieces_at entire true (value (value_bytes hs v)) (value_addresses z v) 0
    over-pieces = λ i. whole
        (record { extent = entire; size = size-text i; frags = runs-whole true (size_of v) v is.cut filled i }) ∷ []

    pub placed-pieces : whole (record { extent = entire; size = size_of v; frags = placed_all z hs v }) ∷ []
        ≡ pieces_at entire false (value (value_bytes hs v)) (value_addresses z v) 0
    placed-pieces = λ i. whole
        (record { extent = entire; size = size-text i; frags = runs-whole false (size_of v) v is.cut filled i }) ∷ []

pub segs-cut : (z : Sizes) (n : ℕ) (v : Frags) → IsCut n v → segs_of z v ≡ segs_at (value_addresses z v) n
segs-cut z n [] cut = refl
segs-cut z n (p ∷ v) cut = λ i. record { address = address_of z p.0; len = cut.1 i } ∷ segs-cut z (n - 4096) v cut.2 i

length-map : {A B : Type 0} (f : A → B) (xs : List A) → length (map f xs) ≡ length xs
length-map f [] = refl
length-map f (x ∷ xs) = omega (arith, length-map f xs)

-- one address for each fragment
pub count-addresses : (z : Sizes) (bytes : List ℕ) (v : Frags) → IsCut (length bytes) v → length (value_addresses z v)
    ≡ length (model.fragments_of bytes)
count-addresses z bytes v cut =
    let count = cut-count (length bytes) v cut in
    let same : length v ≡ (length bytes + 4095) / 4096 = omega (arith, count.0, count.1) in
    length-map (λ (p : ℕ × ℕ). address_of z p.0) v ∙ same ∙ sym (many_fragments bytes)

-- a list with one item more
pub one-more : {A : Type 0} (xs ys : List A) (x : A) → ys ≡ xs ++ x ∷ [] → length ys ≡ length xs + 1
one-more xs ys x e = ap length e ∙ length-append xs (x ∷ [])

-- a range of no bytes
pub empty_range : (first last : ℤ) (found : List ℕ) (place : ℕ) → whole (begun_with ranged 0) ∷ []
    ≡ pieces_at ranged false (value (range_of [] first last)) found place
empty_range first last found place =
    let none : range_of [] first last ≡ [] = ap (take (end_place 0 last - first_place 0 first))
    (drop-none (first_place 0 first)) ∙ take-none (end_place 0 last - first_place 0 first) in
    (λ i. whole (record {
      extent = ranged;
      size = 0;
      frags = (sym (no-runs false (drop (place / 4096) found) (place % 4096))) i;
    }) ∷ [])
    ∙ ap (λ b. pieces_at ranged false (value b) found place) (sym none)
