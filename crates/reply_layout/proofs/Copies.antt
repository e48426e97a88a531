-- Each copied byte lies at its own address.
use Rattle.std.proofs.Common.{◌≡◌, ◌⊎◌, inl, inr, ℕ, zero, suc, ◌+◌, ◌-◌, ◌*◌, ◌/◌, ◌%◌, ◌<◌, ◌≤◌, min, Bool, true}
use Rattle.std.proofs.Common.{false, List, [], ◌∷◌, ◌++◌, length, map, arith, refl, ap, sym, ◌∙◌, append-nil}
use Rattle.std.specs.Prelude.{slice_index, ◌==◌}
use Rattle.std.specs.List.{range_with_len}
use Rattle.std.proofs.lemmas.Bool.{eqb-true, eqb-false}
use Rattle.std.proofs.lemmas.Grind.{flat_map-append}
use Rattle.std.proofs.lemmas.List.{map-append}
use Rattle.flake_base.specs.declared.segment.Seg.{Seg}
use Rattle.reply_layout.specs.Layout.{Placing, copied, pinned, runs, cut, copied_address, copied_of, staging_limit}
use Rattle.reply_layout.specs.Places.{byte_addresses, copies_from, copies_of, AreDisjoint}

range-split : (a n m : ℕ) → range_with_len a (n + m) ≡ range_with_len a n ++ range_with_len (a + n) m
range-split a zero m =
    let count : 0 + m ≡ m = omega arith in
    let from : a ≡ a + 0 = omega arith in
    λ i. range_with_len (from i) (count i)
range-split a (suc n) m =
    let count : suc n + m ≡ suc (n + m) = omega arith in
    let from : a + 1 + n ≡ a + suc n = omega arith in
    ap (range_with_len a) count
    ∙ ap (λ ns. a ∷ ns) (range-split (a + 1) n m ∙ ap (λ k. range_with_len (a + 1) n ++ range_with_len k m) from)

module _ (stage : List ℕ) where
  abbrev address : ℕ → ℕ
  address = copied_address stage

  -- the bytes from the k-th on that one staging buffer has room for
  one_buffer : (a k size : ℕ) → (0 < size → a ≡ address k) → k % 512 + size ≤ 512
      → range_with_len a size ≡ map address (range_with_len k size)
  one_buffer a k zero is fits = refl
  one_buffer a k (suc size) is fits =
      let first : a ≡ address k = is (omega arith) in
      λ i. first i ∷ one_buffer (a + 1) (k + 1) size (next first) (behind size fits) i
    where
      next : a ≡ address k → 0 < size → a + 1 ≡ address (k + 1)
      next first more =
          let same : (k + 1) / 512 ≡ k / 512 = omega arith in
          let one : (k + 1) % 512 ≡ k % 512 + 1 = omega arith in
          omega (arith, first, ap (slice_index stage) same, one)

      behind : (n : ℕ) → k % 512 + suc n ≤ 512 → (k + 1) % 512 + n ≤ 512
      behind zero all = omega arith
      behind (suc n) all = omega arith

  cut_bytes : (more k n : ℕ) → n ≤ more → byte_addresses (cut stage more k n) ≡ map address (range_with_len k n)
  cut_bytes zero k zero within = refl
  cut_bytes zero k (suc n) within = absurd (omega arith)
  cut_bytes (suc more) k zero within = refl
  cut_bytes (suc more) k (suc n) within =
      let size : ℕ = min (suc n) (512 - k % 512) in
      let whole : size + (suc n - size) ≡ suc n = omega arith in
      (λ i. one_buffer (address k) k size (λ some. refl) (omega arith) i ++ cut_bytes more (k + size) (suc n - size)
      (omega arith) i)
      ∙ sym (map-append address (range_with_len k size) (range_with_len (k + size) (suc n - size)))
      ∙ ap (map address) (sym (range-split k size (suc n - size)) ∙ ap (range_with_len k) whole)

  joined : (k n m : ℕ) → map address (range_with_len k n) ++ map address (range_with_len (k + n) m)
      ≡ map address (range_with_len k (n + m))
  joined k n m = sym (map-append address (range_with_len k n) (range_with_len (k + n) m))
      ∙ ap (map address) (sym (range-split k n m))

  copies_bytes : (k r : ℕ) (placings : List Placing)
      → byte_addresses (copies_from stage k (runs r placings)) ≡ map address (range_with_len k (r + copied_of placings))
  copies_bytes k r [] =
      let all : r ≡ r + 0 = omega arith in
      ap byte_addresses (append-nil (cut stage r k r)) ∙ cut_bytes r k r (omega arith)
      ∙ ap (λ n. map address (range_with_len k n)) all
  copies_bytes k r (copied n ∷ placings) =
      let sum : r + n + copied_of placings ≡ r + (n + copied_of placings) = omega arith in
      copies_bytes k (r + n) placings ∙ ap (λ m. map address (range_with_len k m)) sum
  copies_bytes k r (pinned seg ∷ placings) =
      flat_map-append (λ (s : Seg). range_with_len s.address s.len) (cut stage r k r)
      (copies_from stage (k + r) (runs 0 placings))
      ∙ (λ i. cut_bytes r k r (omega arith) i ++ copies_bytes (k + r) 0 placings i)
      ∙ ap (λ m. map address (range_with_len k r) ++ map address (range_with_len (k + r) m)) none
      ∙ joined k r (copied_of placings)
    where
      none : 0 + copied_of placings ≡ copied_of placings
      none = omega arith

pub copies_bytes_of : (stage : List ℕ) (placings : List Placing)
    → byte_addresses (copies_of stage placings) ≡ map (copied_address stage) (range_with_len 0 (copied_of placings))
copies_bytes_of stage placings =
    let none : 0 + copied_of placings ≡ copied_of placings = omega arith in
    copies_bytes stage 0 0 placings ∙ ap (λ n. map (copied_address stage) (range_with_len 0 n)) none

pub addresses_differ : (stage : List ℕ) → AreDisjoint stage → (m n : ℕ) → m < staging_limit * length stage
    → n < staging_limit * length stage
    → copied_address stage m ≡ copied_address stage n → m ≡ n
addresses_differ stage apart m n low high same = by_buffer ((m / 512) == (n / 512)) refl where
  other_buffer : (slice_index stage (m / 512) + 512 ≤ slice_index stage (n / 512))
      ⊎ (slice_index stage (n / 512) + 512 ≤ slice_index stage (m / 512)) → m ≡ n
  other_buffer (inl before) = absurd (omega (arith, same, before))
  other_buffer (inr behind) = absurd (omega (arith, same, behind))

  by_buffer : (b : Bool) → ((m / 512) == (n / 512)) ≡ b → m ≡ n
  by_buffer true is =
      let at : m / 512 ≡ n / 512 = eqb-true (m / 512) (n / 512) is in
      omega (arith, same, at, ap (slice_index stage) at)
  by_buffer false is = other_buffer
      (apart (m / 512) (n / 512) (omega arith) (omega arith) (eqb-false (m / 512) (n / 512) is))
