-- Which addresses are those of a pool's buffers, by arithmetic.
use Rattle.std.proofs.Common.{◌≡◌, ℕ, ◌+◌, ◌-◌, ◌*◌, ◌<◌, ◌≤◌, Bool, true, false, List, [], ◌∷◌, refl, ap, sym, ◌∙◌}
use Rattle.std.proofs.Common.{arith, nat_lt, nat_le}
use Rattle.std.specs.Prelude.{if◌then◌else◌}
use Rattle.std.specs.List.{AllByRecursion}
use Rattle.view_sums.specs.Total.{Each}
use Rattle.flake_base.specs.declared.segment.Seg.{Seg}
use Rattle.pin_core.specs.declared.class.Class.TheVariants.{Small, Large}
use Rattle.pin_core.specs.declared.sizes.Sizes.{Sizes}
use Rattle.frag_value.specs.Fragments.{class_for}
use Rattle.shard_core.specs.Parts.{IsInBuffer}

-- the first address of the pool, and that of the first large buffer
abbrev pub pool_base : ℕ
pool_base = 1048576

abbrev pub large_base : Sizes → ℕ
large_base sizes = pool_base + 512 * sizes.small

-- the address of a small buffer, and of a large one
pub record IsSmall (sizes : Sizes) (address : ℕ) : Type 0 where
  pub number : ℕ
  pub below : number < sizes.small
  pub is : address ≡ pool_base + 512 * number

pub record IsLarge (sizes : Sizes) (address : ℕ) : Type 0 where
  pub number : ℕ
  pub below : number < sizes.large
  pub is : address ≡ large_base sizes + 4096 * number

-- a fragment of at most 512 bytes lies in a small buffer, any other in a large one
abbrev pub IsBuffer : Sizes → Seg → Type 0
IsBuffer sizes fragment = fits (nat_le fragment.len 512) where
  fits : Bool → Type 0
  fits true = IsSmall sizes fragment.address
  fits false = IsLarge sizes fragment.address

is_short : (n : ℕ) → nat_le n 512 ≡ true → nat_lt 512 n ≡ false
is_short n le = grind arith

is_long : (n : ℕ) → nat_le n 512 ≡ false → nat_lt 512 n ≡ true
is_long n le = grind arith

class_is : (n : ℕ) (b : Bool) → nat_lt 512 n ≡ b → (if b then Large else Small) ≡ class_for n
class_is n b is = ap (λ test. if test then Large else Small) (sym is)

in_small : (sizes : Sizes) (seg : Seg) → nat_le seg.len 512 ≡ true → IsSmall sizes seg.address → IsInBuffer sizes seg
in_small sizes seg short is =
    let near : nat_lt is.number sizes.small ≡ true = grind arith in
    record {
      buffer = is.number;
      near = omega (arith, is.below);
      address_is = is.is ∙ ap
          (λ (b : Bool). 1048576
          + (if b then 512 * is.number else 512 * sizes.small + 4096 * (is.number - sizes.small))) (sym near);
      class_is = ap (λ (b : Bool). if b then Small else Large) near ∙ class_is seg.len false (is_short seg.len short);
    }

in_large : (sizes : Sizes) (seg : Seg) → nat_le seg.len 512 ≡ false → IsLarge sizes seg.address → IsInBuffer sizes seg
in_large sizes seg long is =
    let number : ℕ = sizes.small + is.number in
    let far : nat_lt number sizes.small ≡ false = grind arith in
    let behind : number - sizes.small ≡ is.number = omega arith in
    record {
      buffer = number;
      near = omega (arith, is.below);
      address_is = is.is ∙ omega (arith, behind)
          ∙ ap (λ (b : Bool). 1048576 + (if b then 512 * number else 512 * sizes.small + 4096 * (number - sizes.small)))
          (sym far);
      class_is = ap (λ (b : Bool). if b then Small else Large) far ∙ class_is seg.len true (is_long seg.len long);
    }

pub in_buffer : (sizes : Sizes) (seg : Seg) → IsBuffer sizes seg → IsInBuffer sizes seg
in_buffer sizes seg is = by_length (nat_le seg.len 512) refl is
  where
    by_length : (b : Bool) → nat_le seg.len 512 ≡ b
        → elim b as (λ _. Type 0) [ true ↦ IsSmall sizes seg.address | false ↦ IsLarge sizes seg.address ]
        → IsInBuffer sizes seg
    by_length true short at = in_small sizes seg short at
    by_length false long at = in_large sizes seg long at

-- and back
from_small : (sizes : Sizes) (seg : Seg) (is : IsInBuffer sizes seg) → nat_lt is.buffer sizes.small ≡ true
    → IsSmall sizes seg.address
from_small sizes seg is near = record {
  number = is.buffer;
  below = grind arith;
  is = is.address_is ∙ ap
      (λ (b : Bool). 1048576 + (if b then 512 * is.buffer else 512 * sizes.small + 4096 * (is.buffer - sizes.small)))
      near;
}

from_large : (sizes : Sizes) (seg : Seg) (is : IsInBuffer sizes seg) → nat_lt is.buffer sizes.small ≡ false
    → IsLarge sizes seg.address
from_large sizes seg is far =
    let above : sizes.small ≤ is.buffer = grind arith in
    record {
      number = is.buffer - sizes.small;
      below = omega (arith, is.near, above);
      is = is.address_is ∙ ap
          (λ (b : Bool). 1048576
          + (if b then 512 * is.buffer else 512 * sizes.small + 4096 * (is.buffer - sizes.small))) far ∙ omega arith;
    }

other_class : (a b : Bool) → (if a then Small else Large) ≡ (if b then Large else Small) → a ≡ b → ⊥
other_class true true is same = cc
other_class true false is same = cc
other_class false true is same = cc
other_class false false is same = cc

pub from_buffer : (sizes : Sizes) (seg : Seg) → IsInBuffer sizes seg → IsBuffer sizes seg
from_buffer sizes seg is = by_length (nat_le seg.len 512) refl
  where
    by_length : (b : Bool) → nat_le seg.len 512 ≡ b
        → elim b as (λ _. Type 0) [ true ↦ IsSmall sizes seg.address | false ↦ IsLarge sizes seg.address ]
    by_length true short = at (nat_lt is.buffer sizes.small) refl where
      at : (near : Bool) → nat_lt is.buffer sizes.small ≡ near → IsSmall sizes seg.address
      at true near = from_small sizes seg is near
      at false near = absurd
          (other_class (nat_lt is.buffer sizes.small) (nat_lt 512 seg.len) is.class_is
          (near ∙ sym (is_short seg.len short)))
    by_length false long = at (nat_lt is.buffer sizes.small) refl where
      at : (near : Bool) → nat_lt is.buffer sizes.small ≡ near → IsLarge sizes seg.address
      at true near = absurd
          (other_class (nat_lt is.buffer sizes.small) (nat_lt 512 seg.len) is.class_is
          (near ∙ sym (is_long seg.len long)))
      at false near = from_large sizes seg is near

pub all_in : (sizes : Sizes) (segs : List Seg) → AllByRecursion (IsBuffer sizes) segs → Each (IsInBuffer sizes) segs
all_in sizes [] all = tt
all_in sizes (seg ∷ segs) all = (in_buffer sizes seg all.0, all_in sizes segs all.1)

pub all_from : (sizes : Sizes) (segs : List Seg) → Each (IsInBuffer sizes) segs → AllByRecursion (IsBuffer sizes) segs
all_from sizes [] all = tt
all_from sizes (seg ∷ segs) all = (from_buffer sizes seg all.0, all_from sizes segs all.1)
