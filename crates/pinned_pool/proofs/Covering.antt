-- No address is that of two bytes.
use Rattle.std.proofs.Common.{◌≡◌, ℕ, ◌+◌, ◌-◌, ◌*◌, ◌<◌, ◌≤◌, ◌⊎◌, inl, inr, ⊎_elim, cond, ap, lt_of_not-le, arith}
use mathlib.Core.Logic.{dite}
use native.Mathlib.Decide.{dec_le}
use Rattle.std.proofs.lemmas.Bool.{lt-ltb, le-ltb}
use Rattle.pin_core.specs.Buffers.{buffer_words}
use Rattle.pin_core.specs.declared.sizes.Sizes.{Sizes}
use Rattle.pinned_pool.specs.Addresses.{address_of, OneByteEach}

-- a small buffer, and a large one
record IsLow (z : Sizes) (b : ℕ) : Type 0 where
  below : b < z.small
  room_is : buffer_words z b ≡ 64
  address_is : address_of z b ≡ 1048576 + 512 * b

record IsHigh (z : Sizes) (b : ℕ) : Type 0 where
  above : z.small ≤ b
  room_is : buffer_words z b ≡ 512
  address_is : address_of z b ≡ 1048576 + (512 * z.small + 4096 * (b - z.small))

class_of : (z : Sizes) (b : ℕ) → IsHigh z b ⊎ IsLow z b
class_of z b = dite (dec_le z.small b)
    (λ le. let e = le-ltb b z.small le in
    inl (record {
      above = le;
      room_is = ap (λ t. cond t 64 512) e;
      address_is = ap (λ t. 1048576 + cond t (512 * b) (512 * z.small + 4096 * (b - z.small))) e;
    }))
    (λ n. let e = lt-ltb b z.small (lt_of_not-le n) in
    inr (record {
      below = lt_of_not-le n;
      room_is = ap (λ t. cond t 64 512) e;
      address_is = ap (λ t. 1048576 + cond t (512 * b) (512 * z.small + 4096 * (b - z.small))) e;
    }))

pub one_byte_each : OneByteEach
one_byte_each z b c i j address p q =
    ⊎_elim
    (λ high. ⊎_elim (λ high'. (omega (arith, p, q, high, high'), omega (arith, p, q, high, high')))
    (λ low'. absurd (omega (arith, p, q, high, low'))) (class_of z c))
    (λ low. ⊎_elim (λ high'. absurd (omega (arith, p, q, low, high')))
    (λ low'. (omega (arith, p, q, low, low'), omega (arith, p, q, low, low'))) (class_of z c))
    (class_of z b)
