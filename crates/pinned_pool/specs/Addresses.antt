-- The addresses of a pool's bytes, as a device sees them.
use Rattle.std.specs.Prelude.{◌≡◌, ℕ, ◌+◌, ◌-◌, ◌*◌, ◌<◌, nat_lt, if◌then◌else◌}
use Rattle.pin_core.specs.Buffers.{buffers, buffer_words}
use Rattle.pin_core.specs.declared.sizes.Sizes.{Sizes}

-- a buffer's first byte
abbrev pub address_of : Sizes → ℕ → ℕ
address_of z b = 1048576 + (if nat_lt b z.small then 512 * b else 512 * z.small + 4096 * (b - z.small))

-- the address is that of the byte at the offset i of the buffer b
abbrev pub Covers : Sizes → ℕ → ℕ → ℕ → Type 0
Covers z b i address = (b < buffers z) × (i < 8 * buffer_words z b) × (address ≡ address_of z b + i)

-- no address is that of two bytes
abbrev pub OneByteEach : Type 0
OneByteEach = (z : Sizes) (b c i j address : ℕ) → Covers z b i address → Covers z c j address → (c ≡ b) × (j ≡ i)
