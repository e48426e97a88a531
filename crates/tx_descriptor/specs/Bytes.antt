-- The 16 bytes of a descriptor.
use Rattle.std.specs.Prelude.{◌≡◌, ℕ, ◌+◌, ◌^◌, ◌<◌, List, [], ◌∷◌, ◌++◌, cond, bit_and, slice_index}
use Rattle.std.specs.Int.{w16, w64, to_le_bytes}
use Rattle.tx_descriptor.specs.declared.legacy.Legacy.{Legacy}

-- EOP is bit 0 of the command byte, and RS bit 3
abbrev pub command_byte : Legacy → ℕ
command_byte v = cond v.eop 1 0 + cond v.rs 8 0

-- DD is bit 0 of the status byte
abbrev pub status_byte : Legacy → ℕ
status_byte v = cond v.dd 1 0

-- address and length, each with its low byte first, then CSO, CMD, STA, CSS and the special field
abbrev pub descriptor_bytes : Legacy → List ℕ
descriptor_bytes v = to_le_bytes w64 v.address
    ++ (to_le_bytes w16 v.len ++ (0 ∷ command_byte v ∷ status_byte v ∷ 0 ∷ 0 ∷ 0 ∷ []))

-- the bits of each byte that the profile leaves 0
abbrev pub reserved : List ℕ
reserved = 0 ∷ 0 ∷ 0 ∷ 0 ∷ 0 ∷ 0 ∷ 0 ∷ 0 ∷ 0 ∷ 0 ∷ 255 ∷ 246 ∷ 254 ∷ 255 ∷ 255 ∷ 255 ∷ []

abbrev pub IsInProfile : List ℕ → ℕ → Type 0
IsInProfile bytes i = bit_and (slice_index bytes i) (slice_index reserved i) ≡ 0

-- byte i is the first that has a bit outside the profile
pub record IsFirstForeign (i : ℕ) (bytes : List ℕ) : Type 0 where
  pub in_range : i < 16
  pub foreign : ¬ (IsInProfile bytes i)
  pub before : (j : ℕ) → j < i → IsInProfile bytes j

-- each number fits its field
abbrev pub IsLegacy : Legacy → Type 0
IsLegacy v = (v.address < 2 ^ 64) × (v.len < 2 ^ 16)
