-- The bytes of a descriptor are within the profile, and spell no other descriptor.
use Rattle.std.proofs.Common.{◌≡◌, ℕ, zero, suc, ◌+◌, List, [], ◌∷◌, drop, get_or, Result, Ok, Err, Bool, true, false}
use Rattle.std.proofs.Common.{not, cond, eqb, bit_and, sym, refl, ap, ◌∙◌, arith}
use Rattle.std.proofs.lemmas.Nat.{from_le_bytes-to_le_bytes_2, from_le_bytes-to_le_bytes_8, and_comm}
use Rattle.std.proofs.Math.Decide.{dec_lt}
use mathlib.Core.Logic.{dite}
use Rattle.std.specs.Int.{w16, w64, from_le_bytes}
use Rattle.std.specs.Prelude.{⊤}
use Rattle.tx_descriptor.specs.Bytes.{descriptor_bytes, reserved, IsInProfile, IsFirstForeign, IsLegacy}
use Rattle.tx_descriptor.specs.declared.legacy.Legacy.{Legacy}
use Rattle.tx_descriptor.specs.declared.legacy.Unsupported.{Unsupported}

-- no byte has a bit of the mask at its place
Clear : List ℕ → List ℕ → Type 0
Clear (b ∷ bs) (m ∷ ms) = (bit_and b m ≡ 0) × Clear bs ms
Clear bs ms = ⊤

clear-at : (bs ms : List ℕ) → Clear bs ms → (i : ℕ) → bit_and (get_or bs i 0) (get_or ms i 0) ≡ 0
unfolding Clear
clear-at [] ms h i = and_comm 0 (get_or ms i 0) ∙ and_comm (get_or ms i 0) 0
clear-at (b ∷ bs) [] h i = and_comm (get_or (b ∷ bs) i 0) 0
clear-at (b ∷ bs) (m ∷ ms) h zero = h.0
clear-at (b ∷ bs) (m ∷ ms) h (suc i) = clear-at bs ms h.1 i

any_byte : (b : ℕ) → bit_and b 0 ≡ 0
any_byte b = and_comm b 0

command : (eop rs : Bool) → bit_and (cond eop 1 0 + cond rs 8 0) 246 ≡ 0
command true true = refl
command true false = refl
command false true = refl
command false false = refl

status : (done : Bool) → bit_and (cond done 1 0) 254 ≡ 0
status true = refl
status false = refl

pub in-profile : (v : Legacy) (i : ℕ) → IsInProfile (descriptor_bytes v) i
unfolding Clear
in-profile v i = let b : ℕ → ℕ = λ k. get_or (descriptor_bytes v) k 0 in clear-at (descriptor_bytes v) reserved (
  any_byte (b 0),
  (
    any_byte (b 1),
    (
      any_byte (b 2),
      (
        any_byte (b 3),
        (
          any_byte (b 4),
          (
            any_byte (b 5),
            (
              any_byte (b 6),
              (
                any_byte (b 7),
                (
                  any_byte (b 8),
                  (
                    any_byte (b 9),
                    (refl, (command v.eop v.rs, (status v.dd, (refl, (refl, (refl, tt)))))),
                  ),
                ),
              ),
            ),
          ),
        ),
      ),
    ),
  ),
) i

-- the bits, as they are read back
eop_of : ℕ → Bool
eop_of b = not (eqb (bit_and b 1) 0)

rs_of : ℕ → Bool
rs_of b = not (eqb (bit_and b 8) 0)

reads-command : (eop rs : Bool) → (eop_of (cond eop 1 0 + cond rs 8 0) ≡ eop)
    × (rs_of (cond eop 1 0 + cond rs 8 0) ≡ rs)
unfolding eop_of rs_of
reads-command true true = (refl, refl)
reads-command true false = (refl, refl)
reads-command false true = (refl, refl)
reads-command false false = (refl, refl)

reads-status : (done : Bool) → eop_of (cond done 1 0) ≡ done
unfolding eop_of
reads-status true = refl
reads-status false = refl

pub one-spelling : (v w : Legacy) → IsLegacy v → IsLegacy w → descriptor_bytes v ≡ descriptor_bytes w → v ≡ w
one-spelling v w a b e =
    let address : v.address ≡ w.address = sym (from_le_bytes-to_le_bytes_8 v.address a.0)
    ∙ ap (λ (x : List ℕ). from_le_bytes w64 x) e ∙ from_le_bytes-to_le_bytes_8 w.address b.0 in
    let len : v.len ≡ w.len = sym (from_le_bytes-to_le_bytes_2 v.len a.1)
    ∙ ap (λ (x : List ℕ). from_le_bytes w16 (drop 8 x)) e ∙ from_le_bytes-to_le_bytes_2 w.len b.1 in
    let eop = sym (reads-command v.eop v.rs).0 ∙ ap (λ (x : List ℕ). eop_of (get_or x 11 0)) e
    ∙ (reads-command w.eop w.rs).0 in
    let rs = sym (reads-command v.eop v.rs).1 ∙ ap (λ (x : List ℕ). rs_of (get_or x 11 0)) e
    ∙ (reads-command w.eop w.rs).1 in
    let done = sym (reads-status v.dd) ∙ ap (λ (x : List ℕ). eop_of (get_or x 12 0)) e ∙ reads-status w.dd in
    λ k. record { address = address k; len = len k; eop = eop k; rs = rs k; dd = done k }

-- there is one first byte with a bit outside the profile
pub first-alike : (bytes : List ℕ) (i j : ℕ) → IsFirstForeign i bytes → IsFirstForeign j bytes → i ≡ j
first-alike bytes i j a b = dite (dec_lt i j) (λ below. absurd (a.foreign (b.before i below)))
    (λ above. dite (dec_lt j i) (λ below. absurd (b.foreign (a.before j below))) (λ beside. omega arith))

byte_of : Result Legacy Unsupported → ℕ
byte_of (Ok v) = 0
byte_of (Err u) = u.byte

pub same-byte : (i j : ℕ) → ◌≡◌ {A = Result Legacy Unsupported} (Err (record { byte = i })) (Err (record { byte = j }))
    → i ≡ j
unfolding byte_of
same-byte i j e = ap byte_of e
