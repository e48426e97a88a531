-- The places of data words: no two buffers share one.
use Rattle.std.proofs.Common.{◌≡◌, ℕ, ◌+◌, ◌-◌, ◌*◌, ◌<◌, ◌≤◌, ◌≢◌, ◌⊎◌, inl, inr, ⊎_elim, cond, ap, lt_of_not-le}
use Rattle.std.proofs.Common.{arith}
use mathlib.Core.Logic.{dite}
use native.Mathlib.Decide.{dec_le}
use Rattle.std.proofs.lemmas.Bool.{lt-ltb, le-ltb}
use Rattle.pin_core.specs.Buffers.{buffers, buffer_words, start, word_count}
use Rattle.pin_core.specs.declared.sizes.Sizes.{Sizes}

pub record IsSmall (z : Sizes) (b : ℕ) : Type 0 where
  pub below : b < z.small
  pub room_is : buffer_words z b ≡ 64
  pub start_is : start z b ≡ 64 * b

pub record IsLarge (z : Sizes) (b : ℕ) : Type 0 where
  pub above : z.small ≤ b
  pub room_is : buffer_words z b ≡ 512
  pub start_is : start z b ≡ 64 * z.small + 512 * (b - z.small)

pub class_of : (z : Sizes) (b : ℕ) → IsLarge z b ⊎ IsSmall z b
class_of z b = dite (dec_le z.small b)
    (λ le. let e = le-ltb b z.small le in
    inl (record {
      above = le;
      room_is = ap (λ t. cond t 64 512) e;
      start_is = ap (λ t. cond t (64 * b) (64 * z.small + 512 * (b - z.small))) e;
    }))
    (λ n. let e = lt-ltb b z.small (lt_of_not-le n) in
    inr (record {
      below = lt_of_not-le n;
      room_is = ap (λ t. cond t 64 512) e;
      start_is = ap (λ t. cond t (64 * b) (64 * z.small + 512 * (b - z.small))) e;
    }))

-- a buffer's data words lie within those of all buffers
pub place-within : (z : Sizes) (b i : ℕ) → b < buffers z → i < buffer_words z b → start z b + i < word_count z
place-within z b i near within = ⊎_elim (λ l. omega (arith, l.above, l.room_is, l.start_is))
    (λ s. omega (arith, s.below, s.room_is, s.start_is)) (class_of z b)

pub room-within : (z : Sizes) (b : ℕ) → b < buffers z → start z b + buffer_words z b ≤ word_count z
room-within z b near = ⊎_elim (λ l. omega (arith, l.above, l.room_is, l.start_is))
    (λ s. omega (arith, s.below, s.room_is, s.start_is)) (class_of z b)

pub place-apart : (z : Sizes) (b c i j : ℕ) → c ≢ b → i < buffer_words z b → j < buffer_words z c
    → start z c + j ≢ start z b + i
place-apart z b c i j ne within within' =
    ⊎_elim
    (λ l. ⊎_elim (λ m. λ e. omega (arith, l.above, l.room_is, l.start_is, m.above, m.room_is, m.start_is, e))
    (λ s. λ e. omega (arith, l.above, l.room_is, l.start_is, s.below, s.room_is, s.start_is, e)) (class_of z c))
    (λ s. ⊎_elim (λ m. λ e. omega (arith, s.below, s.room_is, s.start_is, m.above, m.room_is, m.start_is, e))
    (λ u. λ e. omega (arith, s.below, s.room_is, s.start_is, u.below, u.room_is, u.start_is, e)) (class_of z c))
    (class_of z b)
